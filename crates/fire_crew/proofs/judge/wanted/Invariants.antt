use Rattle.std.proofs.Common.{length}
use Rattle.fire_crew.proofs.judge.wanted.Given as goal

abbrev pub decreases-loop-token : goal.decreases-loop-token
decreases-loop-token g l = length l.tokens
