use Rattle.std.proofs.Common.{length}
use Rattle.fire_crew.proofs.hand.put_sent.Given as goal

abbrev pub decreases-loop-sent : goal.decreases-loop-sent
decreases-loop-sent g l = length l.sent
