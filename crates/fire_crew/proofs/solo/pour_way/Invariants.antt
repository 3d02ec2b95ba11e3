use Rattle.std.proofs.Common.{◌++◌, length}
use Rattle.store_buf.specs.Runs.{Covers}
use Rattle.fire_crew.proofs.solo.pour_way.Given as goal

abbrev pub invariant-loop-token : goal.invariant-loop-token
invariant-loop-token g l = Covers (l.initial.tokens ++ l.initial.way) (l.tokens ++ l.way)

abbrev pub decreases-loop-token : goal.decreases-loop-token
decreases-loop-token g l = length l.way
