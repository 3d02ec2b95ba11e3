use Rattle.std.proofs.Common.{◌≡◌}
use Rattle.call_gen.specs.Spelled.{below}
use Rattle.call_gen.proofs.doors.below.Given as goal

abbrev pub invariant-loop-x : goal.invariant-loop-x
invariant-loop-x l = l.list.items ≡ below l.x
