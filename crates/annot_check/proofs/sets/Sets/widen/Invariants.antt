use Rattle.std.proofs.Common.{◌≡◌}
use Rattle.annot_check.proofs.sets.Sets.widen.Given as goal

abbrev pub invariant-loop-set : goal.invariant-loop-set
invariant-loop-set l = l.self.nodes.items ≡ l.fn.self.nodes.items
