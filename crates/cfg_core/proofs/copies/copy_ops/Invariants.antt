use Rattle.std.proofs.Common.{◌≡◌, ◌++◌, map, drop}
use Rattle.cfg_core.specs.View as view
use Rattle.cfg_core.proofs.copies.copy_ops.Given as goal

abbrev pub invariant-loop-op : goal.invariant-loop-op
invariant-loop-op l = map view.op l.list.items ++ map view.op (drop l.op-index l.ops) ≡ map view.op l.ops
