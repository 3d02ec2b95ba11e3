use Rattle.std.proofs.Common.{◌≡◌, map, drop}
use Rattle.cfg_core.specs.View as view
use Rattle.phi_conv.specs.Joined as joined
use Rattle.phi_conv.proofs.written.add_all_written.Given as goal

abbrev pub invariant-loop-op : goal.invariant-loop-op
invariant-loop-op l = joined.written l.done.items (map view.op (drop l.op-index l.ops)) ≡ joined.written
    l.initial.done.items (map view.op l.ops)
