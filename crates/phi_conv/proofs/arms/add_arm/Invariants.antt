use Rattle.std.proofs.Common.{◌≡◌, ◌++◌, [], map, drop}
use Rattle.cfg_core.specs.View as view
use Rattle.phi_conv.specs.Joined as joined
use Rattle.phi_conv.proofs.arms.add_arm.Given as goal

abbrev pub invariant-loop-op : goal.invariant-loop-op
invariant-loop-op l = map view.op l.ops.items ++ joined.arm l.base l.done.items
    (map view.op (drop l.op-index l.arm)) ≡ map view.op l.initial.ops.items ++ joined.arm l.base []
    (map view.op l.arm)
