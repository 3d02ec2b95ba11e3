use Rattle.std.proofs.Common.{◌≡◌, ◌+◌, map, drop}
use Rattle.cfg_core.specs.View as view
use Rattle.phi_conv.specs.Joined as joined
use Rattle.phi_conv.proofs.arms.turns_of.Given as goal

abbrev pub invariant-loop-op : goal.invariant-loop-op
invariant-loop-op l = l.turns + joined.turns_of (map view.op (drop l.op-index l.arm)) ≡ joined.turns_of
    (map view.op l.arm)
