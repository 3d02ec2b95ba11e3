use Rattle.std.proofs.Common.{◌≡◌, map, drop}
use Rattle.cfg_core.specs.View as view
use Rattle.phi_conv.specs.Short as short
use Rattle.phi_conv.proofs.find.all_light.Given as goal

abbrev pub invariant-loop-op : goal.invariant-loop-op
invariant-loop-op l = short.all_light (map view.op (drop l.op-index l.ops)) ≡ short.all_light
    (map view.op l.ops)
