use Rattle.std.proofs.Common.{ap}
use Rattle.cfg_core.specs.Graph.{Spot, no_spot}
use Rattle.phi_conv.specs.Short as short
use Rattle.phi_conv.proofs.find.arm_to.Goals as goal

pub returns-in-None : goal.returns-in-None
unfolding no_spot
returns-in-None c = ap (λ (s : Spot). short.is_arm s.block c.args.j) c.in-None.ensures
