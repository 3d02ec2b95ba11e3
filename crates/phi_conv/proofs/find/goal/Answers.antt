use Rattle.std.proofs.Common.{sym, ap}
use Rattle.cfg_core.specs.Graph.{Spot, no_spot}
use Rattle.phi_conv.specs.Short as short
use Rattle.phi_conv.proofs.find.goal.Goals as goal

pub returns-in-None : goal.returns-in-None
unfolding no_spot
returns-in-None c = sym (ap (λ (s : Spot). short.goal s.block.exit) c.in-None.ensures)
