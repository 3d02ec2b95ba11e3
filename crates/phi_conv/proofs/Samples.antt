-- The sample's joined graph, computed.
use Rattle.std.proofs.Common.{◌≡◌, refl}
use Rattle.cfg_core.specs.Graph.{spot_at, no_spot}
use Rattle.phi_conv.specs.Joined.{joined}
use Rattle.phi_conv.specs.Samples.{chooses, chooses_live, chooses_joined}

-- the joined graph of the sample
pub chooses_is : joined chooses chooses_live ≡ chooses_joined
unfolding spot_at no_spot
chooses_is = refl
