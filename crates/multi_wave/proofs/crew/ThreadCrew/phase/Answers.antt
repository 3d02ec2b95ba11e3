use Rattle.std.proofs.Common.{subst, sym}
use denote.Param.Send.{sendable}
use Rattle.multi_wave.specs.Fours.{EachTo, Fourfold}
use Rattle.multi_wave.specs.Stands.{CameHome, Housed}
use Rattle.multi_wave.proofs.Homes.{all_stay_home}
use Rattle.multi_wave.proofs.crew.ThreadCrew.phase.Goals as goal

pub map_vec-back-requires-after_bounds : goal.map_vec-back-requires-after_bounds
map_vec-back-requires-after_bounds g c κs within = λ i x lt at. search sendable depth 20

pub returns : goal.returns
returns g c = subst (λ (was : Fourfold Housed). EachTo CameHome was c.gather-2.result) (sym c.requires.named)
    c.gather-2.ensures

pub returns-in-Err : goal.returns-in-Err
returns-in-Err g c = all_stay_home c.args.homes c.in-Err.homes c.in-Err.ensures c.requires.fit
