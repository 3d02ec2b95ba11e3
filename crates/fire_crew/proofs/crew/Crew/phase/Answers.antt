use Rattle.std.proofs.Common.{arith}
use denote.Param.Send.{sendable}
use Rattle.match_table.proofs.Growth.{all_grow_same}
use Rattle.fire_crew.proofs.crew.Crew.phase.Goals as goal

pub map_vec-back-requires-after_bounds : goal.map_vec-back-requires-after_bounds
map_vec-back-requires-after_bounds g c κs within = λ i x lt at. search sendable depth 20

pub returns-clause-fits : goal.returns-clause-fits
returns-clause-fits g c = grind arith

pub returns-clause-grow : goal.returns-clause-grow
returns-clause-grow g c = grind arith

pub returns-in-Err-clause-fits : goal.returns-in-Err-clause-fits
returns-in-Err-clause-fits g c = grind arith

pub returns-in-Err-clause-grow : goal.returns-in-Err-clause-grow
returns-in-Err-clause-grow g c = grind (arith, all_grow_same)
