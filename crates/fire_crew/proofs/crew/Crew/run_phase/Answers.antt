use Rattle.std.proofs.Common.{arith, subst, sym}
use Rattle.match_table.proofs.Growth.{all_grow_same}
use Rattle.match_table.specs.Together.{AllServe}
use Rattle.fire_crew.proofs.crew.Crew.run_phase.Goals as goal

pub returns-in_default-clause-serve : goal.returns-in_default-clause-serve
returns-in_default-clause-serve g c = subst (λ t. AllServe t) (sym c.starved_phase.ensures) c.requires.serve

pub returns-in_default-clause-grow : goal.returns-in_default-clause-grow
returns-in_default-clause-grow g c = grind (arith, all_grow_same)

pub returns-in_default-dealt-clause-serve : goal.returns-in_default-dealt-clause-serve
returns-in_default-dealt-clause-serve g c = grind arith

pub returns-in_default-dealt-clause-grow : goal.returns-in_default-dealt-clause-grow
returns-in_default-dealt-clause-grow g c = grind (arith, all_grow_same)

pub phase-after-requires-clause-fits : goal.phase-after-requires-clause-fits
phase-after-requires-clause-fits g c κs within = grind arith

pub fitting-requires-clause-fits : goal.fitting-requires-clause-fits
fitting-requires-clause-fits g c = grind arith
