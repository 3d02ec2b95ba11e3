use Rattle.std.proofs.Common.{arith}
use Rattle.match_table.proofs.Growth.{all_grow_on}
use Rattle.fire_crew.proofs.crew.Crew.turn.Goals as goal

pub returns-clause-grow : goal.returns-clause-grow
returns-clause-grow g c = grind (arith, all_grow_on)
