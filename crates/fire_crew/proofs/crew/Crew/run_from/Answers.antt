use Rattle.std.proofs.Common.{arith}
use Rattle.match_table.proofs.Growth.{grow_many}
use Rattle.fire_crew.proofs.crew.Crew.run_from.Goals as goal

pub returns-clause-as_many : goal.returns-clause-as_many
returns-clause-as_many g c = grind (arith, grow_many)

pub returns-then-self-eq1-clause-as_many : goal.returns-then-self-eq1-clause-as_many
returns-then-self-eq1-clause-as_many g c = grind (arith, grow_many)
