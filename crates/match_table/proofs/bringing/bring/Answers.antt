use Rattle.std.proofs.Common.{arith}
use Rattle.match_table.proofs.Coming.{brought_grow, brought_one, brought_serve, brought_there}
use Rattle.match_table.proofs.Growth.{grow_many}
use Rattle.match_table.proofs.bringing.bring.Goals as goal

pub returns-clause-serve : goal.returns-clause-serve
returns-clause-serve g c = grind (arith, brought_serve)

pub returns-clause-grow : goal.returns-clause-grow
returns-clause-grow g c = grind (arith, brought_grow)

pub returns-clause-as_many : goal.returns-clause-as_many
returns-clause-as_many g c = grow_many _ _ (returns-clause-grow g c)

pub returns-clause-one : goal.returns-clause-one
returns-clause-one g c = grind (arith, brought_one)

pub returns-clause-come : goal.returns-clause-come
returns-clause-come g c = grind (arith, brought_there)
