use Rattle.std.proofs.Common.{arith}
use Rattle.match_table.proofs.Growth.{all_grow_on, all_grow_same}
use Rattle.fire_crew.proofs.solo.go_on.Goals as goal

pub loop-init : goal.loop-init
loop-init g c = grind (arith, all_grow_same)

pub returns-in-Some-clause-grow : goal.returns-in-Some-clause-grow
returns-in-Some-clause-grow g c = grind (arith, all_grow_on)

pub loop-preserved : goal.loop-preserved
loop-preserved g c = grind (arith, all_grow_on)
