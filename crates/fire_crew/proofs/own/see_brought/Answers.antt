use Rattle.match_table.specs.Rows.{contents}
use Rattle.match_table.proofs.Growth.{all_grow_same}
use Rattle.fire_crew.proofs.own.see_brought.Goals as goal

pub returns-then-fired-budget-clause-grow : goal.returns-then-fired-budget-clause-grow
returns-then-fired-budget-clause-grow g c = all_grow_same (contents c.args.tables.now)
