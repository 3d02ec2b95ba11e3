use Rattle.match_table.specs.Rows.{contents}
use Rattle.match_table.proofs.Growth.{all_grow_same}
use Rattle.fire_crew.proofs.crew.Crew.share.Goals as goal

pub returns-in-Ok-None-clause-grow : goal.returns-in-Ok-None-clause-grow
returns-in-Ok-None-clause-grow g c = all_grow_same (contents c.args.tables)

pub returns-in-Err-clause-grow : goal.returns-in-Err-clause-grow
returns-in-Err-clause-grow g c = all_grow_same (contents c.args.tables)
