use Rattle.std.proofs.Common.{arith}
use Rattle.match_table.proofs.Listed.{fired_now}
use Rattle.match_table.proofs.table.Table.key_at.Goals as goal

pub returns : goal.returns
returns g c = grind (arith, fired_now)
