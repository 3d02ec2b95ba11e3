use Rattle.std.proofs.Common.{arith}
use Rattle.match_table.proofs.Listed.{asked_now}
use Rattle.match_table.proofs.table.Table.asked_key_at.Goals as goal

pub returns : goal.returns
returns g c = grind (arith, asked_now)
