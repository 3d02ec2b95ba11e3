use Rattle.std.proofs.Common.{arith}
use Rattle.match_table.proofs.Served.{nothing_held}
use Rattle.match_table.proofs.together.is_there.Goals as goal

pub returns-in-None : goal.returns-in-None
returns-in-None g c = grind (arith, nothing_held)
