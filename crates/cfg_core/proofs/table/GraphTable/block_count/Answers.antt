use Rattle.std.proofs.Common.{arith}
use Rattle.cfg_core.proofs.Spots.{count_is}
use Rattle.cfg_core.proofs.table.GraphTable.block_count.Goals as goal

pub returns : goal.returns
returns c = omega (arith, count_is c.args.self.now, c.args.self.now.spots.ok.0, c.len.ensures)
