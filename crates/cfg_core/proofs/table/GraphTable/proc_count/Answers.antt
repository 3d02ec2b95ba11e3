use Rattle.std.proofs.Common.{arith}
use Rattle.cfg_core.proofs.Spots.{rooms_are}
use Rattle.cfg_core.proofs.table.GraphTable.proc_count.Goals as goal

pub returns : goal.returns
returns c = omega (arith, rooms_are c.args.self.now, c.args.self.now.rooms.ok.0, c.len.ensures)
