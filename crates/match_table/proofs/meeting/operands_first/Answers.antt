use Rattle.std.proofs.Common.{arith}
use Rattle.match_table.proofs.Held.{first_full, first_open}
use Rattle.match_table.proofs.meeting.operands_first.Goals as goal

pub returns-then-ports-eq1 : goal.returns-then-ports-eq1
returns-then-ports-eq1 c = first_full c.args.port c.args.value c.args.ports c.requires.0 c.if-ports-eq1.true

pub returns-else-ports-eq1 : goal.returns-else-ports-eq1
returns-else-ports-eq1 c = grind (arith, first_open)
