use Rattle.std.proofs.Common.{sym}
use Rattle.wsc_top.proofs.task.read_task.Goals as goal

pub returns-in-Ok-clause-some : goal.returns-in-Ok-clause-some
returns-in-Ok-clause-some c = (c.in-Ok.line, c.in-Ok.ensures.ok, sym c.task_of.ensures)

pub returns-in-Err-Usage-clause-none : goal.returns-in-Err-Usage-clause-none
returns-in-Err-Usage-clause-none c task line = c.in-Err-Usage.ensures.usage (cc) line.0 line.1
