use Rattle.trace_check.proofs.Led.{next_any, next_quiet}
use Rattle.trace_check.proofs.recording.next.Goals as goal

pub returns-then-fired-budget : goal.returns-then-fired-budget
returns-then-fired-budget c = next_any c.args.core.now c.args.budget c.fired.result c.pick.result
    c.if-fired-budget.true c.fired.ensures.state c.pick.ensures

pub returns-else-fired-budget : goal.returns-else-fired-budget
returns-else-fired-budget c = next_quiet c.args.core.now c.args.budget c.fired.result c.pick_quiet.result
    c.if-fired-budget.false c.fired.ensures.state c.pick_quiet.ensures
