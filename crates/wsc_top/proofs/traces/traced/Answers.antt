use Rattle.std.proofs.Common.{sym, subst}
use Rattle.trace_check.specs.Recorded.{Traces}
use Rattle.asm_read.specs.Reads.{world_of}
use Rattle.wsc_top.specs.Executions.{EndsRun}
use Rattle.wsc_top.proofs.Told.Replays.{ends_run}
use Rattle.wsc_top.proofs.traces.traced.Goals as goal

pub returns-clause-ends : goal.returns-clause-ends
returns-clause-ends c =
    let made = subst (λ w. Traces c.args.image.now w c.args.budget c.in_ok-traced.traced.events
    c.in_ok-traced.traced.end) c.in_ok-world.ensures c.in_ok-traced.ensures in
    subst (EndsRun c.args.image.now (world_of c.args.input) c.args.budget) (sym c.status_of.ensures)
    (ends_run c.args.image.now (world_of c.args.input) c.args.budget c.in_ok-traced.traced.events
    c.in_ok-traced.traced.end made)
