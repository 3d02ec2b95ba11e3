use Rattle.std.proofs.Common.{◌≡◌, sym, subst}
use Rattle.trace_check.specs.declared.replaying.ReplayFault.TheVariants.{Illegal}
use Rattle.trace_check.specs.Replays.{Replays, IsReplayFault}
use Rattle.wsc_top.specs.declared.status.Status.TheVariants.{Done, Refused}
use Rattle.wsc_top.specs.Traced as traces
use Rattle.wsc_top.specs.Traced.{IsMade}
use Rattle.wsc_top.proofs.traces.made.Goals as goal

pub returns-in-Ok : goal.returns-in-Ok
returns-in-Ok c = subst (IsMade c.args.image.now c.args.input c.args.trace.now Done) (sym
    c.in_ok-told-in-Ok.ensures) (traces.IsMade.made c.in-Ok.replayed (subst (λ w. Replays c.args.image.now w
    c.args.trace.now c.in-Ok.replayed) c.in_ok-world.ensures c.in-Ok.ensures.replayed))

pub returns-in-Err-Illegal : goal.returns-in-Err-Illegal
returns-in-Err-Illegal c =
    let is : c.in-Err-Illegal.field-0 ≡ Illegal c.in-Err-Illegal.line = cc in
    let there = subst (λ w. IsReplayFault c.args.image.now w c.args.trace.now c.in-Err-Illegal.field-0)
    c.in_ok-world.ensures c.in-Err-Illegal.ensures.refused in
    subst (IsMade c.args.image.now c.args.input c.args.trace.now Refused)
    (sym c.in_ok-illegal-in-Err-Illegal.ensures)
    (traces.IsMade.illegal c.in-Err-Illegal.line (subst (IsReplayFault c.args.image.now _ c.args.trace.now) is
    there))
