use Rattle.std.proofs.Common.{◌≡◌, refl, ℕ, ◌+◌, List, None, Result, Err, sym, ap, ◌∙◌, subst}
use Rattle.asm_text.specs.declared.fault.AsmKind.TheVariants.{Line}
use Rattle.asm_text.specs.declared.fault.AsmFault.{AsmFault}
use Rattle.asm_text.specs.declared.fault.AsmFault.TheVariants as fault
use Rattle.asm_text.specs.Reading.{Fault, Reads}
use Rattle.trace_check.specs.declared.events.Lined.{Lined}
use Rattle.trace_check.specs.Traces.{events_in}
use Rattle.asm_read.specs.declared.assembly.AsmRefusal.TheVariants.{Text}
use Rattle.wsc_top.specs.declared.status.Status.TheVariants.{Refused}
use Rattle.asm_read.specs.Texts.{asm_refusal_text}
use Rattle.wsc_top.specs.Traced as traces
use Rattle.wsc_top.specs.Traced.{IsReplayed}
use Rattle.wsc_top.proofs.Told.Replays.{ends_replay, nothing_there, something_there, section_events}
use Rattle.wsc_top.proofs.traces.replayed.Goals as goal

pub returns-then-is_empty-clause-told : goal.returns-then-is_empty-clause-told
returns-then-is_empty-clause-told c =
    let none = nothing_there c.args.text.now _ _ c.requires.section c.is_empty.ensures
    c.if-is_empty.true in
    subst (λ (o : List ℕ). IsReplayed c.args.text.now c.args.image c.args.input Refused o None)
    (sym (c.in_ok-asm_refused.ensures ∙ ap (λ (n : ℕ). asm_refusal_text (Text Line n))
    c.last_line.ensures.line)) (traces.IsReplayed.missing none)

pub returns-in-Ok-made-clause-told : goal.returns-in-Ok-made-clause-told
returns-in-Ok-made-clause-told c =
    let some = something_there c.args.text.now _ _ c.requires.section c.is_empty.ensures
    c.if-is_empty.false in
    let events = section_events c.args.text.now _ _ _ _ c.split_at.ensures.front
    c.requires.section c.after_line.ensures.after c.last_line-2.ensures.line in
    traces.IsReplayed.read c.in-Ok.trace (record { there = some; events = sym events ∙ c.in-Ok.ensures })
    c.in-Ok-made.ensures

pub returns-in-Ok-made-clause-ends : goal.returns-in-Ok-made-clause-ends
returns-in-Ok-made-clause-ends c = ends_replay c.args.text.now c.args.image c.args.input
    (c.traces_are_replayed_once.ensures.whole c.args.image _ c.image-2.ensures.formed c.image-2.ensures.sound)
    _ _ _ (returns-in-Ok-made-clause-told c)

pub returns-in-Err-Refused-clause-told : goal.returns-in-Err-Refused-clause-told
returns-in-Err-Refused-clause-told c =
    let some = something_there c.args.text.now _ _ c.requires.section c.is_empty.ensures
    c.if-is_empty.false in
    let events = section_events c.args.text.now _ _ _ _ c.split_at.ensures.front
    c.requires.section c.after_line.ensures.after c.last_line-2.ensures.line in
    let kind = c.in-Err-Refused.kind in
    let line = c.in-Err-Refused.line in
    let is : c.in-Err-Refused.field-0 ≡ fault.Refused kind line = cc in
    let spelled : Result (List Lined) Fault = events_in (c.last_line-2.result + 1) c.after_line.result.now in
    let reads = subst (λ (f : AsmFault). Reads (λ (t : List Lined). t) (Err f) spelled) is
    c.in-Err-Refused.ensures in
    subst (λ (o : List ℕ). IsReplayed c.args.text.now c.args.image c.args.input Refused o None)
    (sym (c.in_ok-asm_refused-in-Err-Refused.ensures))
    (traces.IsReplayed.faulty kind line some (sym events ∙ reads))

pub returns-in-Ok-clause-begun : goal.returns-in-Ok-clause-begun
returns-in-Ok-clause-begun c =
    let some = something_there c.args.text.now _ _ c.requires.section c.is_empty.ensures
    c.if-is_empty.false in
    let events = section_events c.args.text.now _ _ _ _ c.split_at.ensures.front
    c.requires.section c.after_line.ensures.after c.last_line-2.ensures.line in
    (refl, c.in-Ok.trace, record { there = some; events = sym events ∙ c.in-Ok.ensures })
