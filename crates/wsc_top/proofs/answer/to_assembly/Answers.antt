use Rattle.std.proofs.Common.{◌∙◌, ap}
use Rattle.asm_read.specs.Texts.{asm_refusal_text}
use Rattle.wsc_top.proofs.Reading.BeforeTrace.{program_for}
use Rattle.wsc_top.proofs.Calling.Calls.{sound_step, unsound_step, err_same, assembly_begun}
use Rattle.wsc_top.proofs.answer.to_assembly.Goals as goal

pub returns-in_ok-assembly_yielded-in-Ok-clause-ok : goal.returns-in_ok-assembly_yielded-in-Ok-clause-ok
returns-in_ok-assembly_yielded-in-Ok-clause-ok c = sound_step c.args.task c.args.text.now c.in-Ok.image
    c.in-Ok.input _ (c.in-Ok.ensures.ok _ (c.split.ensures.program ∙ program_for c.args.task c.args.text.now)
    (c.words_and_trace.ensures.words _ c.split.ensures.input)) c.in_ok-assembly_yielded-in-Ok.ensures.ok

pub returns-in_ok-text-in-Err-Refused-clause-ok : goal.returns-in_ok-text-in-Err-Refused-clause-ok
returns-in_ok-text-in-Err-Refused-clause-ok c =
    unsound_step c.args.task c.args.text.now _ c.in-Err-Refused.field-0 c.in-Err-Refused.why (cc)
    (c.in-Err-Refused.ensures.refused _ (c.split.ensures.program ∙ program_for c.args.task c.args.text.now)
    (c.words_and_trace.ensures.words _ c.split.ensures.input))
    (c.built.ensures ∙ c.in_ok-text-in-Err-Refused.ensures ∙ ap asm_refusal_text c.in-Err-Refused.why-is)

pub returns-in_err-assembly_yielded-in-Ok-clause-begun :
    goal.returns-in_err-assembly_yielded-in-Ok-clause-begun
returns-in_err-assembly_yielded-in-Ok-clause-begun c = err_same _ _ c.in_err-assembly_yielded-in-Ok.field-0.0
    c.from_residual.ensures.1 (assembly_begun c.args.task c.args.text.now c.in-Ok.image c.in-Ok.input _
    (c.in-Ok.ensures.ok _ (c.split.ensures.program ∙ program_for c.args.task c.args.text.now)
    (c.words_and_trace.ensures.words _ c.split.ensures.input)) c.in_err-assembly_yielded-in-Ok.ensures.begun)

pub assembly_yielded-requires-clause-trace : goal.assembly_yielded-requires-clause-trace
assembly_yielded-requires-clause-trace c is =
    c.words_and_trace.ensures.trace c.args.text.now c.split.ensures.input is
