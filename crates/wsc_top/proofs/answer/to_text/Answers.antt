use Rattle.std.proofs.Common.{◌≡◌, ◌∙◌, ap, subst}
use Rattle.src_ast.specs.declared.fault.TextFault.TheVariants as fault
use Rattle.src_ast.specs.View as view
use Rattle.asm_read.specs.Texts.{refusal_text}
use Rattle.job_read.specs.Job.{IsRefused}
use Rattle.job_read.proofs.Jobs.{job_written}
use Rattle.wsc_top.proofs.Reading.Jobs.{job_step, refused_step}
use Rattle.wsc_top.proofs.Calling.Calls.{err_same, job_begun}
use Rattle.wsc_top.proofs.answer.to_text.Goals as goal

pub yielded-requires : goal.yielded-requires
yielded-requires c = job_written c.args.text.now (view.parts c.in-Ok.accepted.program.items.items)
    c.in-Ok.input c.read_is_written.ensures c.in-Ok.ensures.ok

pub returns-in_ok-yielded-in-Ok-clause-ok : goal.returns-in_ok-yielded-in-Ok-clause-ok
returns-in_ok-yielded-in-Ok-clause-ok c = job_step c.args.task c.args.text.now
    (view.parts c.in-Ok.accepted.program.items.items) c.in-Ok.input _ c.in-Ok.ensures.ok
    c.in_ok-yielded-in-Ok.ensures.ok

pub returns-in_ok-text-in-Err-Refused-clause-ok : goal.returns-in_ok-text-in-Err-Refused-clause-ok
returns-in_ok-text-in-Err-Refused-clause-ok c =
    let is : c.in-Err-Refused.field-0 ≡ fault.Refused c.in-Err-Refused.refusal = cc in
    refused_step c.args.task c.args.text.now _ c.in-Err-Refused.refusal
    (subst (IsRefused c.args.text.now) is c.in-Err-Refused.ensures.refused)
    (c.built.ensures ∙ c.in_ok-text-in-Err-Refused.ensures ∙ ap refusal_text c.in-Err-Refused.refusal-is)

pub returns-in_err-yielded-in-Ok-clause-begun : goal.returns-in_err-yielded-in-Ok-clause-begun
returns-in_err-yielded-in-Ok-clause-begun c =
    err_same _ _ c.in_err-yielded-in-Ok.field-0.0 c.from_residual.ensures.1
    (job_begun c.args.task c.args.text.now (view.parts c.in-Ok.accepted.program.items.items) c.in-Ok.input _
    c.in-Ok.ensures.ok c.in_err-yielded-in-Ok.ensures.begun)
