use Rattle.std.proofs.Common.{◌≡◌, ◌∙◌, ap, subst}
use Rattle.src_ast.specs.declared.fault.TextFault.TheVariants as fault
use Rattle.src_ast.specs.View as view
use Rattle.asm_read.specs.Texts.{refusal_text}
use Rattle.job_read.specs.Job.{IsRefused}
use Rattle.job_read.proofs.Jobs.{job_written}
use Rattle.opt_top.proofs.call.answer.Goals as goal

pub optimized-requires : goal.optimized-requires
optimized-requires c = job_written c.args.text.now (view.parts c.in-Ok.accepted.program.items.items) _
    c.read_is_written.ensures c.in-Ok.ensures.ok
