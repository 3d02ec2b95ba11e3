use Rattle.std.proofs.Common.{◌≡◌, ◌∙◌, ap, subst, refl}
use Rattle.wsc_top.specs.declared.batch.JobsFault.TheVariants as fault
use Rattle.wsc_top.specs.Jobs.{IsJobsFault, jobs_refusal_text}
use Rattle.wsc_top.proofs.answer.to_jobs.Goals as goal

pub returns-in_ok-text-in-Err-Refused : goal.returns-in_ok-text-in-Err-Refused
returns-in_ok-text-in-Err-Refused c =
    let is : c.in-Err-Refused.field-0 ≡ fault.Refused c.in-Err-Refused.refusal = cc in (
      refl,
      refl,
      c.in-Err-Refused.refusal,
      subst (IsJobsFault c.args.text.now) is c.in-Err-Refused.ensures.refused,
      c.built.ensures ∙ c.in_ok-text-in-Err-Refused.ensures ∙ ap jobs_refusal_text
          c.in-Err-Refused.refusal-is,
    )
