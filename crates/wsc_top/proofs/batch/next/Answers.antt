use Rattle.std.proofs.Common.{◌<◌, List, ℕ, length, sym, ap, ◌∙◌, subst}
use Rattle.asm_read.specs.Sections.{after_line}
use Rattle.wsc_top.proofs.Reading.JobTexts.{behind_short}
use Rattle.wsc_top.proofs.batch.next.Goals as goal

pub returns-clause-fewer : goal.returns-clause-fewer
returns-clause-fewer c further = subst (λ (rest : List ℕ). length rest < length c.args.text.now) (sym
    (c.after_line-rest.ensures.after ∙ ap after_line c.split.ensures.rest)) (behind_short c.args.text.now
    further)
