use Rattle.std.proofs.Common.{ap}
use Rattle.wsc_top.proofs.Reading.JobTexts.{few_jobs, is_crowded}
use Rattle.wsc_top.proofs.batch.crowded.Goals as goal

pub returns-then-is_last-clause-none : goal.returns-then-is_last-clause-none
returns-then-is_last-clause-none c = few_jobs _ _ _ _ c.next.ensures.rest c.next-2.ensures.rest
    c.next-3.ensures.rest (c.is_last.ensures.last c.if-is_last.true)

pub returns-clause-some : goal.returns-clause-some
returns-clause-some c = is_crowded _ _ _ _ c.next.ensures.rest c.next-2.ensures.rest c.next-3.ensures.rest _ _
    _ _ _ c.next.ensures.place c.next-2.ensures.place c.next-3.ensures.place (c.is_last.ensures.further
    c.if-is_last.false) c.split.ensures.job (ap (λ p. p.line) c.place_after.ensures.following)
