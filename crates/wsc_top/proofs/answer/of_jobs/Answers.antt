use Rattle.wsc_top.specs.declared.task.Task.TheVariants.{Multi}
use Rattle.wsc_top.proofs.Calling.Calls.{known_step, unread_step, long_step, jobs_step}
use Rattle.wsc_top.proofs.answer.of_jobs.Goals as goal

pub returns-in_ok-to_jobs-in-Ok-clause-ok : goal.returns-in_ok-to_jobs-in-Ok-clause-ok
returns-in_ok-to_jobs-in-Ok-clause-ok g c words line = jobs_step words _ _ _ _ _ _ c.args.options _ line
    c.in-Ok.ensures.within c.in-Ok.ensures.ok c.as_slice.ensures c.in_ok-to_jobs-in-Ok.ensures

pub returns-in-Err-Failed-clause-ok : goal.returns-in-Err-Failed-clause-ok
returns-in-Err-Failed-clause-ok g c words line =
    known_step words _ _ _ _ _ _ c.plain.ensures (unread_step words _ _ _ _ (Multi c.args.options) line tt
    (c.in-Err-Failed.ensures.failed (cc)) (c.in-Err-Failed.ensures.failed_taken (cc)))

pub returns-in-Err-TooLong-clause-ok : goal.returns-in-Err-TooLong-clause-ok
returns-in-Err-TooLong-clause-ok g c words line = known_step words _ _ _ _ _ _ c.plain-in-Err-TooLong.ensures
    (long_step words _ _ _ _ (Multi c.args.options) line tt (c.in-Err-TooLong.ensures.long (cc)))
