use Rattle.std.specs.Prelude.{refl}
use Rattle.wsc_top.specs.declared.task.Task.TheVariants.{Job}
use Rattle.wsc_top.proofs.Calling.Calls.{known_step, err_same, unread_step, long_step, read_step, none_out}
use Rattle.wsc_top.proofs.Calling.Calls.{some_read}
use Rattle.wsc_top.proofs.Calling.Calls.{job_out}
use Rattle.wsc_top.proofs.answer.of_job.Goals as goal

pub returns-in_ok-to_text-in-Ok-clause-ok : goal.returns-in_ok-to_text-in-Ok-clause-ok
returns-in_ok-to_text-in-Ok-clause-ok g c words line = read_step words _ _ _ _ _ _ c.args.task _ line
    c.in-Ok.ensures.within c.in-Ok.ensures.ok c.as_slice.ensures c.in_ok-to_text-in-Ok.ensures.ok

pub returns-in-Err-Failed-clause-ok : goal.returns-in-Err-Failed-clause-ok
returns-in-Err-Failed-clause-ok g c words line =
    known_step words _ _ _ _ _ _ c.plain.ensures (unread_step words _ _ _ _ (Job c.args.task) line tt
    (c.in-Err-Failed.ensures.failed (cc)) (c.in-Err-Failed.ensures.failed_taken (cc)))

pub returns-in-Err-TooLong-clause-ok : goal.returns-in-Err-TooLong-clause-ok
returns-in-Err-TooLong-clause-ok g c words line = known_step words _ _ _ _ _ _ c.plain-in-Err-TooLong.ensures
    (long_step words _ _ _ _ (Job c.args.task) line tt (c.in-Err-TooLong.ensures.long (cc)))

pub returns-in_err-to_text-in-Ok-clause-memory : goal.returns-in_err-to_text-in-Ok-clause-memory
returns-in_err-to_text-in-Ok-clause-memory g c = err_same _ _ c.in_err-to_text-in-Ok.field-0.0
    c.from_residual.ensures.1 (λ words line. job_out words _ _ _ _ c.args.task _ line c.in-Ok.ensures.within
    c.in-Ok.ensures.ok c.as_slice.ensures c.in_err-to_text-in-Ok.ensures.begun)

pub returns-in-Err-NoMemory-clause-memory : goal.returns-in-Err-NoMemory-clause-memory
returns-in-Err-NoMemory-clause-memory g c words line = none_out words _ _ _ refl (some_read words _ _ (Job
    c.args.task) line tt (c.in-Err-NoMemory.ensures.memory (cc)))
