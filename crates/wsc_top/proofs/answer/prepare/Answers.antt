use Rattle.std.proofs.Common.{◌∙◌}
use Rattle.wsc_top.specs.declared.task.Task.TheVariants.{Job, Assembly, Generate, Bench, Multi}
use Rattle.wsc_top.proofs.Calling.Tasks.{found_line}
use Rattle.wsc_top.proofs.Told.Grids.{line_in_range}
use Rattle.wsc_top.proofs.Calling.Calls.{known_step, err_same, err_none, none_out, none_read, some_read}
use Rattle.wsc_top.proofs.Calling.Calls.{no_line}
use Rattle.wsc_top.proofs.Calling.Calls.{usage_step, generated_step, bench_step}
use Rattle.wsc_top.proofs.answer.prepare.Goals as goal

pub returns-in-None-clause-ok : goal.returns-in-None-clause-ok
returns-in-None-clause-ok g c = known_step _ _ _ _ _ _ _ c.plain.ensures (usage_step _ _ _ _ (no_line _
    c.in_ok-read_task.field-0 c.in_ok-read_task.ensures.none (λ t e. cc)))

pub returns-in_ok-text-in-Some-Generate-clause-ok : goal.returns-in_ok-text-in-Some-Generate-clause-ok
returns-in_ok-text-in-Some-Generate-clause-ok g c =
    let number = c.in-Some-Generate.number in
    let line = found_line _ c.in_ok-read_task.field-0 (Generate number) c.in_ok-read_task.ensures.some (cc) in
    generated_step _ _ _ _ number _ line (c.built.ensures ∙ c.in_ok-text-in-Some-Generate.ensures)

pub returns-in_ok-image-in-Some-Bench-clause-ok : goal.returns-in_ok-image-in-Some-Bench-clause-ok
returns-in_ok-image-in-Some-Bench-clause-ok g c =
    let line = found_line _ c.in_ok-read_task.field-0 (Bench c.in-Some-Bench.options)
    c.in_ok-read_task.ensures.some (cc) in
    bench_step _ _ c.in-Some-Bench.options _ _ line c.in_ok-image-in-Some-Bench.ensures

pub returns-in_ok-of_job-in-Some-Job-clause-ok : goal.returns-in_ok-of_job-in-Some-Job-clause-ok
returns-in_ok-of_job-in-Some-Job-clause-ok g c =
    let line = found_line _ c.in_ok-read_task.field-0 (Job c.in-Some-Job.task) c.in_ok-read_task.ensures.some
    (cc) in
    c.in_ok-of_job-in-Some-Job.ensures.ok _ line

pub of_assembly-requires : goal.of_assembly-requires
of_assembly-requires g c = line_in_range _ c.in-Some-Assembly.task
    (found_line _ c.in_ok-read_task.field-0 (Assembly c.in-Some-Assembly.task) c.in_ok-read_task.ensures.some
    (cc))

pub returns-in_ok-of_assembly-in-Some-Assembly-clause-ok :
    goal.returns-in_ok-of_assembly-in-Some-Assembly-clause-ok
returns-in_ok-of_assembly-in-Some-Assembly-clause-ok g c =
    let line = found_line _ c.in_ok-read_task.field-0 (Assembly c.in-Some-Assembly.task)
    c.in_ok-read_task.ensures.some (cc) in
    c.in_ok-of_assembly-in-Some-Assembly.ensures.ok _ line

pub returns-in_ok-of_jobs-in-Some-Multi-clause-ok : goal.returns-in_ok-of_jobs-in-Some-Multi-clause-ok
returns-in_ok-of_jobs-in-Some-Multi-clause-ok g c =
    let line = found_line _ c.in_ok-read_task.field-0 (Multi c.in-Some-Multi.options)
    c.in_ok-read_task.ensures.some (cc) in
    c.in_ok-of_jobs-in-Some-Multi.ensures.ok _ line

pub returns-in_err-read_task-clause-memory : goal.returns-in_err-read_task-clause-memory
returns-in_err-read_task-clause-memory g c = err_none _ _ c.from_residual.ensures.1
    (λ s e. none_out _ _ _ s.image e (none_read _ _))

pub returns-in_err-text-in-Some-Generate-clause-memory :
    goal.returns-in_err-text-in-Some-Generate-clause-memory
returns-in_err-text-in-Some-Generate-clause-memory g c = err_none _ _
    c.from_residual-in_err-text-in-Some-Generate.ensures.1 (λ s e. none_out _ _ _ s.image e (none_read _ _))

pub returns-in_err-image-in-Some-Bench-clause-memory : goal.returns-in_err-image-in-Some-Bench-clause-memory
returns-in_err-image-in-Some-Bench-clause-memory g c = err_none _ _
    c.from_residual-in_err-image-in-Some-Bench.ensures.1 (λ s e. none_out _ _ _ s.image e (none_read _ _))

pub returns-in_err-of_job-in-Some-Job-clause-memory : goal.returns-in_err-of_job-in-Some-Job-clause-memory
returns-in_err-of_job-in-Some-Job-clause-memory g c =
    let line = found_line _ c.in_ok-read_task.field-0 (Job c.in-Some-Job.task) c.in_ok-read_task.ensures.some
    (cc) in
    err_same _ _ c.in_err-of_job-in-Some-Job.field-0.0 c.from_residual-in_err-of_job-in-Some-Job.ensures.1
    (c.in_err-of_job-in-Some-Job.ensures.memory _ line)

pub returns-in_err-of_assembly-in-Some-Assembly-clause-memory :
    goal.returns-in_err-of_assembly-in-Some-Assembly-clause-memory
returns-in_err-of_assembly-in-Some-Assembly-clause-memory g c =
    let line = found_line _ c.in_ok-read_task.field-0 (Assembly c.in-Some-Assembly.task)
    c.in_ok-read_task.ensures.some (cc) in
    err_same _ _ c.in_err-of_assembly-in-Some-Assembly.field-0.0
    c.from_residual-in_err-of_assembly-in-Some-Assembly.ensures.1
    (c.in_err-of_assembly-in-Some-Assembly.ensures.memory _ line)

pub returns-in_err-of_jobs-in-Some-Multi-clause-memory :
    goal.returns-in_err-of_jobs-in-Some-Multi-clause-memory
returns-in_err-of_jobs-in-Some-Multi-clause-memory g c =
    let line = found_line _ c.in_ok-read_task.field-0 (Multi c.in-Some-Multi.options)
    c.in_ok-read_task.ensures.some (cc) in
    err_none _ _ c.from_residual-in_err-of_jobs-in-Some-Multi.ensures.1
    (λ s e. none_out _ _ _ s.image e (some_read _ _ _ (Multi c.in-Some-Multi.options) line tt
    c.in_err-of_jobs-in-Some-Multi.ensures.memory))
