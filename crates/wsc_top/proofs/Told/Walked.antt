-- The status of a run is what the walk of its image decides.
use Rattle.std.specs.Prelude.{◌≡◌, ℕ, suc, ◌+◌, ◌≤◌, List, length, Option, Some, refl}
use Rattle.std.proofs.Common.{sym, subst, arith}
use Rattle.ws_io.specs.Streams.{Takes}
use Rattle.src_ast.specs.Once.{ExactlyOne}
use Rattle.src_ast.specs.Syntax.{Part}
use Rattle.ws_isa.specs.Image.{Image}
use Rattle.port_set.specs.Ports.{Told}
use Rattle.store_buf.specs.Outdoors.{world_with}
use Rattle.work_gen.specs.Job.{words_of}
use Rattle.wsc_top.specs.declared.status.Status.{Status}
use Rattle.wsc_top.specs.declared.status.Status.TheVariants.{ReadFault}
use Rattle.wsc_top.specs.declared.task.Task.{Task}
use Rattle.wsc_top.specs.declared.task.Task.TheVariants.{Job, Assembly, Generate, Bench, Multi}
use Rattle.wsc_top.specs.declared.task.JobTask.{JobTask}
use Rattle.wsc_top.specs.declared.task.JobTask.TheVariants.{Run}
use Rattle.wsc_top.specs.declared.task.RunOptions.{RunOptions}
use Rattle.wsc_top.specs.declared.task.BenchOptions.{BenchOptions}
use Rattle.wsc_top.specs.Tasks.{AsksFor}
use Rattle.job_read.specs.Job.{IsJob, IsTextAnswer}
use Rattle.wsc_top.specs.Jobs.{ProgramAndInput, AreJobs}
use Rattle.wsc_top.specs.Executions.{EndsRun}
use Rattle.wsc_top.specs.Answers as answers
use Rattle.wsc_top.specs.Answers.{Yields, Answered, Answers, IsToldJob, limit_of}
use Rattle.wsc_top.specs.Threads as threads
use Rattle.wsc_top.specs.Threads.{Thread, ThreadsDo, RunsAlone, MultiAnswered, Replies, AreToldJobs}
use Rattle.wsc_top.specs.Threads.{images_of, no_ports, status_of, EachWalkEndsSo, WalksEndSo}
use Rattle.wsc_top.proofs.Calling.Tasks.{OneLine, same_task_by}
use Rattle.wsc_top.proofs.Calling.Calls.{too_much, told_text}
use Rattle.wsc_top.proofs.Told.RunsAlike as alike
use Rattle.wsc_top.proofs.Told.RunsAlike.{refused_job, one_job}
use Rattle.wsc_top.proofs.Told.Runs.{run_ends}
use Rattle.wsc_top.proofs.Reading.JobTexts.{programs_of}
use Rattle.wsc_top.proofs.Reading.JobsOnce.{never_both, one_jobs}
use Rattle.wsc_top.proofs.Several.ThreadAnswers.{are_jobs}

-- the run of an image
yields_walk : (options : RunOptions) (parts : List Part) (input : List ℕ) (handed : List (Option Told))
    (status : Status) (out : List ℕ) (image : Option Image) (back : List (Option Told)) (ran : Image)
    → image ≡ Some ran → Yields (Run options) parts input handed status out image back
    → EndsRun ran (world_with input handed) options.budget status
yields_walk options parts input handed status out found back ran e (answers.Yields.ran image is x tells) =
    grind (arith, run_ends)

answered_walk : (text : List ℕ) → ExactlyOne (IsTextAnswer text) → (options : RunOptions) (parts : List Part)
    (input : List ℕ) (handed : List (Option Told)) → IsJob text parts input
    → (status : Status) (out : List ℕ) (image : Option Image) (back : List (Option Told)) (ran : Image)
    → image ≡ Some ran → Answered (Run options) text handed status out image back
    → EndsRun ran (world_with input handed) options.budget status
answered_walk text once options parts input handed j status out image back ran e (answers.Answered.refused r
    h) = grind (arith, refused_job)
answered_walk text once options parts input handed j status out image back ran e (answers.Answered.done others
    words k y) = subst (λ (x : alike.Job). EndsRun ran (world_with x.1 handed) options.budget status) (one_job
    text once others parts words input k j) (grind (arith, yields_walk))

module _ (one : OneLine) (words : List (List ℕ)) (left after : Option (List ℕ)) (m n : ℕ)
    (handed : List (Option Told)) where
  -- no more is read of what is told than it has
  never_long : (task d : Task) (text bytes : List ℕ) → AsksFor words task → left ≡ Some text
      → length text ≤ limit_of task → AsksFor words d → length bytes ≡ limit_of d + 1
      → Takes left bytes after → ⊥
  never_long task d text bytes line told short q k t = too_much (limit_of task) left text bytes after told
      short (subst (λ (e : Task). length bytes ≡ limit_of e + 1) (same_task_by one words d task q line) k) t

  pub job_walk : ((text : List ℕ) → ExactlyOne (IsTextAnswer text)) → (options : RunOptions)
      (parts : List Part) (input : List ℕ) → IsToldJob words left (Run options) parts input
      → (status : Status) (out : List ℕ) (image : Option Image) (back : List (Option Told)) (ran : Image)
      → image ≡ Some ran → Answers words left after m n handed status out image back
      → EndsRun ran (world_with input handed) options.budget status
  job_walk once options parts input t status out image back ran i (answers.Answers.generated k q e) =
      let same : Generate k ≡ Job (Run options) =
      same_task_by one words (Generate k) (Job (Run options)) q t.line in absurd cc
  job_walk once options parts input t status out image back ran i (answers.Answers.benched o q e x) =
      let same : Bench o ≡ Job (Run options) =
      same_task_by one words (Bench o) (Job (Run options)) q t.line in absurd cc
  job_walk once options parts input t status out image back ran i (answers.Answers.read d text q k x a) =
      let whole : Job d ≡ Job (Run options) = same_task_by one words (Job d) (Job (Run options)) q t.line in
      let same : d ≡ Run options = cc in
      answered_walk text (once text) options parts input handed
      (subst (λ (s : List ℕ). IsJob s parts input) (sym (told_text left t.text text after t.told x)) t.job)
      status out image back ran i
      (subst (λ (e : JobTask). Answered e text handed status out image back) same a)
  job_walk once options parts input t status out image back ran i (answers.Answers.assembled d text q k x a) =
      let same : Assembly d ≡ Job (Run options) =
      same_task_by one words (Assembly d) (Job (Run options)) q t.line in absurd cc
  job_walk once options parts input t status out image back ran i x = grind arith

  pub bench_walk : (options : BenchOptions) → AsksFor words (Bench options) → (status : Status)
      (out : List ℕ) (image : Option Image) (back : List (Option Told)) (ran : Image) → image ≡ Some ran
      → Answers words left after m n handed status out image back
      → EndsRun ran (world_with (words_of options.number) handed) options.run.budget status
  bench_walk options line status out image back ran i (answers.Answers.benched o q e b) =
      let whole : Bench o ≡ Bench options = same_task_by one words (Bench o) (Bench options) q line in
      let same : o ≡ options = cc in
      subst (λ (x : BenchOptions). EndsRun ran (world_with (words_of x.number) handed) x.run.budget status)
      same (yields_walk o.run b.parts (words_of o.number) handed status out image back ran i b.yields)
  bench_walk options line status out image back ran i (answers.Answers.read d text q k x a) =
      let same : Job d ≡ Bench options = same_task_by one words (Job d) (Bench options) q line in absurd cc
  bench_walk options line status out image back ran i (answers.Answers.assembled d text q k x a) =
      let same : Assembly d ≡ Bench options = same_task_by one words (Assembly d) (Bench options) q line in
      absurd cc
  bench_walk options line status out image back ran i x = grind arith

-- each thread runs the walk of its image
threads_walk : (options : RunOptions) (t : ℕ) (xs : List Thread) (handed : List (Option Told))
    (statuses : List Status) (out : List ℕ) (back : List (Option Told))
    → ThreadsDo (RunsAlone options) t xs handed statuses out back
    → EachWalkEndsSo options (images_of xs) (programs_of xs) handed statuses
threads_walk options t xs handed statuses out back threads.ThreadsDo.none = tt
threads_walk options t xs handed statuses out back (threads.ThreadsDo.more {x = x} {others = others} {status =
    s} {statuses = ss} {out = own} {further = further} h rest) =
    grind (arith, yields_walk, threads_walk options (suc t) _ no_ports ss further others rest)

multi_walk : (once : (text : List ℕ) → ExactlyOne (IsTextAnswer text)) (options : RunOptions) (text : List ℕ)
    (jobs : List ProgramAndInput) (handed : List (Option Told)) → AreJobs text jobs
    → (statuses : List Status) (out : List ℕ) (images : List Image) (back : List (Option Told))
    → MultiAnswered options text handed statuses out images back
    → WalksEndSo options images jobs handed (status_of statuses)
multi_walk once options text jobs handed are statuses out images back (threads.MultiAnswered.refused r h) =
    grind (arith, never_both once text jobs r are h)
multi_walk once options text jobs handed are statuses out images back
    (threads.MultiAnswered.done xs a acts) = (
      statuses,
      subst (λ (js : List ProgramAndInput). EachWalkEndsSo options (images_of xs) js handed statuses)
          (one_jobs once text (programs_of xs) jobs (are_jobs text xs a) are) (grind (arith, threads_walk)),
      refl,
    )

module _ (one : OneLine) (words : List (List ℕ)) (left after : Option (List ℕ)) (m n : ℕ)
    (handed : List (Option Told)) where
  pub jobs_walk : ((text : List ℕ) → ExactlyOne (IsTextAnswer text)) → (options : RunOptions)
      (jobs : List ProgramAndInput) → AreToldJobs words left options jobs
      → (status : Status) (out : List ℕ) (image : Option Image) (images : List Image)
      (back : List (Option Told)) → Replies words left after m n handed status out image images back
      → (status ≡ ReadFault → ⊥) → WalksEndSo options images jobs handed status
  jobs_walk once options jobs t status out image images back (threads.Replies.alone (answers.Answers.usage h
      e)) f = absurd (h (Multi options) t.line)
  jobs_walk once options jobs t status out image images back (threads.Replies.alone (answers.Answers.generated
      k q e)) f = grind (arith, same_task_by)
  jobs_walk once options jobs t status out image images back (threads.Replies.alone (answers.Answers.benched o
      q e x)) f = grind (arith, same_task_by)
  jobs_walk once options jobs t status out image images back (threads.Replies.alone (answers.Answers.unread d
      bytes q is rose k x)) f = grind arith
  jobs_walk once options jobs t status out image images back (threads.Replies.alone (answers.Answers.long d
      bytes q is k x)) f = absurd (never_long one words left after m n handed (Multi options) d t.text bytes
      t.line t.told t.short q k x)
  jobs_walk once options jobs t status out image images back (threads.Replies.alone (answers.Answers.read d
      text q k x a)) f = grind (arith, same_task_by)
  jobs_walk once options jobs t status out image images back (threads.Replies.alone (answers.Answers.assembled
      d text q k x a)) f = grind (arith, same_task_by one words (Assembly d) (Multi options) q t.line)
  jobs_walk once options jobs t status out image images back (threads.Replies.together {statuses =
      ss} o text q short takes a) f =
      let whole : Multi o ≡ Multi options = same_task_by one words (Multi o) (Multi options) q t.line in
      let same : o ≡ options = cc in
      let here : text ≡ t.text = grind (arith, told_text) in
      multi_walk once options t.text jobs handed t.jobs_are ss out images back (grind arith)
