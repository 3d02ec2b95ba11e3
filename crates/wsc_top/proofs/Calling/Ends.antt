-- The status of an answer, by what its task comes to.
use Rattle.std.specs.Prelude.{◌≡◌, ℕ, ◌+◌, ◌≤◌, List, Option, Some, length, refl}
use Rattle.std.specs.List.{AllByRecursion}
use Rattle.std.proofs.Common.{subst, inl, arith}
use Rattle.ws_words.specs.Outside.{IsMachineWord}
use Rattle.port_set.specs.Ports.{Told}
use Rattle.store_buf.specs.Outdoors.{world_with}
use Rattle.src_ast.specs.Syntax.{Part}
use Rattle.src_ast.specs.Once.{ExactlyOne}
use Rattle.ws_isa.specs.Image.{Image}
use Rattle.work_gen.specs.Job.{words_of, job_text}
use Rattle.ws_io.specs.Streams.{Takes}
use Rattle.wsc_top.specs.declared.task.Task.TheVariants.{Job, Assembly, Generate, Bench}
use Rattle.wsc_top.specs.declared.task.JobTask.{JobTask}
use Rattle.wsc_top.specs.declared.task.JobTask.TheVariants.{Run, Format, Compile, Plain}
use Rattle.wsc_top.specs.declared.task.AssemblyTask.{AssemblyTask}
use Rattle.wsc_top.specs.declared.task.PlainOptions.{PlainOptions}
use Rattle.wsc_top.specs.declared.task.BenchOptions.{BenchOptions}
use Rattle.wsc_top.specs.declared.status.Status.{Status}
use Rattle.wsc_top.specs.declared.status.Status.TheVariants.{ReadFault}
use Rattle.wsc_top.specs.Tasks.{AsksFor}
use Rattle.job_read.specs.Job.{IsJob, IsTextAnswer}
use Rattle.asm_read.specs.Reads.{world_of}
use Rattle.asm_read.specs.Assembly.{IsAssembly}
use Rattle.wsc_top.specs.Generated.{IsGeneratedJob}
use Rattle.wsc_top.specs.Answers.{TellWords, Yields, formatted, compiled, ended, faulted, going, JobEndsSo}
use Rattle.wsc_top.specs.Answers.{Answered, refused, done, assembly_text, AssemblyYields, checked, listed}
use Rattle.wsc_top.specs.Answers.{executed, traced, replayed, gridded, AssemblyEndsSo, AssemblyAnswered}
use Rattle.wsc_top.specs.Answers.{Benched, BenchEndsSo, IsReader, limit_of, Answers, usage, generated}
use Rattle.wsc_top.specs.Answers.{benched, unread, long, read, assembled, IsToldJob, IsToldAssembly}
use Rattle.wsc_top.specs.Answers as answers
use Rattle.wsc_top.specs.declared.task.Task.{Task}
use Rattle.wsc_top.proofs.Calling.Tasks.{OneLine, same_task_by}
use Rattle.wsc_top.proofs.Reading.AnswersOnce.{RunsOnce}
use Rattle.asm_read.proofs.Once.{one_assembly, never_both, BreachesBreak}
use Rattle.wsc_top.proofs.Told.RunsAlike.{refused_job, one_job}
use Rattle.wsc_top.proofs.Told.Runs.{run_ends}
use Rattle.wsc_top.proofs.Told.Tells.{input_words, run_so}
use Rattle.wsc_top.proofs.Calling.Calls.{too_much, told_text}

module _ (law : RunsOnce) (options : PlainOptions) (parts : List Part) (input : List ℕ)
    (handed : List (Option Told)) where
  plain_so : (status : Status) (out : List ℕ) (image : Option Image) (back : List (Option Told))
      → Yields (Plain options) parts input handed status out image back
      → JobEndsSo (Plain options) parts input handed status
  plain_so status out image back (ended n end r w) = record {
    done = λ h. inl refl;
    fault = λ h. absurd (law.no_end_with_a_fault parts (world_of input) n h.0 h.1 end h.2 r h.3);
    budget = λ h. absurd (law.no_end_on_the_way parts (world_of input) n options.turns end h.0 w r h.1);
  }
  plain_so status out image back (faulted n array state f w) = record {
    done = λ h. absurd (law.no_end_with_a_fault parts (world_of input) h.0 n array h.1 state h.2 f);
    fault = λ h. inl refl;
    budget = λ h. absurd (law.no_fault_on_the_way parts (world_of input) n options.turns array state h.0 w f
        h.1);
  }
  plain_so status out image back (going now g) = record {
    done = λ h. absurd (law.no_end_on_the_way parts (world_of input) h.0 options.turns h.1 now h.3 h.2 g);
    fault = λ h. absurd (law.no_fault_on_the_way parts (world_of input) h.0 options.turns h.1 h.2 now h.4 h.3
        g);
    budget = λ h. inl refl;
  }

format_so : (parts : List Part) (input : List ℕ) (handed : List (Option Told)) (status : Status)
    (out : List ℕ) (image : Option Image) (back : List (Option Told))
    → Yields Format parts input handed status out image back → JobEndsSo Format parts input handed status
format_so parts input handed status out image back (formatted r) = grind arith

compile_so : (parts : List Part) (input : List ℕ) (handed : List (Option Told)) (status : Status)
    (out : List ℕ) (image : Option Image) (back : List (Option Told))
    → Yields Compile parts input handed status out image back → JobEndsSo Compile parts input handed status
compile_so parts input handed status out again back (compiled image h) = grind arith

yields_so : RunsOnce → (task : JobTask) (parts : List Part) (input : List ℕ) (handed : List (Option Told))
    → AllByRecursion IsMachineWord input → TellWords handed
    → (status : Status) (out : List ℕ) (image : Option Image) (back : List (Option Told))
    → Yields task parts input handed status out image back → JobEndsSo task parts input handed status
yields_so law (Run options) parts input handed words told status out image back y = grind (arith, run_so)
yields_so law Format parts input handed words told status out image back y = grind (arith, format_so)
yields_so law Compile parts input handed words told status out image back y = grind (arith, compile_so)
yields_so law (Plain options) parts input handed words told status out image back y = grind (arith, plain_so)

-- so of an answer to a job
answered_so : RunsOnce → (text : List ℕ) → ExactlyOne (IsTextAnswer text)
    → (task : JobTask) (parts : List Part) (input : List ℕ) (handed : List (Option Told)) → TellWords handed
    → IsJob text parts input
    → (status : Status) (out : List ℕ) (image : Option Image) (back : List (Option Told))
    → Answered task text handed status out image back → JobEndsSo task parts input handed status
answered_so law text once task parts input handed told j status out image back (refused r h) =
    absurd (refused_job text once r parts input h j)
answered_so law text once task parts input handed told j status out image back (done others words k y) =
    grind (arith, one_job text once others parts words input k j, yields_so, input_words _ _ words k.words)

-- and to an assembly
assembly_so : (task : AssemblyTask) (text : List ℕ) (image : Image) (input : List ℕ)
    (handed : List (Option Told)) (status : Status) (out : List ℕ) (again : Option Image)
    (back : List (Option Told))
    → AssemblyYields task text image input handed status out again back
    → AssemblyEndsSo task text image input handed status
assembly_so task text image input handed status out again back checked = refl
assembly_so task text image input handed status out again back listed = refl
assembly_so task text image input handed status out again back (executed {options} e) =
    run_ends options image (world_with input handed) handed back status out e
assembly_so task text image input handed status out again back (traced t e) = e
assembly_so task text image input handed status out again back (replayed r e) = e
assembly_so task text image input handed status out again back (gridded r e) = e

assembly_answered_so : BreachesBreak → (task : AssemblyTask) (text : List ℕ) (image : Image) (input : List ℕ)
    (handed : List (Option Told)) → IsAssembly (assembly_text task text) image input
    → (status : Status) (out : List ℕ) (again : Option Image) (back : List (Option Told))
    → AssemblyAnswered task text handed status out again back → AssemblyEndsSo task text image input
    handed status
assembly_answered_so breaks task text image input handed a status out again back
    (answers.AssemblyAnswered.refused r h) =
    absurd (never_both (assembly_text task text) breaks image input r a h)
assembly_answered_so breaks task text image input handed a status out again back
    (answers.AssemblyAnswered.done found words b y) =
    let same = one_assembly (assembly_text task text) found image words input b a in
    grind (arith, assembly_so)

module _ (one : OneLine) (words : List (List ℕ)) (left after : Option (List ℕ)) (m n : ℕ)
    (handed : List (Option Told)) where
  -- no more is read of what is told than it has
  not_long : (task d : Task) (text bytes : List ℕ) → AsksFor words task → left ≡ Some text
      → length text ≤ limit_of task
      → AsksFor words d → length bytes ≡ limit_of d + 1 → Takes left bytes after → ⊥
  not_long task d text bytes line told short q k t = too_much (limit_of task) left text bytes after told short
      (subst (λ (e : Task). length bytes ≡ limit_of e + 1) (same_task_by one words d task q line) k) t

  pub job_answer_so : RunsOnce → ((text : List ℕ) → ExactlyOne (IsTextAnswer text))
      → (task : JobTask) (parts : List Part) (input : List ℕ) → TellWords handed
      → IsToldJob words left task parts input
      → (status : Status) (out : List ℕ) (image : Option Image) (back : List (Option Told))
      → Answers words left after m n handed status out image back
      → (status ≡ ReadFault → ⊥) → JobEndsSo task parts input handed status
  job_answer_so law once task parts input told t status out image back (usage h e) f =
      absurd (h (Job task) t.line)
  job_answer_so law once task parts input told t status out image back (generated k q e) f =
      let same : Generate k ≡ Job task = same_task_by one words (Generate k) (Job task) q t.line in absurd cc
  job_answer_so law once task parts input told t status out image back (benched o q e x) f =
      let same : Bench o ≡ Job task = same_task_by one words (Bench o) (Job task) q t.line in absurd cc
  job_answer_so law once task parts input told t status out image back (unread d bytes q is rose k x) f =
      absurd (f refl)
  job_answer_so law once task parts input told t status out image back (long d bytes q is k x) f =
      absurd (not_long (Job task) d t.text bytes t.line t.told t.short q k x)
  job_answer_so law once task parts input told t status out image back (read d text q k x a) f =
      let whole : Job d ≡ Job task = same_task_by one words (Job d) (Job task) q t.line in
      let same : d ≡ task = cc in
      subst (λ (e : JobTask). JobEndsSo e parts input handed status) same (answered_so law text (once text) d
      parts input handed told (grind (arith, told_text)) status out image back a)
  job_answer_so law once task parts input told t status out image back (assembled d text q k x a) f =
      let same : Assembly d ≡ Job task = same_task_by one words (Assembly d) (Job task) q t.line in absurd cc

  pub assembly_answer_so : BreachesBreak → (task : AssemblyTask) (image : Image) (input : List ℕ)
      (t : IsToldAssembly words left task image input)
      → (status : Status) (out : List ℕ) (again : Option Image) (back : List (Option Told))
      → Answers words left after m n handed status out again back
      → (status ≡ ReadFault → ⊥) → AssemblyEndsSo task t.text image input handed status
  assembly_answer_so breaks task image input t status out again back (usage h e) f =
      absurd (h (Assembly task) t.line)
  assembly_answer_so breaks task image input t status out again back (generated k q e) f =
      grind (arith, same_task_by one words (Generate k) (Assembly task) q t.line)
  assembly_answer_so breaks task image input t status out again back (benched o q e x) f =
      grind (arith, same_task_by one words (Bench o) (Assembly task) q t.line)
  assembly_answer_so breaks task image input t status out again back (unread d bytes q is rose k x) f =
      absurd (f refl)
  assembly_answer_so breaks task image input t status out again back (long d bytes q is k x) f =
      absurd (not_long (Assembly task) d t.text bytes t.line t.told t.short q k x)
  assembly_answer_so breaks task image input t status out again back (read d text q k x a) f =
      let same : Job d ≡ Assembly task = same_task_by one words (Job d) (Assembly task) q t.line in absurd cc
  assembly_answer_so breaks task image input t status out again back (assembled d text q k x a) f =
      let whole : Assembly d ≡ Assembly task = same_task_by one words (Assembly d) (Assembly task) q t.line in
      grind (arith, told_text, assembly_answered_so)

  bench_so : RunsOnce → (once : (text : List ℕ) → ExactlyOne (IsTextAnswer text))
      → (options : BenchOptions) (parts : List Part) → TellWords handed → IsGeneratedJob options.number parts
      → (status : Status) (out : List ℕ) (image : Option Image) (back : List (Option Told))
      → Benched options handed status out image back → BenchEndsSo options parts handed status
  bench_so law once options parts told job status out image back b = answered_so law (job_text options.number)
      (once (job_text options.number)) (Run options.run) parts (words_of options.number) handed told job.job
      status out image back (done b.parts (words_of options.number) b.job.job b.yields)

  pub bench_answer_so : RunsOnce → ((text : List ℕ) → ExactlyOne (IsTextAnswer text))
      → (options : BenchOptions) (parts : List Part) → TellWords handed → AsksFor words (Bench options)
      → IsGeneratedJob options.number parts
      → (status : Status) (out : List ℕ) (image : Option Image) (back : List (Option Told))
      → Answers words left after m n handed status out image back
      → BenchEndsSo options parts handed status
  bench_answer_so law once options parts told line job status out image back (usage h e) =
      absurd (h (Bench options) line)
  bench_answer_so law once options parts told line job status out image back (generated k q e) =
      grind (arith, same_task_by)
  bench_answer_so law once options parts told line job status out image back (benched o q e b) =
      let whole : Bench o ≡ Bench options = same_task_by one words (Bench o) (Bench options) q line in
      let same : o ≡ options = cc in
      bench_so law once options parts told job status out image back (grind arith)
  bench_answer_so law once options parts told line job status out image back (unread d bytes q is rose k x) =
      absurd (subst IsReader (same_task_by one words d (Bench options) q line) is)
  bench_answer_so law once options parts told line job status out image back (long d bytes q is k x) =
      absurd (subst IsReader (same_task_by one words d (Bench options) q line) is)
  bench_answer_so law once options parts told line job status out image back (read d text q k x a) =
      let same : Job d ≡ Bench options = same_task_by one words (Job d) (Bench options) q line in absurd cc
  bench_answer_so law once options parts told line job status out image back (assembled d text q k x a) =
      grind (arith, same_task_by)
