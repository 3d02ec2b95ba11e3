-- The words of a call, and the answer to them.
use Rattle.std.specs.Prelude.{◌≡◌, ℕ, ◌+◌, ◌≤◌, List, [], length, Option, Some, None, IfNone, Result, IfErr}
use Rattle.std.specs.Prelude.{IsErrAnd, IfSome, refl}
use Rattle.std.proofs.Common.{sym, ◌∙◌, subst, arith, length-append, append-nil, inl, inr}
use Rattle.ws_words.specs.Outside.{World}
use Rattle.ws_io.specs.Streams.{Rose, Takes, TakesAll}
use Rattle.src_ast.specs.Syntax.{Part}
use Rattle.ws_isa.specs.Image.{Image}
use Rattle.port_set.specs.Ports.{Told}
use Rattle.store_buf.specs.Outdoors.{RoseAt, world_with}
use Rattle.wsc_top.specs.declared.task.JobTask.{JobTask}
use Rattle.wsc_top.specs.declared.task.Task.{Task}
use Rattle.wsc_top.specs.declared.task.Task.TheVariants.{Job, Assembly, Generate, Bench, Multi}
use Rattle.wsc_top.specs.declared.task.JobTask.TheVariants.{Compile}
use Rattle.wsc_top.specs.declared.task.AssemblyTask.{AssemblyTask}
use Rattle.wsc_top.specs.declared.task.AssemblyTask.TheVariants.{Replay}
use Rattle.trace_check.specs.declared.events.Lined.{Lined}
use Rattle.wsc_top.specs.declared.task.RunOptions.{RunOptions}
use Rattle.wsc_top.specs.declared.task.BenchOptions.{BenchOptions}
use Rattle.wsc_top.specs.declared.step.CallStep.{CallStep}
use Rattle.wsc_top.specs.declared.step.StarvedCall.{StarvedCall}
use Rattle.wsc_top.specs.declared.step.CallStep.TheVariants.{Ready, Run as Due, Threads as Many}
use Rattle.asm_read.specs.declared.assembly.AsmRefusal.{AsmRefusal}
use Rattle.asm_read.specs.declared.assembly.AssemblyFault.{AssemblyFault}
use Rattle.asm_read.specs.declared.assembly.AssemblyFault.TheVariants as fault
use Rattle.wsc_top.specs.declared.status.Status.{Status}
use Rattle.wsc_top.specs.declared.status.Status.TheVariants.{Done, Usage, Refused, ReadFault, WriteFault}
use Rattle.wsc_top.specs.declared.status.Status.TheVariants.{PortFault, NoMemory}
use Rattle.asm_read.specs.Assembly.{assembly_limit, IsAssembly, IsAssemblyFault}
use Rattle.work_gen.specs.Job.{words_of, job_text}
use Rattle.wsc_top.specs.Tasks.{AsksFor, IsNoLine}
use Rattle.job_read.specs.Job.{job_limit, IsJob}
use Rattle.wsc_top.specs.Texts.{usage_text}
use Rattle.asm_read.specs.Texts.{unread_text, long_text, asm_refusal_text}
use Rattle.wsc_top.specs.Executions.{Executes, OrFailed}
use Rattle.wsc_top.specs.Generated.{IsGeneratedJob}
use Rattle.trace_check.specs.declared.recording.TraceEnd.{TraceEnd}
use Rattle.df_core.specs.declared.drive.Finish.{Finish}
use Rattle.df_core.specs.declared.drive.Finish.TheVariants as finish
use Rattle.wsc_top.specs.Clocked.{clocked_status}
use Rattle.wsc_top.specs.Traced.{IsReplayed, HasTrace, trace_status}
use Rattle.wsc_top.specs.Answers as answers
use Rattle.wsc_top.specs.Answers.{SomeRose, OrNoMemory, Yields, Answered, done, IsReader}
use Rattle.wave_build.specs.Compiled.{IsCompiled}
use Rattle.wsc_top.specs.Answers.{limit_of, assembly_text, AssemblyYields, checked, listed, executed, traced}
use Rattle.wsc_top.specs.Answers.{replayed, gridded, AssemblyAnswered, Answers, usage, generated, unread}
use Rattle.wsc_top.specs.Answers.{long, read, assembled, RunsClosed, written, closed, RunsOut, unbegun, begun}
use Rattle.wsc_top.specs.Answers.{WereRead, IsToldOther, IsToldNoAssembly, Benched, benched, IsDue}
use Rattle.wsc_top.specs.Threads.{Replies, alone, together}
use Rattle.wsc_top.specs.Threads as threads
use Rattle.wsc_top.specs.Steps.{AssemblyYieldStep, IsBegun, JobStep, JobBegun, JobsStep, AssemblyStep}
use Rattle.wsc_top.specs.Steps.{AssemblyBegun, StepSo}
use Rattle.wsc_top.proofs.Calling.Tasks.{OneLine, same_task_by}

-- a step that is known
pub known_step : (words : List (List ℕ)) (left after : Option (List ℕ)) (m n : ℕ) (step s : CallStep)
    → step ≡ s → StepSo words left after m n s → StepSo words left after m n step
known_step words left after m n step s e h = subst (StepSo words left after m n) (sym e) h

module _ (words : List (List ℕ)) (left after : Option (List ℕ)) (m n : ℕ) where
  -- where reading failed
  pub unread_step : (t : Task) → AsksFor words t → IsReader t → Rose m n
      → (bytes : List ℕ) × (length bytes ≤ limit_of t) × Takes left bytes after
      → StepSo words left after m n (Ready ReadFault unread_text None)
  unread_step t r is f b handed = alone (unread t b.0 r is f b.1 b.2)

  -- where there are too many bytes
  pub long_step : (t : Task) → AsksFor words t → IsReader t → (bytes : List ℕ)
      × (length bytes ≡ limit_of t + 1) × Takes left bytes after
      → StepSo words left after m n (Ready Refused long_text None)
  long_step t r is b handed = alone (long t b.0 r is b.1 b.2)

  -- where the whole text was read
  pub read_step : (text same : List ℕ) (c : JobTask) (step : CallStep) → AsksFor words (Job c)
      → length text ≤ job_limit → TakesAll left text after → same ≡ text
      → JobStep c same step → StepSo words left after m n step
  read_step text same c (Ready status out image) r l t e a = λ handed. alone (read c text r l t (grind arith))
  read_step text same c (Due options image input) r l t e a = answers.IsDue.job text a.1 (grind arith) l t
      (grind arith) a.3
  read_step text same c (Many options jobs) r l t e a = absurd a

  pub assembled_step : (text same : List ℕ) (c : AssemblyTask) (step : CallStep) → AsksFor words (Assembly c)
      → length text ≤ assembly_limit → TakesAll left text after → same ≡ text
      → AssemblyStep c same step → StepSo words left after m n step
  assembled_step text same c (Ready status out image) r l t e a = λ handed. alone (assembled c text r l t
      (grind arith))
  assembled_step text same c (Due options image input) r l t e a = answers.IsDue.assembly text (grind arith) l
      t (grind arith)
  assembled_step text same c (Many options jobs) r l t e a = absurd a

  pub jobs_step : (text same : List ℕ) (options : RunOptions) (step : CallStep)
      → AsksFor words (Multi options) → length text ≤ job_limit → TakesAll left text after → same ≡ text
      → JobsStep options same step → StepSo words left after m n step
  jobs_step text same options (Ready status out image) r l t e a = λ handed. subst (λ (s : Status). Replies
      words left after m n handed s out image [] handed) (sym a.0) (subst (λ (i : Option Image). Replies words
      left after m n handed Refused out i [] handed) (sym a.1) (subst (λ (o : List ℕ). Replies words left
      after m n handed Refused o None [] handed) (sym a.4) (together options text r l t
      (threads.MultiAnswered.refused a.2 (grind arith)))))
  jobs_step text same options (Due found image input) r l t e a = absurd a
  jobs_step text same options (Many found jobs) r l t e a = grind arith

-- where the words are no line
pub usage_step : (words : List (List ℕ)) (left : Option (List ℕ)) (m n : ℕ) → IsNoLine words
    → StepSo words left left m n (Ready Usage usage_text None)
usage_step words left m n h handed = alone (usage h refl)

-- where a generated job is asked for
pub generated_step : (words : List (List ℕ)) (left : Option (List ℕ)) (m n number : ℕ) (out : List ℕ)
    → AsksFor words (Generate number) → out ≡ job_text number
    → StepSo words left left m n (Ready Done out None)
generated_step words left m n number out h e handed = alone (subst (λ o. Answers words left left m n handed
    Done o None handed) (sym e) (generated number h refl))

-- where one is to be run
pub bench_step : (words : List (List ℕ)) (left : Option (List ℕ)) (options : BenchOptions) (image : Image)
    (input : List ℕ) → AsksFor words (Bench options)
    → (parts : List Part) × IsGeneratedJob options.number parts × IsCompiled parts image
    × (input ≡ words_of options.number) → IsDue words left left options.run image input
bench_step words left options image input h b = subst (λ (ws : List ℕ). IsDue words left left options.run
    image ws) (sym b.3) (answers.IsDue.generated options b.0 h refl b.1 b.2)

-- what is to be done where an assembly is refused
pub unsound_step : (task : AssemblyTask) (text out : List ℕ) (f : AssemblyFault) (why : AsmRefusal)
    → f ≡ fault.Refused why → IsAssemblyFault (assembly_text task text) f → out ≡ asm_refusal_text why
    → AssemblyStep task text (Ready Refused out None)
unsound_step task text out f why is h e handed = subst (λ o. AssemblyAnswered task text handed Refused o None
    handed) (sym e) (answers.AssemblyAnswered.refused why (grind arith))

-- and where it is sound
pub sound_step : (task : AssemblyTask) (text : List ℕ) (image : Image) (input : List ℕ) (step : CallStep)
    → IsAssembly (assembly_text task text) image input → AssemblyYieldStep task text image input step
    → AssemblyStep task text step
sound_step task text image input (Ready status out again) a y = λ handed. answers.AssemblyAnswered.done image
    input a (y handed)
sound_step task text image input (Many options jobs) a y = absurd y
sound_step task text image input (Due options found words) a y = grind arith

module _ (one : OneLine) (words : List (List ℕ)) where
  -- any told text that is no job is refused
  other_refused : (c : JobTask) (text : List ℕ) (after : Option (List ℕ)) (m n : ℕ)
      (handed : List (Option Told)) (status : Status) (out : List ℕ) (image : Option Image)
      (back : List (Option Told))
      → Answers words (Some text) after m n handed status out image back → AsksFor words (Job c)
      → (length text ≤ job_limit → (parts : List Part) (input : List ℕ) → IsJob text parts input → ⊥)
      → (status ≡ ReadFault → ⊥) → status ≡ Refused
  other_refused c text after m n handed status out image back (usage h e) r b f = absurd (h (Job c) r)
  other_refused c text after m n handed status out image back (generated k q e) r b f =
      let same : Generate k ≡ Job c = same_task_by one words (Generate k) (Job c) q r in absurd cc
  other_refused c text after m n handed status out image back (benched o q e x) r b f =
      let same : Bench o ≡ Job c = same_task_by one words (Bench o) (Job c) q r in absurd cc
  other_refused c text after m n handed status out image back (unread d bytes q is rose k t) r b f =
      absurd (f refl)
  other_refused c text after m n handed status out image back (read d other q k t (done ps input a y)) r b f =
      absurd (b (subst (λ x. length x ≤ job_limit) (sym t.0) k) ps input
      (subst (λ x. IsJob x ps input) (sym t.0) a))
  other_refused c text after m n handed status out image back (assembled d other q k t a) r b f =
      let same : Assembly d ≡ Job c = same_task_by one words (Assembly d) (Job c) q r in absurd cc
  other_refused c text after m n handed status out image back x r b f = refl

  -- any told text that is no assembly is refused
  none_refused : (c : AssemblyTask) (text : List ℕ) (after : Option (List ℕ)) (m n : ℕ)
      (handed : List (Option Told)) (status : Status) (out : List ℕ) (again : Option Image)
      (back : List (Option Told))
      → Answers words (Some text) after m n handed status out again back → AsksFor words (Assembly c)
      → (length text ≤ assembly_limit → (image : Image) (input : List ℕ)
      → IsAssembly (assembly_text c text) image input → ⊥) → (status ≡ ReadFault → ⊥) → status ≡ Refused
  none_refused c text after m n handed status out again back (usage h e) r b f = absurd (h (Assembly c) r)
  none_refused c text after m n handed status out again back (generated k q e) r b f =
      let same : Generate k ≡ Assembly c = same_task_by one words (Generate k) (Assembly c) q r in absurd cc
  none_refused c text after m n handed status out again back (benched o q e x) r b f =
      let same : Bench o ≡ Assembly c = same_task_by one words (Bench o) (Assembly c) q r in absurd cc
  none_refused c text after m n handed status out again back (unread d bytes q is rose k t) r b f =
      absurd (f refl)
  none_refused c text after m n handed status out again back (read d other q k t a) r b f =
      let same : Job d ≡ Assembly c = same_task_by one words (Job d) (Assembly c) q r in absurd cc
  none_refused c text after m n handed status out again back
      (assembled d other q k t (answers.AssemblyAnswered.done image input a y)) r b f =
      let whole : Assembly d ≡ Assembly c = same_task_by one words (Assembly d) (Assembly c) q r in
      let same : d ≡ c = cc in
      absurd (b (subst (λ x. length x ≤ assembly_limit) (sym t.0) k) image input
      (subst (λ x. IsAssembly (assembly_text c x) image input) (sym t.0)
      (subst (λ e. IsAssembly (assembly_text e other) image input) same a)))
  none_refused c text after m n handed status out again back x r b f = refl

  module _ (left after : Option (List ℕ)) (m n : ℕ) (handed : List (Option Told)) (status : Status)
      (out : List ℕ) (image : Option Image) (back : List (Option Told))
      (a : Answers words left after m n handed status out image back) where
    -- a told text that is no assembly is refused, or reading failed
    pub told_unassembled : (c : AssemblyTask) → IsToldNoAssembly words left c → (status ≡ ReadFault → ⊥)
        → status ≡ Refused
    told_unassembled c t = none_refused c t.text after m n handed status out image back
        (subst (λ l. Answers words l after m n handed status out image back) t.told a) t.line t.other

    -- a told text that is no job is refused, or reading failed
    pub told_refused : (c : JobTask) → IsToldOther words left c → (status ≡ ReadFault → ⊥) → status ≡ Refused
    told_refused c t = other_refused c t.text after m n handed status out image back
        (subst (λ l. Answers words l after m n handed status out image back) t.told a) t.line t.other

-- of a told text within a limit no byte more than the limit is read
pub too_much : (limit : ℕ) (left : Option (List ℕ)) (text bytes : List ℕ) (after : Option (List ℕ))
    → left ≡ Some text
    → length text ≤ limit → length bytes ≡ limit + 1 → Takes left bytes after → ⊥
too_much limit left text bytes after e h l t = grind (arith, length-append)

-- what is read whole is what is told
pub told_text : (left : Option (List ℕ)) (text same : List ℕ) (after : Option (List ℕ)) → left ≡ Some text
    → TakesAll left same after → same ≡ text
told_text left text same after e t = let u = subst (λ x. TakesAll x same after) e t in sym u.0

-- the statuses that an answer to a text may have; that a port failed comes only where its count rose
abbrev pub IsOfText : List (Option Told) → List (Option Told) → Status → Type 0
IsOfText handed back ReadFault = ⊥
IsOfText handed back WriteFault = ⊥
IsOfText handed back NoMemory = ⊥
IsOfText handed back (PortFault port) = RoseAt port handed back
IsOfText handed back _ = Unit {0}

executes_status : (options : RunOptions) (image : Image) (world : World) (handed : List (Option Told))
    (status : Status) (out : List ℕ) (back : List (Option Told))
    → Executes options image world handed status out back → IsOfText handed back status
executes_status options image world handed status out back x = grind arith

pub yields_status : (c : JobTask) (parts : List Part) (input : List ℕ) (handed : List (Option Told))
    (status : Status) (out : List ℕ) (image : Option Image) (back : List (Option Told))
    → Yields c parts input handed status out image back → IsOfText handed back status
yields_status c parts input handed status out some back x = grind (arith, executes_status)

-- an answer to a text has one of them
text_status : (c : JobTask) (text : List ℕ) (handed : List (Option Told)) (status : Status) (out : List ℕ)
    (image : Option Image) (back : List (Option Told))
    → Answered c text handed status out image back → IsOfText handed back status
text_status c text handed status out image back x = grind (arith, yields_status)

trace_ends : (handed back : List (Option Told)) (how : TraceEnd) → IsOfText handed back (trace_status how)
trace_ends handed back how = grind arith

grid_ends : (handed back : List (Option Told)) (how : Finish) → IsOfText handed back (clocked_status how)
grid_ends handed back how = grind arith

replay_status : (handed back : List (Option Told)) (text : List ℕ) (image : Image) (input : List ℕ)
    (status : Status) (out : List ℕ) (again : Option Image)
    → IsReplayed text image input status out again → IsOfText handed back status
replay_status handed back text image input status out again x = grind arith

yield_status : (c : AssemblyTask) (text : List ℕ) (image : Image) (input : List ℕ)
    (handed : List (Option Told)) (status : Status) (out : List ℕ) (again : Option Image)
    (back : List (Option Told))
    → AssemblyYields c text image input handed status out again back → IsOfText handed back status
yield_status c text image input handed status out again back checked = tt
yield_status c text image input handed status out again back listed = tt
yield_status c text image input handed status out again back (executed {options} e) =
    executes_status options image (world_with input handed) handed status out back e
yield_status c text image input handed status out again back (traced t e) =
    subst (IsOfText handed handed) (sym t.status_is) (trace_ends handed handed t.how)
yield_status c text image input handed status out again back (replayed r e) = grind (arith, replay_status)
yield_status c text image input handed status out again back (gridded r e) =
    subst (IsOfText handed handed) (sym r.status_is) (grid_ends handed handed r.run.finish)

assembly_status : (c : AssemblyTask) (text : List ℕ) (handed : List (Option Told)) (status : Status)
    (out : List ℕ) (again : Option Image) (back : List (Option Told))
    → AssemblyAnswered c text handed status out again back → IsOfText handed back status
assembly_status c text handed status out again back x = grind (arith, yield_status)

bench_status : (o : BenchOptions) (handed : List (Option Told)) (status : Status) (out : List ℕ)
    (image : Option Image) (back : List (Option Told))
    → Benched o handed status out image back → IsOfText handed back status
bench_status o handed status out image back b = grind (arith, yields_status)

module _ (words : List (List ℕ)) (left after : Option (List ℕ)) (m n : ℕ) (handed : List (Option Told)) where
  -- no answer has this status
  pub not_memory : (status : Status) (out : List ℕ) (image : Option Image) (back : List (Option Told))
      → Answers words left after m n handed status out image back → status ≡ NoMemory → ⊥
  not_memory status out image back (benched o q e x) h = subst (IsOfText handed back) h
      (bench_status o handed status out image back x)
  not_memory status out image back (read c text q k t a) h = subst (IsOfText handed back) h
      (text_status c text handed status out image back a)
  not_memory status out image back (assembled c text q k t a) h = subst (IsOfText handed back) h
      (assembly_status c text handed status out image back a)
  not_memory status out image back x h = cc

  -- nor this one
  pub not_write_fault : (status : Status) (out : List ℕ) (image : Option Image) (back : List (Option Told))
      → Answers words left after m n handed status out image back → status ≡ WriteFault → ⊥
  not_write_fault status out image back (benched o q e x) h = subst (IsOfText handed back) h
      (bench_status o handed status out image back x)
  not_write_fault status out image back (read c text q k t a) h = subst (IsOfText handed back) h
      (text_status c text handed status out image back a)
  not_write_fault status out image back (assembled c text q k t a) h = subst (IsOfText handed back) h
      (assembly_status c text handed status out image back a)
  not_write_fault status out image back x h = cc

  -- where the answer is that reading failed, the count rose
  pub read_rose : (status : Status) (out : List ℕ) (image : Option Image) (back : List (Option Told))
      → Answers words left after m n handed status out image back → status ≡ ReadFault → Rose m n
  read_rose status out image back (benched o q e x) h =
      absurd (subst (IsOfText handed back) h (bench_status o handed status out image back x))
  read_rose status out image back (unread c bytes q is rose k t) h = rose
  read_rose status out image back (read c text q k t a) h =
      absurd (subst (IsOfText handed back) h (text_status c text handed status out image back a))
  read_rose status out image back (assembled c text q k t a) h =
      absurd (subst (IsOfText handed back) h (assembly_status c text handed status out image back a))
  read_rose status out image back x h = cc

  -- where it is that a port failed, that port's count rose
  pub port_rose : (status : Status) (out : List ℕ) (image : Option Image) (back : List (Option Told))
      → Answers words left after m n handed status out image back → (port : ℕ) → status ≡ PortFault port
      → RoseAt port handed back
  port_rose status out image back (benched o q e x) port h = subst (IsOfText handed back) h
      (bench_status o handed status out image back x)
  port_rose status out image back (read c text q k t a) port h = subst (IsOfText handed back) h
      (text_status c text handed status out image back a)
  port_rose status out image back (assembled c text q k t a) port h = subst (IsOfText handed back) h
      (assembly_status c text handed status out image back a)
  port_rose status out image back x port h = cc

  -- words that are no line have the answer that says so
  pub no_line_usage : (status : Status) (out : List ℕ) (image : Option Image) (back : List (Option Told))
      → Answers words left after m n handed status out image back → IsNoLine words → status ≡ Usage
  no_line_usage status out image back (usage g e) h = refl
  no_line_usage status out image back (generated k q e) h = absurd (h (Generate k) q)
  no_line_usage status out image back (benched o q e x) h = absurd (h (Bench o) q)
  no_line_usage status out image back (unread c bytes q is rose k t) h = absurd (h c q)
  no_line_usage status out image back (long c bytes q is k t) h = absurd (h c q)
  no_line_usage status out image back (read c text q k t a) h = absurd (h (Job c) q)
  no_line_usage status out image back (assembled c text q k t a) h = absurd (h (Assembly c) q)

  -- and those that ask for a generated job have it
  pub generates : OneLine → (status : Status) (out : List ℕ) (image : Option Image)
      (back : List (Option Told)) → Answers words left after m n handed status out image back → (number : ℕ)
      → AsksFor words (Generate number) → status ≡ Done
  generates one status out image back (usage g e) number h = absurd (g (Generate number) h)
  generates one status out image back (generated k q e) number h = refl
  generates one status out image back (benched o q e x) number h = grind (arith, same_task_by)
  generates one status out image back (unread c bytes q is rose k t) number h = grind (arith, same_task_by)
  generates one status out image back (long c bytes q is k t) number h = grind (arith, same_task_by)
  generates one status out image back (read c text q k t a) number h = grind (arith, same_task_by)
  generates one status out image back (assembled c text q k t a) number h = grind (arith, same_task_by)

-- where no task is found the words are no line
pub no_line : (words : List (List ℕ)) (found : Option Task) → IfNone found (IsNoLine words)
    → ((c : Task) → found ≡ Some c → ⊥) → IsNoLine words
no_line words None h n = h
no_line words (Some d) h n = absurd (n d refl)

-- nothing is taken from a source that stays as it is
pub takes_none : (left : Option (List ℕ)) → Takes left [] left
takes_none left = grind arith

-- a whole text is taken
taken_all : (left : Option (List ℕ)) (text : List ℕ) (after : Option (List ℕ)) → TakesAll left text after
    → Takes left text after
taken_all None text after t = t
taken_all (Some bytes) text after t = ([], t.0 ∙ sym (append-nil text), t.1)

-- nothing was read
pub none_read : (words : List (List ℕ)) (left : Option (List ℕ))
    → (bytes : List ℕ) × WereRead words bytes × Takes left bytes left
none_read words left = ([], inl refl, takes_none left)

-- these bytes were read
pub some_read : (words : List (List ℕ)) (left after : Option (List ℕ)) (t : Task) → AsksFor words t
    → IsReader t
    → (bytes : List ℕ) × (length bytes ≤ limit_of t + 1) × Takes left bytes after
    → (bytes : List ℕ) × WereRead words bytes × Takes left bytes after
some_read words left after t r is b = (b.0, inr (t, r, is, b.1), b.2)

-- what is answered where memory ran out in a call: the same, or nothing that was begun
pub err_same : {T : Type 0} (Q : StarvedCall → Type 0) (r : Result T StarvedCall) (s : StarvedCall)
    → IsErrAnd r (λ t. t ≡ s) → Q s → IfErr r Q
err_same Q r s h q = grind arith

pub err_none : {T : Type 0} (Q : StarvedCall → Type 0) (r : Result T StarvedCall)
    → IsErrAnd r (λ (t : StarvedCall). t.image ≡ None) → ((t : StarvedCall) → t.image ≡ None → Q t)
    → IfErr r Q
err_none Q r h q = grind arith

-- An image that was begun when memory ran out, at each stage.

pub compile_begun : (task : JobTask) (parts : List Part) (found : Option Image) → task ≡ Compile
    → IfSome found (IsCompiled parts) → IfSome found (IsBegun task parts)
compile_begun task parts found e h = grind arith

pub job_begun : (task : JobTask) (text : List ℕ) (parts : List Part) (input : List ℕ) (found : Option Image)
    → IsJob text parts input → IfSome found (IsBegun task parts) → IfSome found (JobBegun task text)
job_begun task text parts input found j h = grind arith

pub replay_begun : (task : AssemblyTask) (text : List ℕ) (image : Image) (found : Option Image)
    → task ≡ Replay → IfSome found (λ (i : Image). (i ≡ image) × (trace : List Lined) × HasTrace text trace)
    → IfSome found (λ (i : Image). (i ≡ image) × RunsClosed task text)
replay_begun task text image found e h = grind arith

pub assembly_begun : (task : AssemblyTask) (text : List ℕ) (image : Image) (input : List ℕ)
    (found : Option Image) → IsAssembly (assembly_text task text) image input
    → IfSome found (λ (i : Image). (i ≡ image) × RunsClosed task text)
    → IfSome found (AssemblyBegun task text)
assembly_begun task text image input found a h = grind arith

-- What is handed back where memory ran out.
module _ (words : List (List ℕ)) (left after : Option (List ℕ)) where
  -- where no image was begun
  pub none_out : (image : Option Image) → image ≡ None → (bytes : List ℕ) × WereRead words bytes
      × Takes left bytes after → RunsOut words left after image
  none_out image e b = subst (λ (i : Option Image). RunsOut words left after i) (sym e) (unbegun b.0 b.1 b.2)

  -- where the whole text of a job was read
  pub job_out : (text same : List ℕ) (c : JobTask) (image : Option Image) → AsksFor words (Job c)
      → length text ≤ job_limit → TakesAll left text after → same ≡ text
      → IfSome image (JobBegun c same) → RunsOut words left after image
  job_out text same c None r l t e b = unbegun text (inr (Job c, r, tt, omega (arith, l)))
      (taken_all left text after t)
  job_out text same c (Some image) r l t e b = begun (written text b.0 b.1 (grind arith) l t (grind arith)
      b.3.1)

  -- and where that of an assembly was
  pub assembly_out : (text same : List ℕ) (c : AssemblyTask) (image : Option Image)
      → AsksFor words (Assembly c) → length text ≤ assembly_limit → TakesAll left text after → same ≡ text
      → IfSome image (AssemblyBegun c same) → RunsOut words left after image
  assembly_out text same c None r l t e b = unbegun text (inr (Assembly c, r, tt, omega (arith, l)))
      (taken_all left text after t)
  assembly_out text same c (Some image) r l t e b = begun (closed c text b.0 r l t (grind arith) (subst
      (RunsClosed c) e b.2))

-- no port failed where no count of theirs rose
pub unfailed : (handed back : List (Option Told)) (status wanted : Status)
    → ((port : ℕ) → status ≡ PortFault port → RoseAt port handed back) → (SomeRose handed back → ⊥)
    → OrFailed status wanted → OrNoMemory status wanted
unfailed handed back status wanted rose none x = grind arith
