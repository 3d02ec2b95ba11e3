-- That a job whose sequential run ends comes to its end.
use Rattle.std.specs.Prelude.{◌≡◌, ◌⊎◌, ℕ, zero, suc, ◌*◌, ◌<◌, ◌≤◌, false, List, ◌++◌, length, Bool, Option}
use Rattle.std.specs.Prelude.{Some, refl}
use Rattle.std.specs.List.{AllByRecursion}
use Rattle.std.proofs.Common.{sym, subst, inl, inr, arith}
use Rattle.std.proofs.lemmas.Bool.{cases_lt}
use Rattle.ws_words.specs.Outside.{Outside, World, printed_words, IsMachineWord, WorldOfWords}
use Rattle.src_ast.specs.Bound.{bound}
use Rattle.src_ast.specs.Once.{ExactlyOne}
use Rattle.src_ast.specs.Runs.{Runs}
use Rattle.src_ast.specs.Syntax.{Part}
use Rattle.ws_isa.specs.Image.{Image, array_at}
use Rattle.ws_isa.specs.Walk.{mem, CostAtMost}
use Rattle.ws_isa.specs.Operations.{past, FaultsAt, NoFault}
use Rattle.df_core.specs.Ends.{FirstWithin}
use Rattle.port_set.specs.Ports.{Told}
use Rattle.wave_build.specs.Compiled.{WalksAsRun}
use Rattle.wsc_words.specs.Lines.{line_of}
use Rattle.wsc_words.proofs.Keys.{by_bool}
use Rattle.wsc_top.specs.declared.status.Status.{Status}
use Rattle.wsc_top.specs.declared.status.Status.TheVariants.{Done, ReadFault, WriteFault, NoMemory}
use Rattle.wsc_top.specs.declared.task.Task.{Task}
use Rattle.wsc_top.specs.declared.task.Task.TheVariants.{Job, Assembly, Multi}
use Rattle.wsc_top.specs.declared.task.RunOptions.{RunOptions}
use Rattle.wsc_top.specs.declared.task.JobTask.{JobTask}
use Rattle.wsc_top.specs.declared.task.JobTask.TheVariants.{Run, Plain}
use Rattle.wsc_top.specs.declared.task.AssemblyTask.{AssemblyTask}
use Rattle.wsc_top.specs.declared.task.AssemblyTask.TheVariants as task
use Rattle.wsc_top.specs.Tasks.{AsksFor}
use Rattle.job_read.specs.Job.{IsJob, IsTextAnswer, job_limit}
use Rattle.asm_read.specs.Reads.{world_of}
use Rattle.asm_read.specs.Assembly.{IsAssembly, assembly_limit}
use Rattle.wsc_top.specs.Executions.{Rests, OrFailed}
use Rattle.wsc_top.specs.Answers.{Answers, JobEndsSo, AssemblyEndsSo, TellWords, IsToldJob, IsToldAssembly}
use Rattle.wsc_top.specs.Answers.{ComesToItsEnd}
use Rattle.wave_build.specs.Compiled.{IsCompiled}
use Rattle.wsc_top.specs.Answers as answers
use Rattle.wsc_top.proofs.Reading.AnswersOnce.{RunsOnce}
use Rattle.wsc_top.proofs.Told.RunsAlike as alike
use Rattle.wsc_top.proofs.Told.RunsAlike.{one_job}
use Rattle.wsc_top.proofs.Told.Headline.{fault_told}
use Rattle.wsc_top.proofs.Calling.Tasks.{OneLine}
use Rattle.wsc_top.proofs.Told.Tells.{input_words}
use Rattle.wsc_top.proofs.Several.ThreadAnswers.{reply_other}
use Rattle.one_result.specs.OneResult.{CalledBy, HasWritten, input_section, job_commands, assembly_commands}
use Rattle.one_result.specs.Ends.{MaySpend, AskToSpend, HasFailed, JobsEnd, CodeEnds, AssembliesEnd}
use Rattle.one_result.proofs.Words.{asked}
use Rattle.one_result.proofs.Written.{RunsJob, RunsImage, Replied, replied, job_kind, image_kind}
use Rattle.one_result.proofs.Jobs.{silent_world}
use Rattle.one_result.proofs.Compiled.{Code, code_of}
use Rattle.one_result.proofs.Ported.{CodesRead}

-- a status that is Done unless something failed
failed_port : (s : Status) → OrFailed s Done → (s ≡ Done) ⊎ HasFailed s
failed_port s x = grind arith

abbrev Unfailed : Status → Type 0
Unfailed s = (s ≡ WriteFault → ⊥) → (s ≡ NoMemory → ⊥) → (s ≡ ReadFault → ⊥) → OrFailed s Done

by_status : (s : Status) → Unfailed s → (s ≡ Done) ⊎ HasFailed s
by_status s k = grind (arith, failed_port)

-- that each answer has the status that its run decides
abbrev pub JobsDecided : Type 0
JobsDecided = (words : List (List ℕ)) (left after : Option (List ℕ)) (faults counted : ℕ)
    (handed back : List (Option Told)) (status : Status) (out : List ℕ) (image : Option Image)
    (task : JobTask) (parts : List Part) (input : List ℕ)
    → Answers words left after faults counted handed status out image back
    → IsToldJob words left task parts input → TellWords handed → (status ≡ ReadFault → ⊥)
    → JobEndsSo task parts input handed status

abbrev pub AssembliesDecided : Type 0
AssembliesDecided = (words : List (List ℕ)) (left after : Option (List ℕ)) (faults counted : ℕ)
    (handed back : List (Option Told)) (status : Status) (out : List ℕ) (again : Option Image)
    (task : AssemblyTask) (image : Image) (input : List ℕ)
    → Answers words left after faults counted handed status out again back
    → (told : IsToldAssembly words left task image input) → (status ≡ ReadFault → ⊥)
    → AssemblyEndsSo task told.text image input handed status

module _ (one : OneLine) (jobs : JobsDecided) (commands : List (List ℕ)) (AreSuch : List (List ℕ) → Type 0)
    (text : List ℕ) (handed : List (Option Told)) (s : Status) (out : List ℕ) (image : Option Image)
    (back : List (Option Told)) (c : CalledBy commands AreSuch text handed s out image back) where
  job_answer : (w : s ≡ WriteFault → ⊥) (m : s ≡ NoMemory → ⊥) (task : Task) → AsksFor c.words task
      → ((o : RunOptions) → Multi o ≡ task → ⊥)
      → (r : Replied c.words text handed s out image back)
      → Answers c.words (Some text) r.after r.faults r.counted handed s out image back
  job_answer w m task line other r = reply_other c.words (Some text) r.after r.faults r.counted handed s out
      image r.threads back one task line other r.reply

  job_status : (task : JobTask) (parts : List Part) (input : List ℕ) → AsksFor c.words (Job task)
      → IsJob text parts input → length text ≤ job_limit → ComesToItsEnd task parts input handed → Unfailed s
  job_status task parts input line job short ends w m f =
      let r = replied commands AreSuch text handed s out image back c w m in
      (jobs c.words (Some text) r.after r.faults r.counted handed back s out image task parts input
      (job_answer w m (Job task) line (λ o e. absurd cc) r) (grind arith) c.called.told f).done ends

  assembly_status : AssembliesDecided → (task : AssemblyTask) (found : Image) (input : List ℕ)
      → AsksFor c.words (Assembly task)
      → (told : IsToldAssembly c.words (Some text) task found input)
      → (w : s ≡ WriteFault → ⊥) (m : s ≡ NoMemory → ⊥) → (s ≡ ReadFault → ⊥)
      → AssemblyEndsSo task told.text found input handed s
  assembly_status assemblies task found input line told w m f =
      let r = replied commands AreSuch text handed s out image back c w m in
      assemblies c.words (Some text) r.after r.faults r.counted handed back s out image task found input
      (job_answer w m (Assembly task) line (λ o e. absurd cc) r) told f

module _ (one : OneLine) (jobs : JobsDecided) (text : List ℕ) (parts : List Part) (input : List ℕ)
    (turns : ℕ) (end : Outside) (s : Status) (out : List ℕ) (job : IsJob text parts input)
    (runs : Runs parts (world_of input) turns end) (short : length text ≤ job_limit)
    (h : HasWritten job_commands (AskToSpend (bound parts * suc turns) turns) text s out) where
  abbrev most : ℕ
  most = bound parts * suc turns

  job_task : (task : Task) (memory stats : Bool) → RunsJob memory stats task → AsksFor h.called.words task
      → MaySpend most turns task → Unfailed s
  job_task (Job (Run options)) memory stats k line may = job_status one jobs job_commands (AskToSpend most
      turns) text h.ports s out h.image h.back h.called (Run options) parts input line job short (
        turns,
        end,
        subst (λ (w : World). Runs parts w turns end) (sym (silent_world input h.ports h.silent)) runs,
        may,
      )
  job_task (Job (Plain options)) memory stats k line may =
      job_status one jobs job_commands (AskToSpend most turns) text h.ports s out h.image h.back h.called
      (Plain options) parts input line job short (turns, end, runs, may)
  job_task task memory stats k line may = absurd k

  job_unfailed : Unfailed s
  job_unfailed =
      let c = h.called in
      let a = asked job_commands (AskToSpend most turns) c.words c.such.0 c.call c.such c.such.1 in
      let line = line_of a.command a.given in
      job_task c.such.0 line.memory line.stats (job_kind (AskToSpend most turns) c.such.0 a) c.such.1 c.such.2

pub jobs_end : OneLine → JobsDecided → JobsEnd
jobs_end one jobs text parts input turns end s out job runs short h =
    by_status s (job_unfailed one jobs text parts input turns end s out job runs short h)

-- a walk that meets no first load or store past the end has none
module _ (image : Image) (world : World) (never : (t : ℕ) → FaultsAt image world t → ⊥) where
  none_before : (t : ℕ) → FirstWithin image world t
  none_before zero u x lt f = absurd (omega (arith, lt))
  none_before (suc t) u x lt f = by_order (cases_lt u t) (none_before t)
    where
      here : (u ≡ t) → FirstWithin image world t → past image x ≡ false
      here e before = by_bool (past image x) (λ p. absurd (never t (grind arith))) (λ p. p)

      by_order : (u < t) ⊎ (t ≤ u) → FirstWithin image world t → past image x ≡ false
      by_order (inl less) before = before u x less f
      by_order (inr more) before = here (omega (arith, more, lt)) before

  no_fault : NoFault image world
  no_fault t x f = none_before (suc t) t x (omega arith) f

-- the image of a program whose run ends
module _ (law : RunsOnce) (parts : List Part) (image : Image) (is : IsCompiled parts image) (input : List ℕ)
    (words : AllByRecursion IsMachineWord input) (turns : ℕ) (end : Outside)
    (runs : Runs parts (world_of input) turns end) where
  of_words : WorldOfWords (world_of input)
  of_words = (words, (tt, (tt, (tt, (tt, (tt, (tt, (tt, tt))))))))

  walks : WalksAsRun parts image (world_of input)
  walks = is.walk (world_of input) of_words

  never_faults : (t : ℕ) → FaultsAt image (world_of input) t → ⊥
  never_faults t fault =
      let array = array_at image fault.inst.instr in
      let r = fault_told parts image (world_of input) is.formed is.arrays walks t fault array
      (printed_words (mem image (world_of input) t).acts) (mem image (world_of input) t).cells refl refl
      refl in
      law.no_end_with_a_fault parts (world_of input) turns r.turn r.place end r.state runs r.faults

  comes_to_rest : (most : ℕ) → bound parts * suc turns ≤ most → Rests image (world_of input) most
  comes_to_rest most le = let cost = is.cost (world_of input) of_words turns end runs.passes in
      (no_fault image (world_of input) never_faults, grind arith)

-- the image of what `compile` has written of a job whose run ends
module _ (law : RunsOnce) (once : (text : List ℕ) → ExactlyOne (IsTextAnswer text)) (text code : List ℕ)
    (parts : List Part) (input : List ℕ) (turns : ℕ) (end : Outside) (job : IsJob text parts input)
    (runs : Runs parts (world_of input) turns end) (a : Code text code) where
  same_job : ◌≡◌ {A = alike.Job} (parts, input) (a.parts, a.input)
  same_job = one_job text (once text) parts a.parts input a.input job a.job

  pub code_rests : (most : ℕ) → bound parts * suc turns ≤ most → Rests a.image (world_of a.input) most
  code_rests most le =
      let runs_here = subst (λ (x : alike.Job). Runs x.0 (world_of x.1) turns end) same_job runs in
      let le_here = subst (λ (x : alike.Job). bound x.0 * suc turns ≤ most) same_job le in
      comes_to_rest law a.parts a.image a.is a.input (input_words _ _ a.input a.job.words) turns end runs_here
      most le_here

module _ (one : OneLine) (law : RunsOnce) (once : (text : List ℕ) → ExactlyOne (IsTextAnswer text))
    (jobs : JobsDecided) (assemblies : AssembliesDecided) (codes_read : CodesRead)
    (text code : List ℕ) (parts : List Part) (input : List ℕ) (turns : ℕ) (end : Outside) (s : Status)
    (out : List ℕ) (job : IsJob text parts input) (runs : Runs parts (world_of input) turns end)
    (a : Code text code) (short : length (code ++ input_section text) ≤ assembly_limit)
    (h : HasWritten assembly_commands (AskToSpend (bound parts * suc turns) turns)
    (code ++ input_section text) s out) where
  abbrev enough : ℕ
  enough = bound parts * suc turns

  abbrev there : List ℕ
  there = code ++ input_section text

  abbrev Such : List (List ℕ) → Type 0
  Such = AskToSpend enough turns

  rests_here : (most : ℕ) → enough ≤ most → Rests a.image (world_of a.input) most
  rests_here = code_rests law once text code parts input turns end job runs a

  is_told_here : (t : AssemblyTask) → AsksFor h.called.words (Assembly t)
      → IsAssembly (answers.assembly_text t there) a.image a.input
      → IsToldAssembly h.called.words (Some there) t a.image a.input
  is_told_here t line assembly = grind arith

  code_task : (t : Task) (memory stats : Bool) → RunsImage memory stats t → AsksFor h.called.words t
      → MaySpend enough turns t → Unfailed s
  code_task (Assembly (task.Exec options)) memory stats k line may w m f =
      let told = is_told_here (task.Exec options) line (codes_read text code a) in
      let ends = assembly_status one jobs assembly_commands Such there h.ports s out h.image h.back h.called
      assemblies (task.Exec options) a.image a.input line told w m f in
      ends.done (subst (λ (w : World). Rests a.image w options.budget)
      (sym (silent_world a.input h.ports h.silent)) (rests_here options.budget may))
  code_task (Assembly (task.Grid options)) memory stats k line may w m f =
      let told = is_told_here (task.Grid options) line (codes_read text code a) in
      let ends = assembly_status one jobs assembly_commands Such there h.ports s out h.image h.back h.called
      assemblies (task.Grid options) a.image a.input line told w m f in
      ends.done (rests_here options.budget may)
  code_task t memory stats k line may w m f = absurd k

  code_unfailed : Unfailed s
  code_unfailed =
      let c = h.called in
      let asks = asked assembly_commands Such c.words c.such.0 c.call c.such c.such.1 in
      let line = line_of asks.command asks.given in
      code_task c.such.0 line.memory line.stats (image_kind Such c.such.0 asks) c.such.1 c.such.2

pub code_ends : OneLine → RunsOnce → ((text : List ℕ) → ExactlyOne (IsTextAnswer text)) → JobsDecided
    → AssembliesDecided → CodesRead → CodeEnds
code_ends one law once jobs assemblies codes_read text code parts input turns end s out job runs is short h =
    by_status s (code_unfailed one law once jobs assemblies codes_read text code parts input turns end s out
    job runs (code_of text code is) short h)

module _ (one : OneLine) (jobs : JobsDecided) (assemblies : AssembliesDecided) (text : List ℕ)
    (image : Image) (input : List ℕ) (firings : ℕ) (s : Status) (out : List ℕ)
    (assembly : IsAssembly text image input) (none : NoFault image (world_of input))
    (cost : CostAtMost image (world_of input) firings) (short : length text ≤ assembly_limit)
    (h : HasWritten assembly_commands (AskToSpend firings 0) text s out) where
  rests : (most : ℕ) → firings ≤ most → Rests image (world_of input) most
  rests most le = (none, λ t. omega (arith, cost t, le))

  is_told_so : (t : AssemblyTask) → AsksFor h.called.words (Assembly t)
      → IsAssembly (answers.assembly_text t text) image input
      → IsToldAssembly h.called.words (Some text) t image input
  is_told_so t line is = grind arith

  image_task : (t : Task) (memory stats : Bool) → RunsImage memory stats t → AsksFor h.called.words t
      → MaySpend firings 0 t → Unfailed s
  image_task (Assembly (task.Exec options)) memory stats k line may w m f =
      let told = is_told_so (task.Exec options) line assembly in
      let ends = assembly_status one jobs assembly_commands (AskToSpend firings 0) text h.ports s out h.image
      h.back h.called assemblies (task.Exec options) image input line told w m f in
      ends.done (subst (λ (w : World). Rests image w options.budget)
      (sym (silent_world input h.ports h.silent)) (rests options.budget may))
  image_task (Assembly (task.Grid options)) memory stats k line may w m f =
      let told = is_told_so (task.Grid options) line assembly in
      let ends = assembly_status one jobs assembly_commands (AskToSpend firings 0) text h.ports s out h.image
      h.back h.called assemblies (task.Grid options) image input line told w m f in
      ends.done (rests options.budget may)
  image_task t memory stats k line may w m f = absurd k

  image_unfailed : Unfailed s
  image_unfailed =
      let c = h.called in
      let asks = asked assembly_commands (AskToSpend firings 0) c.words c.such.0 c.call c.such c.such.1 in
      let line = line_of asks.command asks.given in
      image_task c.such.0 line.memory line.stats (image_kind (AskToSpend firings 0) c.such.0 asks) c.such.1
      c.such.2

pub assemblies_end : OneLine → JobsDecided → AssembliesDecided → AssembliesEnd
assemblies_end one jobs assemblies text image input firings s out assembly none cost short h =
    by_status s (image_unfailed one jobs assemblies text image input firings s out assembly none cost short h)
