-- How a call of the program ends.
use Rattle.std.specs.Prelude.{◌≡◌, ◌≢◌, ◌⊎◌, ℕ, ◌≤◌, List, [], ◌∷◌, length, take, Option, Some, None}
use Rattle.std.specs.Prelude.{Result, IsOk, IfOk, OnErr}
use Rattle.ws_io.specs.Streams.{Rose, Adds, Flushes}
use Rattle.src_ast.specs.Syntax.{Part}
use Rattle.asm_read.specs.Reads.{SourceCall}
use Rattle.run_text.specs.Writes.{Writing}
use Rattle.ws_isa.specs.Image.{Image}
use Rattle.port_set.specs.Ports.{Told}
use Rattle.store_buf.specs.Outdoors.{RoseAt, world_with}
use Rattle.work_gen.specs.Job.{words_of}
use Rattle.wsc_words.specs.Lines.{HasCommand}
use Rattle.wsc_top.specs.declared.status.Status.{Status}
use Rattle.wsc_top.specs.declared.status.Status.TheVariants.{Done, Usage, Refused, Budget, ReadFault}
use Rattle.wsc_top.specs.declared.status.Status.TheVariants.{WriteFault, PortFault, NoMemory, Fault}
use Rattle.wsc_top.specs.declared.task.Task.TheVariants.{Generate, Bench}
use Rattle.wsc_top.specs.declared.task.BenchOptions.{BenchOptions}
use Rattle.wsc_top.specs.declared.task.JobTask.{JobTask}
use Rattle.wsc_top.specs.declared.task.JobTask.TheVariants.{Run}
use Rattle.wsc_top.specs.declared.task.RunOptions.{RunOptions}
use Rattle.wsc_top.specs.declared.task.AssemblyTask.{AssemblyTask}
use Rattle.wsc_top.specs.Codes.{code_of}
use Rattle.wsc_top.specs.Tasks.{AsksFor, IsNoLine}
use Rattle.wsc_top.specs.Generated.{IsGeneratedJob}
use Rattle.wsc_top.specs.Answers.{SomeRose, ComesToItsEnd, MeetsFault, WantsTurns, AssemblyEndsSo}
use Rattle.wsc_top.specs.Answers.{BenchEndsSo, IsToldJob, IsToldOther, IsToldAssembly, IsToldNoAssembly}
use Rattle.wsc_top.specs.Answers.{OrNoMemory}
use Rattle.wsc_top.specs.Jobs.{ProgramAndInput}
use Rattle.wsc_top.specs.Executions.{EndsRun}
use Rattle.wsc_top.specs.Threads.{Replies, Falls, AreToldJobs, AreToldNoJobs, MultiEndsSo, ComeToTheirEnd}
use Rattle.wsc_top.specs.Threads.{WalksEndSo}

-- no fault of the source, or of the sink, came
abbrev pub ReadsWell : SourceCall → Type 0
ReadsWell reads = ¬ Rose reads.faults reads.counted

abbrev pub WritesWell : Writing → Type 0
WritesWell writes = ¬ Rose writes.faults writes.counted

-- The reply to these arguments before the answer is written: a status and a text; or memory ran out,
-- which it doesn't where the first word is no command.
pub record IsReply {E : Type 0} (words : List (List ℕ)) (reads : SourceCall) (handed : List (Option Told))
    (answer : Result (Status × List ℕ) E) (image : Option Image) (threads : List Image)
    (back : List (Option Told)) : Type 0 where
  pub answered : IfOk answer (λ a. Replies words reads.left reads.after reads.faults reads.counted handed
      a.0 a.1 image threads back)
  pub memory : OnErr answer (Falls words reads.left reads.after handed image threads back)
  pub known : ¬ HasCommand words → IsOk answer

-- A call on these words, of which the source and the sink report this, and to which these ports are handed
-- in, ends with this status and hands back this image, the images of these threads, and the ports.
pub record CallEnds (words : List (List ℕ)) (reads : SourceCall) (writes : Writing)
    (handed : List (Option Told)) (status : Status) (image : Option Image) (threads : List Image)
    (back : List (Option Told)) : Type 0 where
  -- what went out is the whole answer, and it was flushed
  pub answered : status ≢ WriteFault → status ≢ NoMemory
      → (text : List ℕ)
      × Replies words reads.left reads.after reads.faults reads.counted handed status text image
      threads back
      × Adds writes.held text writes.holds × Flushes writes.holds writes.flushed writes.covered
  -- what went out is a prefix of the answer, and nothing was flushed
  pub cut : status ≡ WriteFault
      → (would : Status) × (text : List ℕ) × (n : ℕ) × (n ≤ length text)
      × Replies words reads.left reads.after reads.faults reads.counted handed would text image
      threads back
      × Adds writes.held (take n text) writes.holds × (writes.covered ≡ writes.flushed)
  -- nothing went out; the bytes that were read are gone, and the ports are as a run left them, where one
  -- had begun
  pub memory : status ≡ NoMemory
      → Falls words reads.left reads.after handed image threads back
      × (writes.holds ≡ writes.held) × (writes.covered ≡ writes.flushed)
  -- faults come only where a count rose
  pub read_fault : status ≡ ReadFault → Rose reads.faults reads.counted
  pub write_fault : status ≡ WriteFault → Rose writes.faults writes.counted
  pub port_fault : (port : ℕ) → status ≡ PortFault port → RoseAt port handed back
  -- where no count rose, the words and the text alone decide, unless memory runs out
  pub usage : IsNoLine words → WritesWell writes → OrNoMemory status Usage
  -- a word that is no command is reported without any memory
  pub unknown : ¬ HasCommand words → WritesWell writes → status ≡ Usage
  pub generated : (number : ℕ) → AsksFor words (Generate number) → WritesWell writes
      → OrNoMemory status Done
  pub benched : (options : BenchOptions) (parts : List Part) → AsksFor words (Bench options)
      → IsGeneratedJob options.number parts → WritesWell writes
      → BenchEndsSo options parts handed status ⊎ (status ≡ NoMemory)
  pub done : (task : JobTask) (parts : List Part) (input : List ℕ)
      → IsToldJob words reads.left task parts input → ComesToItsEnd task parts input handed
      → ReadsWell reads → WritesWell writes → ¬ SomeRose handed back → OrNoMemory status Done
  pub fault : (task : JobTask) (parts : List Part) (input : List ℕ)
      → IsToldJob words reads.left task parts input → MeetsFault task parts input handed
      → ReadsWell reads → WritesWell writes → ¬ SomeRose handed back → OrNoMemory status Fault
  pub budget : (task : JobTask) (parts : List Part) (input : List ℕ)
      → IsToldJob words reads.left task parts input → WantsTurns task parts input handed
      → ReadsWell reads → WritesWell writes → ¬ SomeRose handed back → OrNoMemory status Budget
  pub refused : (task : JobTask) → IsToldOther words reads.left task
      → ReadsWell reads → WritesWell writes → OrNoMemory status Refused
  pub assembled : (task : AssemblyTask) (image : Image) (input : List ℕ)
      → (told : IsToldAssembly words reads.left task image input)
      → ReadsWell reads → WritesWell writes
      → AssemblyEndsSo task told.text image input handed status ⊎ (status ≡ NoMemory)
  pub unassembled : (task : AssemblyTask) → IsToldNoAssembly words reads.left task
      → ReadsWell reads → WritesWell writes → OrNoMemory status Refused
  pub multiplied : (options : RunOptions) (jobs : List ProgramAndInput)
      → AreToldJobs words reads.left options jobs → ReadsWell reads → WritesWell writes
      → MultiEndsSo options jobs handed status ⊎ (status ≡ NoMemory)
  pub multiplied_done : (options : RunOptions) (jobs : List ProgramAndInput)
      → AreToldJobs words reads.left options jobs → ComeToTheirEnd options jobs handed
      → ReadsWell reads → WritesWell writes → ¬ SomeRose handed back → OrNoMemory status Done
  pub unmultiplied : (options : RunOptions) → AreToldNoJobs words reads.left options
      → ReadsWell reads → WritesWell writes → OrNoMemory status Refused
  -- and the status of a run is what the walk of the image decides that is handed back
  pub decided : (options : RunOptions) (parts : List Part) (input : List ℕ) (ran : Image)
      → IsToldJob words reads.left (Run options) parts input → image ≡ Some ran
      → ReadsWell reads → WritesWell writes
      → EndsRun ran (world_with input handed) options.budget status ⊎ (status ≡ NoMemory)
  pub bench_decided : (options : BenchOptions) (ran : Image) → AsksFor words (Bench options)
      → image ≡ Some ran → WritesWell writes
      → EndsRun ran (world_with (words_of options.number) handed) options.run.budget status
      ⊎ (status ≡ NoMemory)
  pub multi_decided : (options : RunOptions) (jobs : List ProgramAndInput)
      → AreToldJobs words reads.left options jobs → ReadsWell reads → WritesWell writes
      → WalksEndSo options threads jobs handed status ⊎ (status ≡ NoMemory)

-- slots of which the first alone has a port, which reports this
abbrev pub in_first : Told → List (Option Told)
in_first port = Some port ∷ None ∷ None ∷ None ∷ None ∷ None ∷ None ∷ []

-- Such a call, with a port in the first slot alone, ends with a status of which this is the code.
abbrev pub EndsWithCode : List (List ℕ) → SourceCall → Writing → Told → ℕ → Type 0
EndsWithCode words reads writes port code =
    (status : Status) × (image : Option Image) × (threads : List Image) × (back : List (Option Told))
    × CallEnds words reads writes (in_first port) status image threads back × (code ≡ code_of status)
