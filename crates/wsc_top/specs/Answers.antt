-- What a call of the program answers: the status, and the text that goes out with it.
use Rattle.std.specs.Prelude.{◌≡◌, ◌⊎◌, ℕ, suc, ◌+◌, ◌*◌, ◌≤◌, false, List, [], ◌∷◌, ◌++◌, length, Option}
use Rattle.std.specs.Prelude.{Some, None}
use Rattle.std.specs.List.{AllByRecursion}
use Rattle.ws_io.specs.Streams.{Rose, Takes, TakesAll}
use Rattle.ws_words.specs.Outside.{Act, gives, takes, Outside, World, printed_words, IsMachineWord}
use Rattle.ws_words.specs.Past.{after_acts}
use Rattle.src_ast.specs.declared.fault.Refusal.{Refusal}
use Rattle.src_ast.specs.Syntax.{Part}
use Rattle.src_ast.specs.Bound.{bound}
use Rattle.src_ast.specs.Meaning.{Passes}
use Rattle.src_ast.specs.Runs.{Runs, Goes, Faults, opened}
use Rattle.src_ast.specs.Printed.{printed_form}
use Rattle.src_ast.specs.Written.{ReadsTheSame}
use Rattle.wsc_top.specs.declared.status.Status.{Status}
use Rattle.wsc_top.specs.declared.status.Status.TheVariants.{Done, Usage, Refused, Budget, ReadFault}
use Rattle.wsc_top.specs.declared.status.Status.TheVariants.{PortFault, NoMemory, Fault}
use Rattle.wsc_top.specs.declared.task.Task.{Task}
use Rattle.wsc_top.specs.declared.task.Task.TheVariants.{Job, Assembly, Generate, Bench, Multi}
use Rattle.wsc_top.specs.declared.task.JobTask.{JobTask}
use Rattle.wsc_top.specs.declared.task.JobTask.TheVariants.{Run, Format, Compile, Plain}
use Rattle.wsc_top.specs.declared.task.AssemblyTask.{AssemblyTask}
use Rattle.wsc_top.specs.declared.task.AssemblyTask.TheVariants.{Check, List as Listing, Exec, Trace, Replay}
use Rattle.wsc_top.specs.declared.task.AssemblyTask.TheVariants.{Grid}
use Rattle.wsc_top.specs.declared.task.PlainOptions.{PlainOptions}
use Rattle.wsc_top.specs.declared.task.RunOptions.{RunOptions}
use Rattle.wsc_top.specs.declared.task.GridOptions.{GridOptions}
use Rattle.wsc_top.specs.declared.task.BenchOptions.{BenchOptions}
use Rattle.asm_read.specs.declared.assembly.AsmRefusal.{AsmRefusal}
use Rattle.port_set.specs.Ports.{Told}
use Rattle.store_buf.specs.Outdoors.{AllTell, RoseAt, lefts_of, world_with}
use Rattle.ws_isa.specs.Image.{Image}
use Rattle.wave_build.specs.Compiled.{IsCompiled}
use Rattle.asm_text.specs.Printed.{printed}
use Rattle.list_out.specs.Listing.{listing}
use Rattle.asm_read.specs.Sections.{before_trace}
use Rattle.asm_read.specs.Assembly.{assembly_limit, IsAssembly, RefusesAssembly}
use Rattle.work_gen.specs.Job.{words_of, job_text}
use Rattle.wsc_top.specs.Tasks.{AsksFor, IsNoLine}
use Rattle.job_read.specs.Job.{job_limit, IsJob, Refuses}
use Rattle.asm_read.specs.Reads.{world_of}
use Rattle.wsc_top.specs.Texts.{going_text, turns_line, names_of, array_name}
use Rattle.run_text.specs.Texts.{ended_text, faulted_text}
use Rattle.wsc_top.specs.Texts.{usage_text, sound_text}
use Rattle.asm_read.specs.Texts.{unread_text, long_text, refusal_text}
use Rattle.asm_read.specs.Texts.{asm_refusal_text}
use Rattle.wsc_top.specs.Executions.{Executes, PortsAre, HasBegun, EndsRun, IsFailed, OrFailed}
use Rattle.run_text.specs.Reports.{end_report}
use Rattle.wsc_top.specs.Executions.{tells_firings}
use Rattle.run_text.specs.Reports.{fault_report, spent_report, failed_report}
use Rattle.wsc_top.specs.Generated.{IsGeneratedJob}
use Rattle.trace_check.specs.declared.events.Lined.{Lined}
use Rattle.wsc_top.specs.Traced.{IsTraced, IsReplayed, HasTrace, EndsReplay}
use Rattle.wsc_top.specs.Clocked.{IsClocked}

-- each port that is handed in reports the words that it has left, which are words
abbrev pub TellWords : List (Option Told) → Type 0
TellWords ports =
    AllTell ports × AllByRecursion (AllByRecursion IsMachineWord) (lefts_of ports)

-- the count of faults of some port rose
abbrev pub SomeRose : List (Option Told) → List (Option Told) → Type 0
SomeRose handed back = (port : ℕ) × RoseAt port handed back

-- The acts of the sequential run in at most n turns: to its end, to its first index fault, or to
-- where it needs a further turn.
pub data DoesWithin (parts : List Part) (world : World) (n : ℕ) : List Act → Type 0 where
  to_end : (m : ℕ) (end : Outside) → m ≤ n → Runs parts world m end → DoesWithin parts world n end.acts
  to_fault : (m array : ℕ) (state : Outside) → m ≤ n → Faults parts world m array state
      → DoesWithin parts world n state.acts
  so_far : (now : Outside) → Goes parts world n now → DoesWithin parts world n now.acts

-- an act on the port with this number
abbrev pub IsOnPort : ℕ → Act → Type 0
IsOnPort port (gives p) = p ≡ port
IsOnPort port (takes p w) = p ≡ port
IsOnPort port _ = ⊥

-- What the run of an image of a program reports, and where it leaves the ports, in terms of the
-- program's own run.
pub data TellsRun (options : RunOptions) (parts : List Part) (world : World)
    (handed : List (Option Told)) : Status → List ℕ → List (Option Told) → Type 0 where
  -- the sequential run has ended; what it printed and left is reported
  ended : {back : List (Option Told)} (n fired : ℕ) (end : Outside) → Runs parts world n end
      → fired ≤ options.budget → PortsAre handed end back
      → TellsRun options parts world handed Done
      (end_report options.report (names_of parts) (printed_words end.acts) end.cells fired) back
  -- it meets this index fault; what it printed and left before it is reported
  faulted : {back : List (Option Told)} (n array : ℕ) (state : Outside)
      → Faults parts world n array state → PortsAre handed state back
      → TellsRun options parts world handed Fault
      (fault_report options.report (array_name (names_of parts) array) (names_of parts)
      (printed_words state.acts) state.cells) back
  -- what the first of its acts in some number of turns print is reported
  spent : {back : List (Option Told)} (n : ℕ) (front more : List Act)
      → DoesWithin parts world n (front ++ more)
      → PortsAre handed (after_acts (opened parts world) front) back
      → TellsRun options parts world handed Budget
      (spent_report options.report (printed_words front) options.budget) back
  -- this port failed at its next act, and what those before it print is reported
  failed : {back : List (Option Told)} (n port : ℕ) (front more : List Act) (act : Act)
      → DoesWithin parts world n (front ++ act ∷ more) → IsOnPort port act → RoseAt port handed back
      → PortsAre handed (after_acts (opened parts world) front) back
      → TellsRun options parts world handed (PortFault port)
      (failed_report options.report (printed_words front) port) back

-- What comes of a task to a program and its input words: the status, the text, the image that was
-- run or printed, and the ports, of which those were handed in. `run` runs an image of the program
-- with the ports; `format` prints its printed form, which reads as the same program; `compile` prints
-- an image of it; `plain` is the sequential run itself, with nothing left in any port, in at most so
-- many turns: at its end, before its first index fault, or where it needs a further turn.
pub data Yields : JobTask → List Part → List ℕ → List (Option Told) → Status → List ℕ
    → Option Image → List (Option Told) → Type 0 where
  ran : {options : RunOptions} {parts : List Part} {input : List ℕ} {handed : List (Option Told)}
      {status : Status} {out : List ℕ} {back : List (Option Told)} (image : Image)
      → IsCompiled parts image
      → Executes options image (world_with input handed) handed status out back
      → TellsRun options parts (world_with input handed) handed status out back
      → Yields (Run options) parts input handed status out (Some image) back
  formatted : {parts : List Part} {input : List ℕ} {handed : List (Option Told)}
      → ReadsTheSame parts
      → Yields Format parts input handed Done (printed_form parts) None handed
  compiled : {parts : List Part} {input : List ℕ} {handed : List (Option Told)} (image : Image)
      → IsCompiled parts image
      → Yields Compile parts input handed Done (printed image) (Some image) handed
  ended : {options : PlainOptions} {parts : List Part} {input : List ℕ}
      {handed : List (Option Told)} (n : ℕ) (end : Outside)
      → Runs parts (world_of input) n end → n ≤ options.turns
      → Yields (Plain options) parts input handed Done
      (ended_text options.memory options.stats (names_of parts)
      (printed_words end.acts) end.cells (turns_line n)) None handed
  faulted : {options : PlainOptions} {parts : List Part} {input : List ℕ}
      {handed : List (Option Told)} (n array : ℕ) (state : Outside)
      → Faults parts (world_of input) n array state → n ≤ options.turns
      → Yields (Plain options) parts input handed Fault
      (faulted_text options.memory (array_name (names_of parts) array) (names_of parts)
      (printed_words state.acts) state.cells) None handed
  going : {options : PlainOptions} {parts : List Part} {input : List ℕ}
      {handed : List (Option Told)} (now : Outside)
      → Goes parts (world_of input) options.turns now
      → Yields (Plain options) parts input handed Budget (going_text (printed_words now.acts))
      None handed

-- A task completes: the sequential run in no more turns than it may take, and the run of an
-- image where its budget has the program's bound for each turn, and once more.
abbrev pub ComesToItsEnd : JobTask → List Part → List ℕ → List (Option Told) → Type 0
ComesToItsEnd (Run options) parts input handed =
    (n : ℕ) × (end : Outside)
    × Runs parts (world_with input handed) n end × (bound parts * suc n ≤ options.budget)
ComesToItsEnd Format parts input handed = Unit {0}
ComesToItsEnd Compile parts input handed = Unit {0}
ComesToItsEnd (Plain options) parts input handed =
    (n : ℕ) × (end : Outside) × Runs parts (world_of input) n end × (n ≤ options.turns)

-- it meets an index fault, in a turn that it may take: the run of an image if the unchecked run ends
-- within its budget
abbrev pub MeetsFault : JobTask → List Part → List ℕ → List (Option Told) → Type 0
MeetsFault (Run options) parts input handed =
    ((m array : ℕ) × (state : Outside) × Faults parts (world_with input handed) m array state)
    × ((n : ℕ) × (end : Outside)
    × Passes parts (world_with input handed) n end × (bound parts * suc n ≤ options.budget))
MeetsFault Format parts input handed = ⊥
MeetsFault Compile parts input handed = ⊥
MeetsFault (Plain options) parts input handed =
    (n array : ℕ) × (state : Outside)
    × Faults parts (world_of input) n array state × (n ≤ options.turns)

-- it needs more turns than it may take: the run of an image where the sequential run never ends
abbrev pub WantsTurns : JobTask → List Part → List ℕ → List (Option Told) → Type 0
WantsTurns (Run options) parts input handed =
    (n : ℕ) → (now : Outside) × Goes parts (world_with input handed) n now
WantsTurns Format parts input handed = ⊥
WantsTurns Compile parts input handed = ⊥
WantsTurns (Plain options) parts input handed =
    (now : Outside) × Goes parts (world_of input) options.turns now

-- each of the three has its status, unless a port failed
pub record JobEndsSo (task : JobTask) (parts : List Part) (input : List ℕ)
    (handed : List (Option Told)) (status : Status) : Type 0 where
  pub done : ComesToItsEnd task parts input handed → OrFailed status Done
  pub fault : MeetsFault task parts input handed → OrFailed status Fault
  pub budget : WantsTurns task parts input handed → OrFailed status Budget

-- The answer of a task to a job, with the ports that were handed in: the status, the text, the image
-- and the ports.
pub data Answered (task : JobTask) (text : List ℕ) (handed : List (Option Told))
    : Status → List ℕ → Option Image → List (Option Told) → Type 0 where
  -- it is refused
  refused : (r : Refusal) → Refuses text r
      → Answered task text handed Refused (refusal_text r) None handed
  -- it is a job, and this comes of it
  done : {status : Status} {out : List ℕ} {image : Option Image} {back : List (Option Told)}
      (parts : List Part) (input : List ℕ)
      → IsJob text parts input → Yields task parts input handed status out image back
      → Answered task text handed status out image back

-- a task of which one thing alone comes, by what is said of it here: `run` and `compile` could take
-- another image of the program
abbrev pub IsFixed : JobTask → Type 0
IsFixed (Run options) = ⊥
IsFixed Compile = ⊥
IsFixed _ = Unit {0}

-- a status and a text are an answer of a task to a text, with some image and ports
abbrev pub IsAnswer : JobTask → List ℕ → List (Option Told) → Status × List ℕ → Type 0
IsAnswer task text handed answer = (image : Option Image) × (back : List (Option Told))
    × Answered task text handed answer.0 answer.1 image back

-- An answer of a run that leaves nothing to the image: it isn't cut short by the budget or a port,
-- and if the run has ended its firings aren't reported.
abbrev pub IsFree : RunOptions → Status → Type 0
IsFree options status = (status ≡ Budget → ⊥) × (IsFailed status → ⊥)
    × (status ≡ Done → tells_firings options.report ≡ false)

-- the part of a text that is an assembly with its input words
abbrev pub assembly_text : AssemblyTask → List ℕ → List ℕ
assembly_text Replay text = before_trace text
assembly_text _ text = text

-- What comes of a task to a text with a sound image and its input words: `check` says that it is
-- sound, `list` lists it, `exec` runs it with the ports, `trace` prints the events of a run, `replay`
-- makes the events that the text has, and `grid` runs it on a clocked grid.
pub data AssemblyYields : AssemblyTask → List ℕ → Image → List ℕ → List (Option Told) → Status
    → List ℕ → Option Image → List (Option Told) → Type 0 where
  checked : {text : List ℕ} {image : Image} {input : List ℕ} {handed : List (Option Told)}
      → AssemblyYields Check text image input handed Done sound_text None handed
  listed : {text : List ℕ} {image : Image} {input : List ℕ} {handed : List (Option Told)}
      → AssemblyYields Listing text image input handed Done (listing image) None handed
  executed : {options : RunOptions} {text : List ℕ} {image : Image} {input : List ℕ}
      {handed : List (Option Told)} {status : Status} {out : List ℕ} {back : List (Option Told)}
      → Executes options image (world_with input handed) handed status out back
      → AssemblyYields (Exec options) text image input handed status out (Some image) back
  traced : {budget : ℕ} {text : List ℕ} {image : Image} {input : List ℕ}
      {handed : List (Option Told)} {status : Status} {out : List ℕ}
      → IsTraced budget image input status out → EndsRun image (world_of input) budget status
      → AssemblyYields (Trace budget) text image input handed status out (Some image) handed
  replayed : {text : List ℕ} {image : Image} {input : List ℕ} {handed : List (Option Told)}
      {status : Status} {out : List ℕ} {again : Option Image}
      → IsReplayed text image input status out again → EndsReplay text image input status
      → AssemblyYields Replay text image input handed status out again handed
  gridded : {options : GridOptions} {text : List ℕ} {image : Image} {input : List ℕ}
      {handed : List (Option Told)} {status : Status} {out : List ℕ}
      → IsClocked options image input status out
      → EndsRun image (world_of input) options.budget status
      → AssemblyYields (Grid options) text image input handed status out (Some image) handed

-- the status of a task to a sound image: Done, but for a run, a trace, a replay and a run on a grid
abbrev pub AssemblyEndsSo : AssemblyTask → List ℕ → Image → List ℕ → List (Option Told) → Status
    → Type 0
AssemblyEndsSo Check text image input handed status = status ≡ Done
AssemblyEndsSo Listing text image input handed status = status ≡ Done
AssemblyEndsSo (Exec options) text image input handed status =
    EndsRun image (world_with input handed) options.budget status
AssemblyEndsSo (Trace budget) text image input handed status =
    EndsRun image (world_of input) budget status
AssemblyEndsSo Replay text image input handed status = EndsReplay text image input status
AssemblyEndsSo (Grid options) text image input handed status =
    EndsRun image (world_of input) options.budget status

-- The answer of a task to an assembly, with the ports that were handed in: the status, the text, the
-- image and the ports.
pub data AssemblyAnswered (task : AssemblyTask) (text : List ℕ) (handed : List (Option Told))
    : Status → List ℕ → Option Image → List (Option Told) → Type 0 where
  -- it is refused
  refused : (r : AsmRefusal) → RefusesAssembly (assembly_text task text) r
      → AssemblyAnswered task text handed Refused (asm_refusal_text r) None handed
  -- it is sound, and this comes of it
  done : {status : Status} {out : List ℕ} {again : Option Image} {back : List (Option Told)}
      (image : Image) (input : List ℕ)
      → IsAssembly (assembly_text task text) image input
      → AssemblyYields task text image input handed status out again back
      → AssemblyAnswered task text handed status out again back

-- The answer of `bench`: an image of the generated job is run.
pub record Benched (options : BenchOptions) (handed : List (Option Told)) (status : Status)
    (out : List ℕ) (image : Option Image) (back : List (Option Told)) : Type 0 where
  pub parts : List Part
  pub job : IsGeneratedJob options.number parts
  pub yields : Yields (Run options.run) parts (words_of options.number) handed status out image back

-- the status of `bench`: that of the run of the program
abbrev pub BenchEndsSo : BenchOptions → List Part → List (Option Told) → Status → Type 0
BenchEndsSo options parts handed status =
    JobEndsSo (Run options.run) parts (words_of options.number) handed status

-- a task that doesn't speak of the order of events
abbrev pub IsSettled : AssemblyTask → Type 0
IsSettled (Trace budget) = ⊥
IsSettled Replay = ⊥
IsSettled _ = Unit {0}

-- a status and a text are an answer of a task to an assembly, with some image and ports
abbrev pub IsAssemblyReply : AssemblyTask → List ℕ → List (Option Told) → Status × List ℕ → Type 0
IsAssemblyReply task text handed answer = (image : Option Image) × (back : List (Option Told))
    × AssemblyAnswered task text handed answer.0 answer.1 image back

-- a task that reads from the source
abbrev pub IsReader : Task → Type 0
IsReader (Job task) = Unit {0}
IsReader (Assembly task) = Unit {0}
IsReader (Generate number) = ⊥
IsReader (Bench options) = ⊥
IsReader (Multi options) = Unit {0}

-- the most bytes that it reads as a text
abbrev pub limit_of : Task → ℕ
limit_of (Job task) = job_limit
limit_of (Assembly task) = assembly_limit
limit_of (Generate number) = 0
limit_of (Bench options) = 0
limit_of (Multi options) = job_limit

-- The answer to these words, where the source had these bytes left before the call and those after
-- it, and counted these faults before it and those after it, and these ports were handed in: the
-- status, the text, the image that was run or printed, and the ports as they are handed back.
pub data Answers (words : List (List ℕ)) (left after : Option (List ℕ)) (faults counted : ℕ)
    (handed : List (Option Told)) : Status → List ℕ → Option Image → List (Option Told) → Type 0
  where
    -- the words are no line; nothing is read
    usage : IsNoLine words → after ≡ left
        → Answers words left after faults counted handed Usage usage_text None handed
    -- the job of this number is written; nothing is read
    generated : (number : ℕ) → AsksFor words (Generate number) → after ≡ left
        → Answers words left after faults counted handed Done (job_text number) None handed
    -- the job of this number is run; nothing is read
    benched : {status : Status} {out : List ℕ} {image : Option Image} {back : List (Option Told)}
        (options : BenchOptions)
        → AsksFor words (Bench options) → after ≡ left
        → Benched options handed status out image back
        → Answers words left after faults counted handed status out image back
    -- reading failed
    unread : (task : Task) (bytes : List ℕ) → AsksFor words task → IsReader task
        → Rose faults counted → length bytes ≤ limit_of task → Takes left bytes after
        → Answers words left after faults counted handed ReadFault unread_text None handed
    -- one byte more than the text may have was read
    long : (task : Task) (bytes : List ℕ) → AsksFor words task → IsReader task
        → length bytes ≡ limit_of task + 1 → Takes left bytes after
        → Answers words left after faults counted handed Refused long_text None handed
    -- the whole text was read, and this is the answer to it
    read : {status : Status} {out : List ℕ} {image : Option Image} {back : List (Option Told)}
        (task : JobTask) (text : List ℕ)
        → AsksFor words (Job task) → length text ≤ job_limit → TakesAll left text after
        → Answered task text handed status out image back
        → Answers words left after faults counted handed status out image back
    assembled : {status : Status} {out : List ℕ} {image : Option Image} {back : List (Option Told)}
        (task : AssemblyTask) (text : List ℕ)
        → AsksFor words (Assembly task) → length text ≤ assembly_limit → TakesAll left text after
        → AssemblyAnswered task text handed status out image back
        → Answers words left after faults counted handed status out image back

-- The words, and what was read, ask for a run of this image on these input words.
pub data IsDue (words : List (List ℕ)) (left after : Option (List ℕ))
    : RunOptions → Image → List ℕ → Type 0 where
  -- an image of the program of a job
  job : {options : RunOptions} {image : Image} {input : List ℕ} (text : List ℕ) (parts : List Part)
      → AsksFor words (Job (Run options)) → length text ≤ job_limit → TakesAll left text after
      → IsJob text parts input → IsCompiled parts image
      → IsDue words left after options image input
  -- that of an assembly
  assembly : {options : RunOptions} {image : Image} {input : List ℕ} (text : List ℕ)
      → AsksFor words (Assembly (Exec options)) → length text ≤ assembly_limit
      → TakesAll left text after → IsAssembly text image input
      → IsDue words left after options image input
  -- one of the program of a generated job
  generated : {image : Image} (options : BenchOptions) (parts : List Part)
      → AsksFor words (Bench options) → after ≡ left → IsGeneratedJob options.number parts
      → IsCompiled parts image
      → IsDue words left after options.run image (words_of options.number)

-- These bytes were read: none, or where the words ask for a task that reads, at most one more than
-- its text may have.
abbrev pub WereRead : List (List ℕ) → List ℕ → Type 0
WereRead words bytes = (bytes ≡ []) ⊎ ((task : Task)
    × AsksFor words task × IsReader task × (length bytes ≤ limit_of task + 1))

-- a task that runs the image of this text without ports: `trace`, `grid`, and `replay` where the text
-- has a trace
abbrev pub RunsClosed : AssemblyTask → List ℕ → Type 0
RunsClosed (Trace budget) text = Unit {0}
RunsClosed Replay text = (trace : List Lined) × HasTrace text trace
RunsClosed (Grid options) text = Unit {0}
RunsClosed _ text = ⊥

-- The words, and what was read, ask for this image to be written, or to be run without ports.
pub data IsWanted (words : List (List ℕ)) (left after : Option (List ℕ)) : Image → Type 0 where
  -- `compile` writes an image of the program of a job
  written : {image : Image} (text : List ℕ) (parts : List Part) (input : List ℕ)
      → AsksFor words (Job Compile) → length text ≤ job_limit → TakesAll left text after
      → IsJob text parts input → IsCompiled parts image → IsWanted words left after image
  -- that of an assembly is run
  closed : {image : Image} (task : AssemblyTask) (text input : List ℕ)
      → AsksFor words (Assembly task) → length text ≤ assembly_limit → TakesAll left text after
      → IsAssembly (assembly_text task text) image input → RunsClosed task text
      → IsWanted words left after image

-- The image that is handed back where memory ran out and no run with ports had begun: none, or one that
-- was begun to be written, or to be run without ports.
pub data RunsOut (words : List (List ℕ)) (left after : Option (List ℕ)) : Option Image → Type 0 where
  unbegun : (bytes : List ℕ) → WereRead words bytes → Takes left bytes after
      → RunsOut words left after None
  begun : {image : Image} → IsWanted words left after image → RunsOut words left after (Some image)

-- What is handed back where memory ran out. Either no run with ports had begun, and the ports are as they
-- were handed in; or the image is the one that is due, and the ports are as its run left them.
pub data Starves (words : List (List ℕ)) (left after : Option (List ℕ)) (handed : List (Option Told))
    : Option Image → List (Option Told) → Type 0 where
  before : {image : Option Image} → RunsOut words left after image
      → Starves words left after handed image handed
  within : {options : RunOptions} {image : Image} {input : List ℕ} {back : List (Option Told)}
      → IsDue words left after options image input
      → HasBegun image (world_with input handed) handed back
      → Starves words left after handed (Some image) back

-- all that the source has left is reported, and it is a job: this program and these input words
pub record IsToldJob (words : List (List ℕ)) (left : Option (List ℕ)) (task : JobTask)
    (parts : List Part) (input : List ℕ) : Type 0 where
  pub text : List ℕ
  pub line : AsksFor words (Job task)
  pub told : left ≡ Some text
  pub short : length text ≤ job_limit
  pub job : IsJob text parts input

-- all that the source has left is reported, and it is no job
pub record IsToldOther (words : List (List ℕ)) (left : Option (List ℕ)) (task : JobTask)
    : Type 0 where
  pub text : List ℕ
  pub line : AsksFor words (Job task)
  pub told : left ≡ Some text
  pub other : length text ≤ job_limit → (parts : List Part) (input : List ℕ)
      → IsJob text parts input → ⊥

-- all that the source has left is reported, and it is an assembly: this sound image and these words
pub record IsToldAssembly (words : List (List ℕ)) (left : Option (List ℕ)) (task : AssemblyTask)
    (image : Image) (input : List ℕ) : Type 0 where
  pub text : List ℕ
  pub line : AsksFor words (Assembly task)
  pub told : left ≡ Some text
  pub short : length text ≤ assembly_limit
  pub assembly : IsAssembly (assembly_text task text) image input

-- all that the source has left is reported, and it is no such assembly
pub record IsToldNoAssembly (words : List (List ℕ)) (left : Option (List ℕ)) (task : AssemblyTask)
    : Type 0 where
  pub text : List ℕ
  pub line : AsksFor words (Assembly task)
  pub told : left ≡ Some text
  pub other : length text ≤ assembly_limit → (image : Image) (input : List ℕ)
      → IsAssembly (assembly_text task text) image input → ⊥

-- the status is this one, unless memory ran out
abbrev pub OrNoMemory : Status → Status → Type 0
OrNoMemory status wanted = (status ≡ wanted) ⊎ (status ≡ NoMemory)
