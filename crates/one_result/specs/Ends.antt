-- How a call on a job ends: with its result, if the sequential run ends and the budget suffices.
use Rattle.std.specs.Prelude.{◌≡◌, ◌⊎◌, ℕ, suc, ◌*◌, ◌≤◌, Bool, List, ◌++◌, length}
use Rattle.ws_words.specs.Outside.{Outside}
use Rattle.src_ast.specs.Bound.{bound}
use Rattle.src_ast.specs.Runs.{Runs, Goes}
use Rattle.src_ast.specs.Syntax.{Part}
use Rattle.wsc_top.specs.declared.status.Status.{Status}
use Rattle.wsc_top.specs.declared.status.Status.TheVariants.{Done, ReadFault, WriteFault, PortFault, NoMemory}
use Rattle.wsc_top.specs.declared.task.Task.{Task}
use Rattle.wsc_top.specs.declared.task.Task.TheVariants.{Job, Assembly}
use Rattle.wsc_top.specs.declared.task.JobTask.TheVariants.{Run, Plain}
use Rattle.wsc_top.specs.declared.task.AssemblyTask.TheVariants.{Exec, Grid}
use Rattle.wsc_top.specs.Tasks.{AsksFor}
use Rattle.job_read.specs.Job.{IsJob, job_limit}
use Rattle.ws_isa.specs.Image.{Image}
use Rattle.ws_isa.specs.Operations.{NoFault}
use Rattle.ws_isa.specs.Walk.{CostAtMost}
use Rattle.asm_read.specs.Reads.{world_of}
use Rattle.asm_read.specs.Assembly.{IsAssembly, assembly_limit}
use Rattle.one_result.specs.OneResult.{HasWritten, IsCodeOf, JobHasRun, IsResult, job_commands}
use Rattle.one_result.specs.OneResult.{assembly_commands, input_section}

-- a task may fire so often, or take so many turns where it is `plain`
abbrev pub MaySpend : ℕ → ℕ → Task → Type 0
MaySpend firings turns (Job (Run options)) = firings ≤ options.budget
MaySpend firings turns (Job (Plain options)) = turns ≤ options.turns
MaySpend firings turns (Assembly (Exec options)) = firings ≤ options.budget
MaySpend firings turns (Assembly (Grid options)) = firings ≤ options.budget
MaySpend firings turns _ = ⊥

-- the words ask for such a task
abbrev pub AskToSpend : ℕ → ℕ → List (List ℕ) → Type 0
AskToSpend firings turns words = (task : Task) × AsksFor words task × MaySpend firings turns task

-- memory ran out, or the source, the sink or a port failed
abbrev pub HasFailed : Status → Type 0
HasFailed status = (status ≡ NoMemory) ⊎ ((status ≡ ReadFault) ⊎ ((status ≡ WriteFault)
    ⊎ ((port : ℕ) × (status ≡ PortFault port))))

-- A job whose sequential run ends after some turns completes by `run`, if its budget is the bound of the
-- program for each turn and once more, and by `plain`, if it may take so many turns, unless memory runs out
-- or something fails.
abbrev pub JobsEnd : Type 0
JobsEnd = (text : List ℕ) (parts : List Part) (input : List ℕ) (turns : ℕ) (end : Outside)
    (status : Status) (out : List ℕ)
    → IsJob text parts input → Runs parts (world_of input) turns end → length text ≤ job_limit
    → HasWritten job_commands (AskToSpend (bound parts * suc turns) turns) text status out
    → (status ≡ Done) ⊎ HasFailed status

-- So it does by `exec`, `decouple` and `grid` on what `compile` has written of it.
abbrev pub CodeEnds : Type 0
CodeEnds = (text code : List ℕ) (parts : List Part) (input : List ℕ) (turns : ℕ) (end : Outside)
    (status : Status) (out : List ℕ)
    → IsJob text parts input → Runs parts (world_of input) turns end → IsCodeOf code text
    → length (code ++ input_section text) ≤ assembly_limit
    → HasWritten assembly_commands (AskToSpend (bound parts * suc turns) turns) (code ++ input_section text)
    status out
    → (status ≡ Done) ⊎ HasFailed status

-- An assembly whose walk meets no index fault completes if its budget is at least what the walk
-- costs.
abbrev pub AssembliesEnd : Type 0
AssembliesEnd = (text : List ℕ) (image : Image) (input : List ℕ) (firings : ℕ) (status : Status)
    (out : List ℕ)
    → IsAssembly text image input → NoFault image (world_of input)
    → CostAtMost image (world_of input) firings → length text ≤ assembly_limit
    → HasWritten assembly_commands (AskToSpend firings 0) text status out
    → (status ≡ Done) ⊎ HasFailed status

-- A job whose sequential run never ends never reaches a result, whatever its budget.
abbrev pub NeverEnds : Type 0
NeverEnds = (text : List ℕ) (parts : List Part) (input : List ℕ) (memory : Bool) (status : Status)
    (out : List ℕ)
    → IsJob text parts input → ((turns : ℕ) → (now : Outside) × Goes parts (world_of input) turns now)
    → JobHasRun memory text status out → IsResult status → ⊥
