-- Which status a call ends with, and when: where no fault comes the words and the text alone decide, want of
-- memory aside.
use Rattle.std.specs.Prelude.{ℕ, ◌≡◌, ◌⊎◌, ◌≤◌, ◌↔◌, List, length, Some}
use Rattle.ws_words.specs.Outside.{World}
use Rattle.ws_io.specs.Streams.{Rose}
use Rattle.ws_isa.specs.Image.{Image}
use Rattle.ws_isa.specs.Walk.{CostAtMost}
use Rattle.ws_isa.specs.Operations.{FaultsAt, NoFault}
use Rattle.stream_top.specs.declared.status.Status.{Status}
use Rattle.stream_top.specs.declared.status.Status.TheVariants.{Done, Usage, Refused, Budget, ReadFault}
use Rattle.stream_top.specs.declared.status.Status.TheVariants.{WriteFault, NoMemory, Fault}
use Rattle.asm_read.specs.Assembly.{assembly_limit, IsAssembly}
use Rattle.asm_read.specs.Reads.{SourceCall, world_of}
use Rattle.stream_run.specs.declared.options.Options.{Options}
use Rattle.run_text.specs.Writes.{Writing}
use Rattle.stream_top.specs.Lines.{AsksForRun}
use Rattle.stream_top.specs.Calls.{IsNoLine}

-- the status is this one, unless memory ran out
abbrev pub OrNoMemory : Status → Status → Type 0
OrNoMemory status wanted = (status ≡ wanted) ⊎ (status ≡ NoMemory)

-- memory ran out, or the source or the sink failed
abbrev pub FailedStatus : Status → Type 0
FailedStatus status = (status ≡ NoMemory) ⊎ ((status ≡ ReadFault) ⊎ (status ≡ WriteFault))

-- no fault of the source, and none of the sink, came
pub record NoFaults (reads : SourceCall) (writes : Writing) : Type 0 where
  pub source : ¬ Rose reads.faults reads.counted
  pub sink : ¬ Rose writes.faults writes.counted

-- The walk of an image and a budget decide the status: at its end exactly where no load or store of the
-- walk is out of bounds and it has at most so many instances; else at the fault where it has at most so
-- many, and at the budget where no load or store is out of bounds.
pub record EndsBy (image : Image) (world : World) (budget : ℕ) (status : Status) : Type 0 where
  pub done : (status ≡ Done) ↔ (NoFault image world × CostAtMost image world budget)
  pub fault : (t : ℕ) → FaultsAt image world t → CostAtMost image world budget → status ≡ Fault
  pub spent : NoFault image world → (CostAtMost image world budget → ⊥) → status ≡ Budget

-- the causes of a status of a call on these words
pub record CallCaused (words : List (List ℕ)) (reads : SourceCall) (writes : Writing) (status : Status)
    : Type 0 where
  -- the usage line comes exactly where the words are no line
  pub usage : IsNoLine words → ¬ Rose writes.faults writes.counted → OrNoMemory status Usage
  pub no_line : status ≡ Usage → IsNoLine words
  -- a fault comes only where its count rose
  pub read_fault : status ≡ ReadFault → Rose reads.faults reads.counted
  pub write_fault : status ≡ WriteFault → Rose writes.faults writes.counted
  -- a text that is no assembly is refused
  pub refused : (options : Options) (text : List ℕ) → AsksForRun words options → reads.left ≡ Some text
      → (length text ≤ assembly_limit → (image : Image) (input : List ℕ) → IsAssembly text image input → ⊥)
      → NoFaults reads writes → OrNoMemory status Refused
  -- and one that is an assembly is run
  pub ends : (options : Options) (text : List ℕ) (image : Image) (input : List ℕ) → AsksForRun words options
      → reads.left ≡ Some text → length text ≤ assembly_limit → IsAssembly text image input
      → EndsBy image (world_of input) options.budget status ⊎ FailedStatus status
