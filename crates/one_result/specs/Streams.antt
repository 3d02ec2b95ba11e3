-- One text, one result, also by the program `wss`, whose runs have any length.
--
-- `wsc` keeps what has fired, and so its runs are at most so long as its budgets allow; `wss` keeps what is
-- live, and its budget may be any word. `CallEnds` is here what the function `wss` ensures of each of its
-- calls: src/calls.rt proves that each call whose source and sink report their bytes is one of those that
-- `StreamCalled` speaks of. It has no ports.
use Rattle.std.specs.Prelude.{◌≡◌, ◌⊎◌, ℕ, suc, ◌*◌, ◌≤◌, Bool, true, false, List, [], ◌++◌, codes, length}
use Rattle.std.specs.Prelude.{Some}
use Rattle.ws_words.specs.Outside.{Outside}
use Rattle.ws_io.specs.Streams.{Rose}
use Rattle.src_ast.specs.Bound.{bound}
use Rattle.src_ast.specs.Runs.{Runs}
use Rattle.src_ast.specs.Syntax.{Part}
use Rattle.ws_isa.specs.Image.{Image}
use Rattle.ws_isa.specs.Operations.{NoFault}
use Rattle.ws_isa.specs.Walk.{CostAtMost}
use Rattle.wsc_top.specs.declared.status.Status.{Status}
use Rattle.wsc_top.specs.declared.status.Status.TheVariants as by_wsc
use Rattle.job_read.specs.Job.{IsJob}
use Rattle.asm_read.specs.Reads.{SourceCall, world_of}
use Rattle.asm_read.specs.Assembly.{IsAssembly, assembly_limit}
use Rattle.run_text.specs.Writes.{Writing}
use Rattle.stream_run.specs.declared.options.Options.{Options}
use Rattle.stream_top.specs.declared.status.Status.{Status as StreamStatus}
use Rattle.stream_top.specs.declared.status.Status.TheVariants as by_wss
use Rattle.stream_top.specs.Lines.{AsksForRun}
use Rattle.stream_top.specs.Calls.{CallEnds}
use Rattle.one_result.specs.OneResult.{is_among, HasFlags, HasWritten, IsCodeOf, AssemblyHasRun, JobHasRun}
use Rattle.one_result.specs.OneResult.{IsResult, IsFront, input_section}
use Rattle.one_result.specs.Others.{crew_commands}
use Rattle.one_result.specs.Sequential.{TellsSequential}
use Rattle.one_result.specs.Ends.{HasFailed}

-- the status of `wsc` that means the same, and has the same number
abbrev pub as_status : StreamStatus → Status
as_status by_wss.Done = by_wsc.Done
as_status by_wss.Usage = by_wsc.Usage
as_status by_wss.Refused = by_wsc.Refused
as_status by_wss.Budget = by_wsc.Budget
as_status by_wss.ReadFault = by_wsc.ReadFault
as_status by_wss.WriteFault = by_wsc.WriteFault
as_status by_wss.NoMemory = by_wsc.NoMemory
as_status by_wss.Fault = by_wsc.Fault

-- A call of `wss` with these words has read this text and has ended with this status; this is what it has
-- written.
pub record StreamCalled (words : List (List ℕ)) (text : List ℕ) (status : Status) (out : List ℕ)
    : Type 0 where
  pub reads : SourceCall
  pub writes : Writing
  pub own : StreamStatus
  pub ends : CallEnds words reads writes own
  pub means : as_status own ≡ status
  pub given : reads.left ≡ Some text
  pub before : writes.held ≡ Some []
  pub after : writes.holds ≡ Some out

-- The same of some words among which `--memory` is, or isn't, and `--stats`.
pub record StreamHasRun (memory stats : Bool) (text : List ℕ) (status : Status) (out : List ℕ)
    : Type 0 where
  pub words : List (List ℕ)
  pub arrays : is_among (codes "--memory") words ≡ memory
  pub counts : is_among (codes "--stats") words ≡ stats
  pub called : StreamCalled words text status out

-- All runs of an assembly that reached a result, by `wss` or by `exec`, `decouple` or `grid`, had the same
-- status and have written the same.
abbrev pub OneStreamResult : Type 0
OneStreamResult = (memory : Bool) (text : List ℕ) (status other : Status) (out again : List ℕ)
    → StreamHasRun memory false text status out → AssemblyHasRun memory text other again
    → IsResult status → IsResult other → (status ≡ other) × (out ≡ again)

-- So it is of two calls of `wss`, also where both have `--stats`.
abbrev pub OneStreamAgain : Type 0
OneStreamAgain = (memory stats : Bool) (text : List ℕ) (status other : Status) (out again : List ℕ)
    → StreamHasRun memory stats text status out → StreamHasRun memory stats text other again
    → IsResult status → IsResult other → (status ≡ other) × (out ≡ again)

-- With `--stats` it reports the firings that `exec` and `decouple` report.
abbrev pub OneStreamCount : Type 0
OneStreamCount = (memory : Bool) (text : List ℕ) (status other : Status) (out again : List ℕ)
    → StreamHasRun memory true text status out
    → HasWritten crew_commands (HasFlags memory true) text other again
    → IsResult status → IsResult other → (status ≡ other) × (out ≡ again)

-- A job has its result by `wss` as well, on what `compile` has written of it.
abbrev pub OneStreamJob : Type 0
OneStreamJob = (memory : Bool) (text code : List ℕ) (status other : Status) (out again : List ℕ)
    → IsCodeOf code text → StreamHasRun memory false (code ++ input_section text) status out
    → JobHasRun memory text other again → IsResult status → IsResult other
    → (status ≡ other) × (out ≡ again)

-- And that is what its sequential run reports, however long it is.
abbrev pub StreamMeaning : Type 0
StreamMeaning = (memory : Bool) (text code : List ℕ) (status : Status) (out : List ℕ)
    → IsCodeOf code text → StreamHasRun memory false (code ++ input_section text) status out
    → IsResult status
    → (parts : List Part) × (input : List ℕ) × IsJob text parts input
    × TellsSequential memory parts input status out

-- If its budget was exhausted, it has written a prefix of the result, and a line.
abbrev pub OneStreamFront : Type 0
OneStreamFront = (memory flag : Bool) (text : List ℕ) (status : Status) (out whole : List ℕ)
    → StreamHasRun memory false text by_wsc.Budget out → AssemblyHasRun flag text status whole
    → IsResult status → IsFront out whole

-- one text begins another
abbrev pub BeginsText : List ℕ → List ℕ → Type 0
BeginsText out whole = (rest : List ℕ) × (whole ≡ out ++ rest)

-- If a write of it failed, and its read didn't, what went out begins the result, or what it would have
-- written at an exhausted budget, which is a prefix of the result, and a line.
abbrev pub OneStreamBrokenOff : Type 0
OneStreamBrokenOff = (words : List (List ℕ)) (options : Options) (text : List ℕ) (status : Status)
    (out whole : List ℕ)
    → (call : StreamCalled words text by_wsc.WriteFault out) → ¬ Rose call.reads.faults call.reads.counted
    → AsksForRun words options → options.stats ≡ false → AssemblyHasRun options.memory text status whole
    → IsResult status
    → (said : List ℕ) × ((said ≡ whole) ⊎ IsFront said whole) × BeginsText out said

-- An assembly whose walk meets no index fault completes by `wss` where the budget is at least what
-- the walk costs.
abbrev pub StreamsEnd : Type 0
StreamsEnd = (text : List ℕ) (image : Image) (input : List ℕ) (firings : ℕ) (words : List (List ℕ))
    (options : Options) (status : Status) (out : List ℕ)
    → IsAssembly text image input → NoFault image (world_of input)
    → CostAtMost image (world_of input) firings → length text ≤ assembly_limit
    → StreamCalled words text status out → AsksForRun words options → firings ≤ options.budget
    → (status ≡ by_wsc.Done) ⊎ HasFailed status

-- So does a job whose sequential run ends after some turns, on what `compile` has written of it, where the
-- budget is the bound of the program for each turn and once more.
abbrev pub StreamCodeEnds : Type 0
StreamCodeEnds = (text code : List ℕ) (parts : List Part) (input : List ℕ) (turns : ℕ) (end : Outside)
    (words : List (List ℕ)) (options : Options) (status : Status) (out : List ℕ)
    → IsJob text parts input → Runs parts (world_of input) turns end → IsCodeOf code text
    → length (code ++ input_section text) ≤ assembly_limit
    → StreamCalled words (code ++ input_section text) status out → AsksForRun words options
    → bound parts * suc turns ≤ options.budget
    → (status ≡ by_wsc.Done) ⊎ HasFailed status
