-- How a call of the program ends.
use Rattle.std.specs.Prelude.{ℕ, ◌≡◌, List, codes}
use Rattle.ws_io.specs.Streams.{Adds, Flushes}
use Rattle.ws_isa.specs.Image.{Image}
use Rattle.df_core.specs.declared.drive.Finish.{Finish}
use Rattle.df_core.specs.declared.drive.Finish.TheVariants as finish
use Rattle.asm_read.specs.declared.assembly.AsmRefusal.{AsmRefusal}
use Rattle.asm_read.specs.declared.source.Unread.TheVariants as unread
use Rattle.asm_read.specs.Texts.{unread_text, long_text, asm_refusal_text}
use Rattle.asm_read.specs.Reads.{SourceCall, GivesAssembly, IsUnread, world_of}
use Rattle.stream_run.specs.declared.options.Options.{Options}
use Rattle.stream_run.specs.declared.drive.Stop.TheVariants as stop
use Rattle.run_text.specs.Writes.{Writing}
use Rattle.stream_run.specs.Ends.{WritesWhole, WritesFront, WritesPart}
use Rattle.stream_top.specs.declared.status.Status.{Status}
use Rattle.stream_top.specs.declared.status.Status.TheVariants.{Done, Usage, Refused, Budget, ReadFault}
use Rattle.stream_top.specs.declared.status.Status.TheVariants.{WriteFault, NoMemory, Fault}
use Rattle.stream_top.specs.Lines.{AsksForRun}

abbrev pub usage_text : List ℕ
usage_text = codes "usage: wss [--budget N] [--memory] [--stats]\n"

-- these words are no line
abbrev pub IsNoLine : List (List ℕ) → Type 0
IsNoLine words = (options : Options) → AsksForRun words options → ⊥

-- What a source gives is no assembly that can be run, and this is answered to it, as `exec` answers.
pub data IsRefused (reads : SourceCall) : Status → List ℕ → Type 0 where
  failed : IsUnread reads unread.Failed → IsRefused reads ReadFault unread_text
  long : IsUnread reads unread.TooLong → IsRefused reads Refused long_text
  faulty : (why : AsmRefusal) → IsUnread reads (unread.Refused why)
      → IsRefused reads Refused (asm_refusal_text why)

-- the status by how a run ended
abbrev pub status_of : Finish → Status
status_of finish.Rest = Done
status_of finish.Budget = Budget
status_of (finish.Fault array) = Fault

-- a text went out, and was flushed
abbrev pub WritesText : List ℕ → Writing → Type 0
WritesText text writes = Adds writes.held text writes.holds
    × Flushes writes.holds writes.flushed writes.covered

-- what is answered without a run to words and to what a source gives: the usage line, for which nothing is
-- read, or as `IsRefused` says
pub data IsAnswer (words : List (List ℕ)) (reads : SourceCall) : Status → List ℕ → Type 0 where
  usage : IsNoLine words → reads.after ≡ reads.left → IsAnswer words reads Usage usage_text
  refused : {status : Status} {text : List ℕ} (options : Options) → AsksForRun words options
      → IsRefused reads status text → IsAnswer words reads status text

-- the words ask for a run so, and this image is to be run on these words
pub record IsDue (words : List (List ℕ)) (reads : SourceCall) (options : Options) (image : Image)
    (input : List ℕ) : Type 0 where
  pub line : AsksForRun words options
  pub read : GivesAssembly reads image input

-- What comes of a call on these words, of which the source and the sink report this.
pub data CallEnds (words : List (List ℕ)) (reads : SourceCall) (writes : Writing) : Status → Type 0 where
  -- the answer went out, and nothing is run
  answered : {status : Status} (text : List ℕ) → IsAnswer words reads status text
      → WritesText text writes → CallEnds words reads writes status
  -- the image was run, and what went out is all that is reported of its run
  ran : (options : Options) (image : Image) (input : List ℕ) (how : Finish)
      → IsDue words reads options image input → WritesWhole options image (world_of input) writes how
      → CallEnds words reads writes (status_of how)
  -- a write failed: a prefix of the answer went out, or of what is reported of the run
  unwritten : (status : Status) (text : List ℕ) → IsAnswer words reads status text
      → WritesFront text writes → CallEnds words reads writes WriteFault
  cut : (options : Options) (image : Image) (input : List ℕ) → IsDue words reads options image input
      → WritesPart options image (world_of input) writes stop.Unwritten
      → CallEnds words reads writes WriteFault
  -- memory ran out: before a run, and nothing went out; or in it, and a line for each word that it had
  -- printed went out
  starved : writes.holds ≡ writes.held → writes.covered ≡ writes.flushed
      → CallEnds words reads writes NoMemory
  stopped : (options : Options) (image : Image) (input : List ℕ) → IsDue words reads options image input
      → WritesPart options image (world_of input) writes stop.NoMemory
      → CallEnds words reads writes NoMemory
