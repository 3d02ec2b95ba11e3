-- What comes of `trace` and `replay`.
use Rattle.std.specs.Prelude.{◌≡◌, ℕ, List, [], ◌++◌, codes, decimal, flat_map, Option, Some, None, Ok, Err}
use Rattle.std.specs.Prelude.{if◌then◌else◌}
use Rattle.ws_isa.specs.Image.{Image}
use Rattle.df_core.specs.Core.{State, Run, core_opening}
use Rattle.df_core.specs.declared.engine.Event.{Event}
use Rattle.asm_text.specs.declared.fault.AsmKind.{AsmKind}
use Rattle.asm_text.specs.declared.fault.AsmKind.TheVariants.{Line}
use Rattle.asm_text.specs.Printed.{printed}
use Rattle.trace_check.specs.declared.events.Lined.{Lined}
use Rattle.trace_check.specs.declared.recording.TraceEnd.{TraceEnd}
use Rattle.trace_check.specs.declared.recording.TraceEnd.TheVariants as end
use Rattle.trace_check.specs.declared.replaying.Replayed.{Replayed}
use Rattle.trace_check.specs.Recorded.{Traces}
use Rattle.trace_check.specs.Replays.{Replays, StopsAt, events_of}
use Rattle.trace_check.specs.Traces.{AllFit, events_in, events_text}
use Rattle.wsc_top.specs.declared.status.Status.{Status}
use Rattle.wsc_top.specs.declared.status.Status.TheVariants.{Done, Refused, Budget, Fault}
use Rattle.asm_read.specs.declared.assembly.AsmRefusal.TheVariants.{Text}
use Rattle.asm_read.specs.Reads.{world_of}
use Rattle.asm_read.specs.Sections.{trace_section, trace_of, trace_line, last_line}
use Rattle.wsc_top.specs.Texts.{with_input}
use Rattle.run_text.specs.Texts.{word_line, firings_line}
use Rattle.asm_read.specs.Texts.{asm_refusal_text}

-- an image with its input words and events: a text that `replay` takes
abbrev pub traced_text : Image → List ℕ → List Event → List ℕ
traced_text image input events =
    with_input (printed image) input ++ codes "%trace\n" ++ events_text events

-- the status by how the events end
abbrev pub trace_status : TraceEnd → Status
trace_status end.Rest = Done
trace_status end.Budget = Budget
trace_status end.Fault = Fault

-- `trace` prints the image, the input words and some events, each of which is enabled after those
-- before it, to rest, to the stop at a fault, or to the budget; their numbers are within their fields
pub record IsTraced (budget : ℕ) (image : Image) (input : List ℕ) (status : Status) (out : List ℕ)
    : Type 0 where
  pub events : List Event
  pub how : TraceEnd
  pub traces : Traces image (world_of input) budget events how
  pub fit : AllFit events
  pub status_is : status ≡ trace_status how
  pub text_is : out ≡ traced_text image input events

-- the words that a replayed trace printed, whether it came to rest, and its firings
abbrev pub replayed_text : Replayed → List ℕ
replayed_text r =
    flat_map word_line r.printed ++ (if r.rest then codes "rest\n" else codes "open\n")
    ++ firings_line r.fired

-- an event isn't enabled after those of the lines before it
abbrev pub illegal_text : ℕ → List ℕ
illegal_text line = codes "refused " ++ decimal line ++ codes " illegal\n"

-- What comes of making the events of a trace.
pub data IsMade (image : Image) (input : List ℕ) (trace : List Lined) : Status → List ℕ → Type 0
  where
    illegal : (line : ℕ) → StopsAt image (core_opening image (world_of input)) trace line
        → IsMade image input trace Refused (illegal_text line)
    made : (r : Replayed) → Replays image (world_of input) trace r
        → IsMade image input trace Done (replayed_text r)

-- the events of a text's trace section
pub record HasTrace (text : List ℕ) (trace : List Lined) : Type 0 where
  pub there : trace_section text ≡ [] → ⊥
  pub events : events_in (trace_line text) (trace_of text) ≡ Ok trace

-- `replay` refuses a text that has no trace section at its end, and otherwise at the first line of
-- that section that spells no event; else it makes the events, and hands the image back.
pub data IsReplayed (text : List ℕ) (image : Image) (input : List ℕ)
    : Status → List ℕ → Option Image → Type 0 where
  missing : trace_section text ≡ []
      → IsReplayed text image input Refused (asm_refusal_text (Text Line (last_line text))) None
  faulty : (kind : AsmKind) (line : ℕ) → (trace_section text ≡ [] → ⊥)
      → events_in (trace_line text) (trace_of text) ≡ Err (kind, line)
      → IsReplayed text image input Refused (asm_refusal_text (Text kind line)) None
  read : {status : Status} {out : List ℕ} (trace : List Lined) → HasTrace text trace
      → IsMade image input trace status out → IsReplayed text image input status out (Some image)

-- the text has a trace, each event of which is enabled after those before it
pub record CanReplay (text : List ℕ) (image : Image) (input : List ℕ) : Type 0 where
  pub trace : List Lined
  pub has : HasTrace text trace
  pub state : State
  pub run : Run image (core_opening image (world_of input)) (events_of trace) state

-- so Done comes exactly then, and Refused otherwise
pub record EndsReplay (text : List ℕ) (image : Image) (input : List ℕ) (status : Status)
    : Type 0 where
  pub done : CanReplay text image input → status ≡ Done
  pub only : status ≡ Done → CanReplay text image input
  pub refused : (CanReplay text image input → ⊥) → status ≡ Refused
