-- What the statuses of `trace` and `replay` say.
use Rattle.std.proofs.Common.{◌≡◌, ℕ, ◌+◌, ◌-◌, ◌==◌, Bool, true, false, List, [], length, take, Option, refl}
use Rattle.std.proofs.Common.{sym, ap, ◌∙◌, inl, arith}
use Rattle.std.proofs.lemmas.Bool.{true≢false}
use Rattle.ws_words.specs.Outside.{World}
use Rattle.ws_isa.specs.Image.{Image}
use Rattle.df_core.specs.Core.{State, Run, core_opening}
use Rattle.df_core.specs.declared.engine.Event.{Event}
use Rattle.trace_check.specs.declared.events.Lined.{Lined}
use Rattle.trace_check.specs.declared.recording.TraceEnd.{TraceEnd}
use Rattle.trace_check.specs.declared.recording.TraceEnd.TheVariants as end
use Rattle.trace_check.specs.Recorded.{Traces}
use Rattle.trace_check.specs.Replays.{StopsAt, events_of}
use Rattle.trace_check.specs.Traces.{events_in}
use Rattle.wsc_top.specs.declared.status.Status.{Status}
use Rattle.asm_read.specs.Reads.{world_of}
use Rattle.asm_read.specs.Sections.{after_line, trace_section, trace_of, trace_line, last_line}
use Rattle.wsc_top.specs.Executions.{EndsRun}
use Rattle.wsc_top.specs.Traced as traces
use Rattle.wsc_top.specs.Traced.{illegal, made, IsReplayed, missing, faulty, trace_status, HasTrace}
use Rattle.wsc_top.specs.Traced.{CanReplay, EndsReplay}
use Rattle.asm_read.proofs.Inputs.{empty_is}
use Rattle.df_core.proofs.Telling.Saying.{no_fault_at}

module _ (image : Image) (world : World) (budget : ℕ) (events : List Event) where
  pub ends_run : (how : TraceEnd) → Traces image world budget events how
      → EndsRun image world budget (trace_status how)
  ends_run end.Rest t = grind (arith, no_fault_at)
  ends_run end.Budget t = record {
    done = λ h. inl (ap trace_status (t.rests.1 h));
    only = λ e. absurd cc;
    fault = λ h. inl (ap trace_status (t.faults h.0.0 h.0.1 h.1));
    budget = λ h. inl refl;
  }
  ends_run end.Fault t = grind (arith, no_fault_at)

-- a text has one trace at most
pub one_trace : (text : List ℕ) (a b : List Lined) → HasTrace text a → HasTrace text b → a ≡ b
one_trace text a b h k = grind arith

module _ (text : List ℕ) (image : Image) (input : List ℕ)
    (whole : (trace : List Lined) (state : State) (line : ℕ) → Run image (core_opening image (world_of input))
    (events_of trace) state →
    StopsAt image (core_opening image (world_of input)) trace line → ⊥) where
  stops : (trace : List Lined) (line : ℕ) → HasTrace text trace
      → StopsAt image (core_opening image (world_of input)) trace line → CanReplay text image input → ⊥
  stops trace line h s r = whole r.trace r.state line r.run (grind (arith, one_trace))

  pub ends_replay : (status : Status) (out : List ℕ) (again : Option Image)
      → IsReplayed text image input status out again → EndsReplay text image input status
  ends_replay status out again (missing e) = grind arith
  ends_replay status out again (faulty kind line n e) = grind arith
  ends_replay status out again (traces.IsReplayed.read trace h (illegal line s)) = record {
    done = λ r. absurd (stops trace line h s r);
    only = λ f. absurd cc;
    refused = λ m. refl;
  }
  ends_replay status out again (traces.IsReplayed.read trace h (made r p)) = grind arith

-- the trace section of a text, of which it was told whether it is empty

module _ (text section : List ℕ) (empty : Bool) (is : section ≡ trace_section text) where
  pub nothing_there : empty ≡ (length section == 0) → empty ≡ true → trace_section text ≡ []
  nothing_there e is_so = sym is ∙ empty_is section empty e is_so

  pub something_there : empty ≡ (length section == 0) → empty ≡ false → trace_section text ≡ [] → ⊥
  something_there e not_so none = grind (arith, true≢false)

-- its events, from what was cut of the text
pub section_events : (text front section behind : List ℕ) (line : ℕ)
    → front ≡ take (length text - length section) text → section ≡ trace_section text
    → behind ≡ after_line section → line ≡ last_line front
    → events_in (line + 1) behind ≡ events_in (trace_line text) (trace_of text)
section_events text front section behind line f s b l = grind arith
