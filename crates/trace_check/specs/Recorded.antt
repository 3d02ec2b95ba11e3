-- The events that a core made, and how they end.
use Rattle.std.specs.Prelude.{ℕ, ◌≡◌, ◌≤◌, ◌↔◌, ◌⊎◌, ◌++◌, true, false, List, length, map}
use Rattle.ws_words.specs.Outside.{World}
use Rattle.ws_isa.specs.Image.{Image}
use Rattle.ws_isa.specs.Walk.{CostAtMost}
use Rattle.ws_isa.specs.Operations.{FaultsAt, NoFault}
use Rattle.df_core.specs.Core.{State, Event, Run, Step, Enabled, Rest, core_opening}
use Rattle.df_core.specs.declared.engine.Core.{Core}
use Rattle.df_core.specs.declared.engine.Event.{Event as Made}
use Rattle.df_core.specs.Cores.{IsAt, event_of}
use Rattle.df_core.specs.Quiet.{IsQuiet}
use Rattle.trace_check.specs.declared.recording.TraceEnd.{TraceEnd}
use Rattle.trace_check.specs.declared.recording.TraceEnd.TheVariants as end

-- as many instances have fired as may, some event is enabled, and each that is enabled fires one
pub record OutOfBudget (image : Image) (budget : ℕ) (s : State) : Type 0 where
  pub going : s.stopped ≡ false
  pub count : length s.fired ≡ budget
  pub event : Event
  pub enabled : Enabled image s event
  pub fires : (e : Event) → Enabled image s e → IsQuiet image s e → ⊥

abbrev pub EndIs : Image → ℕ → TraceEnd → State → Type 0
EndIs image budget end.Rest s = Rest image s × (s.stopped ≡ false)
EndIs image budget end.Budget s = OutOfBudget image budget s
EndIs image budget end.Fault s = s.stopped ≡ true

-- Each of these events is enabled after those before it, and they end so. They come to rest exactly
-- where the walk has no out-of-bounds load or store and costs at most the budget; they end at a fault
-- only where there is one, and always where the cost is within the budget too.
pub record Traces (image : Image) (world : World) (budget : ℕ) (events : List Made) (how : TraceEnd)
    : Type 0 where
  pub state : State
  pub run : Run image (core_opening image world) (map event_of events) state
  pub within : length state.fired ≤ budget
  pub ended : EndIs image budget how state
  pub rests : (how ≡ end.Rest) ↔ (NoFault image world × CostAtMost image world budget)
  pub faults : (t : ℕ) → FaultsAt image world t → CostAtMost image world budget → how ≡ end.Fault
  pub only : how ≡ end.Fault → (t : ℕ) × FaultsAt image world t

-- The same for a core in the middle of a run.

-- from each state at which the core stood, with no more fired than may, these events have led to one
-- at which it stands
pub record Led (image : Image) (world : World) (s : State) (budget : ℕ) (events : List Made)
    (core : Core) : Type 0 where
  pub state : State
  pub run : (es : List Event) (u : State) → Run image state es u
      → Run image s (map event_of events ++ es) u
  pub at : IsAt image world core state
  pub within : length state.fired ≤ budget

abbrev pub MakesEvents : ℕ → List Made → Core → Core → Type 0
MakesEvents budget events old new = (image : Image) (world : World) (s : State) → IsAt image world old s →
    length s.fired ≤ budget → Led image world s budget events new

-- no event is to be made
abbrev pub IsDone : ℕ → Core → Type 0
IsDone budget core = (image : Image) (world : World) (s : State) → IsAt image world core s →
    (s.stopped ≡ true) ⊎ Rest image s
    ⊎ ((budget ≤ length s.fired) × ((e : Event) → Enabled image s e → IsQuiet image s e → ⊥))

-- the event may be made
abbrev pub MayComeNext : ℕ → Event → Core → Type 0
MayComeNext budget event core = (image : Image) (world : World) (s : State) → IsAt image world core s →
    Enabled image s event × (length s.fired ≤ budget → (t : State) → Step image s event t →
    length t.fired ≤ budget)
