-- What comes of making the events of a trace, one after the other.
use Rattle.std.specs.Prelude.{ℕ, ◌≡◌, ◌≤◌, ◌↔◌, ◌⊎◌, true, List, ◌∷◌, ◌++◌, length, map}
use Rattle.ws_words.specs.Outside.{World, printed_words}
use Rattle.ws_isa.specs.Image.{Image}
use Rattle.ws_isa.specs.Walk.{mem, walk, CostAtMost}
use Rattle.ws_isa.specs.Operations.{FaultsAt, NoFault}
use Rattle.df_core.specs.Core.{State, Event, Run, Enabled, Rest, core_opening}
use Rattle.df_core.specs.Fit.{chain_at}
use Rattle.df_core.specs.declared.engine.Core.{Core}
use Rattle.df_core.specs.Cores.{IsAt, NotEnabled, event_of}
use Rattle.trace_check.specs.declared.events.Lined.{Lined}
use Rattle.trace_check.specs.declared.replaying.Replayed.{Replayed}
use Rattle.trace_check.specs.declared.replaying.ReplayFault.{ReplayFault}
use Rattle.trace_check.specs.declared.replaying.ReplayFault.TheVariants.{Illegal, NoMemory}

-- the events of a trace, as the law of the core has them
abbrev pub event_in : Lined → Event
event_in l = event_of l.event

abbrev pub events_of : List Lined → List Event
events_of trace = map event_in trace

-- at the end of the walk nothing of it is left: it has as many instances as have fired, and the
-- words that it prints have been printed
pub record PrintsAll (image : Image) (world : World) (r : Replayed) : Type 0 where
  pub no_fault : NoFault image world
  pub cost : CostAtMost image world r.fired
  pub end : ℕ
  pub fired : (t : ℕ) → end ≤ t → length (walk image world t) ≡ r.fired
  pub printed : (t : ℕ) → end ≤ t → printed_words (mem image world t).acts ≡ r.printed

-- the words that the walk prints before its first out-of-bounds load or store have been printed
pub record PrintsToFault (image : Image) (world : World) (r : Replayed) : Type 0 where
  pub time : ℕ
  pub fault : FaultsAt image world time
  pub printed : printed_words (mem image world time).acts ≡ r.printed

-- Each event of the trace is enabled after those before it, and after all of them the core is at
-- this state, of which this is reported. The words are those of the walk's first steps: those whose
-- operations the chain has passed.
pub record Replays (image : Image) (world : World) (trace : List Lined) (r : Replayed) : Type 0
  where
    pub state : State
    pub run : Run image (core_opening image world) (events_of trace) state
    pub fired : length state.fired ≡ r.fired
    pub printed : printed_words state.memory.acts ≡ r.printed
    pub rest : (r.rest ≡ true) ↔ Rest image state
    pub step : ℕ
    pub passed : state.chain ≡ chain_at image world step
    pub words : printed_words (mem image world step).acts ≡ r.printed
    pub ends : r.rest ≡ true → PrintsAll image world r ⊎ PrintsToFault image world r

-- from this state on, the event of this line is the first that isn't enabled after those before it
pub record StopsAt (image : Image) (from : State) (trace : List Lined) (line : ℕ) : Type 0 where
  pub before : List Lined
  pub event : Lined
  pub behind : List Lined
  pub whole : trace ≡ before ++ event ∷ behind
  pub line_is : event.line ≡ line
  pub state : State
  pub run : Run image from (events_of before) state
  pub refused : Enabled image state (event_in event) → ⊥

-- why a trace isn't replayed: memory, or an event that isn't enabled after those before it
abbrev pub IsReplayFault : Image → World → List Lined → ReplayFault → Type 0
IsReplayFault image world trace NoMemory = Unit {0}
IsReplayFault image world trace (Illegal line) =
    StopsAt image (core_opening image world) trace line

-- The same for a core in the middle of a run.

-- the events lead from each state at which the core stood to one at which it stands
abbrev pub MakesAll : List Lined → Core → Core → Type 0
MakesAll trace old new = (image : Image) (world : World) (s : State) → IsAt image world old s →
    (t : State) × Run image s (events_of trace) t × IsAt image world new t

-- why an event isn't made
abbrev pub IsEventFault : Lined → Core → ReplayFault → Type 0
IsEventFault l core NoMemory = Unit {0}
IsEventFault l core (Illegal line) = (l.line ≡ line) × NotEnabled (event_in l) core

abbrev pub IsMakingFault : List Lined → Core → ReplayFault → Type 0
IsMakingFault trace core NoMemory = Unit {0}
IsMakingFault trace core (Illegal line) = (image : Image) (world : World) (s : State) →
    IsAt image world core s → StopsAt image s trace line
