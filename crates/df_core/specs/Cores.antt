-- The states of a core, and how its calls lead from one to another.
use Rattle.std.specs.Prelude.{ℕ, ◌≡◌, ◌+◌, ◌<◌, ◌≤◌, ◌-◌, ◌^◌, Bool, true, false, List, []}
use Rattle.ws_words.specs.Outside.{World, printed_words}
use Rattle.ws_isa.specs.Image.{Image}
use Rattle.ws_isa.specs.Formed.{Formed}
use Rattle.ws_isa.specs.Sound.{Sound}
use Rattle.df_core.specs.Core as law
use Rattle.df_core.specs.Core.{State, Step, Enabled, Rest, Match, Issue}
use Rattle.df_core.specs.declared.answer.Done.{Done}
use Rattle.df_core.specs.declared.engine.Core.{Core}
use Rattle.df_core.specs.declared.engine.Event.{Event}
use Rattle.df_core.specs.declared.engine.Event.TheVariants as code
use Rattle.df_core.specs.declared.engine.StepFault.{StepFault}
use Rattle.df_core.specs.declared.engine.StepFault.TheVariants as fault
use Rattle.df_core.specs.Places.{image_of}
use Rattle.df_core.specs.Flows.{Reaches, FlowIs, FlowRoom}
use Rattle.df_core.specs.Told.{done_of, run_from}
use Rattle.df_core.specs.Answer.{RunSo}
use Rattle.df_core.specs.Ends.{AfterFired}
use Rattle.df_core.specs.declared.drive.Finish.{Finish}
use Rattle.df_core.specs.Finishes.{is_budget}

-- the core stands at this state of a run of an image in a world
pub record IsAt (image : Image) (world : World) (core : Core) (s : State) : Type 0 where
  pub image_is : image_of core.program ≡ image
  pub formed : Formed image
  pub sound : Sound image
  pub holds : FlowIs image world [] core.flow s

-- it stands at some state
pub record IsRunning (core : Core) : Type 0 where
  pub image : Image
  pub world : World
  pub state : State
  pub at : IsAt image world core state

-- what the instances that have fired have done, with those of the printed words that are kept
abbrev pub done : Core → Done
done core = done_of core.flow

-- so many of the first words printed were taken and are kept no more
abbrev pub gone : Core → ℕ
gone core = core.flow.memory.gone

abbrev pub with_words : List ℕ → Done → Done
with_words words d = record { printed = words; arrays = d.arrays; took = d.took; fired = d.fired }

-- what they have done, with all words printed, if the core stands at this state
abbrev pub done_at : State → Core → Done
done_at s core = with_words (printed_words s.memory.acts) (done core)

abbrev pub event_of : Event → law.Event
event_of (code.Match wave instr port) = Match wave instr port
event_of (code.Issue wave instr) = Issue wave instr

abbrev pub is_not_ready : StepFault → Bool
is_not_ready fault.NotReady = true
is_not_ready fault.NoMemory = false

-- the event leads from each state at which the core stood to one at which it stands
abbrev pub Makes : law.Event → Core → Core → Type 0
Makes event old new = (image : Image) (world : World) (s : State) → IsAt image world old s →
    (t : State) × Step image s event t × IsAt image world new t

-- at no state at which the core stands is the event enabled
abbrev pub NotEnabled : law.Event → Core → Type 0
NotEnabled event core = (image : Image) (world : World) (s : State) → IsAt image world core s →
    Enabled image s event → ⊥

-- at each state at which the core stands the event is enabled
abbrev pub IsEnabled : law.Event → Core → Type 0
IsEnabled event core = (image : Image) (world : World) (s : State) → IsAt image world core s →
    Enabled image s event

-- at each state at which the core stands no event is enabled
abbrev pub IsAtRest : Core → Type 0
IsAtRest core = (image : Image) (world : World) (s : State) → IsAt image world core s →
    Rest image s

-- the core stands at the same states
abbrev pub SameStates : Core → Core → Type 0
SameStates old new = (image : Image) (world : World) (s : State) → IsAt image world old s →
    IsAt image world new s

-- some events lead on
abbrev pub EventsLead : Core → Core → Type 0
EventsLead old new = (image : Image) (world : World) (s : State) → IsAt image world old s →
    (t : State) × Reaches image s t × IsAt image world new t

-- from a state at which a core stood a run has led on to its end within a budget
pub record AnswersSo (image : Image) (world : World) (budget : ℕ) (finish : Finish) (core : Core) (s : State)
    : Type 0 where
  pub state : State
  pub reached : Reaches image s state
  pub at : IsAt image world core state
  pub so : RunSo image world budget (run_from finish (done_at state core))

-- there is room for so many more firings, and for all events around them
abbrev pub RoomFor : Core → ℕ → Type 0
RoomFor core n = FlowRoom core.flow 0 n

-- there is room for one more firing, and for the events around it
abbrev pub HasRoom : Core → Type 0
HasRoom core = RoomFor core 1 × ((done core).fired < 2 ^ 64 - 2)

-- of the room each firing took that for one, and nothing else took any
abbrev pub KeepsRoom : Core → Core → Type 0
KeepsRoom old new = (n m : ℕ) → m + (done new).fired ≡ n + (done old).fired → RoomFor old n → RoomFor new m

-- where the budget is exhausted, the most operations of the walk that have all fired have been passed, and
-- memory is what they leave
abbrev pub SpendsAll : Finish → Core → Core → Type 0
SpendsAll finish old new = (image : Image) (world : World) (s : State) → IsAt image world old s →
    (t : State) × IsAt image world new t
    × (is_budget finish ≡ true → (p : ℕ) × AfterFired image world t p)

-- no more than the budget have fired, and there is room for a run until then
pub record Prepared (core : Core) (budget : ℕ) : Type 0 where
  pub fired : (done core).fired ≤ budget
  pub room : RoomFor core (budget - (done core).fired)
