-- The state for which a run's parts stand.
use Rattle.std.specs.Prelude.{◌≡◌, ◌<◌, ◌≤◌, ◌+◌, ◌*◌, ◌⊎◌, ℕ, cond, List, [], ◌∷◌, ◌++◌, length, map, true}
use Rattle.std.specs.Prelude.{false, slice_index_or, Option, Some, None, is_some, vec_len, vec_capacity}
use Rattle.std.specs.HashMap.{spare}
use Rattle.ws_words.specs.Outside.{World}
use Rattle.ws_isa.specs.Image as plain
use Rattle.ws_isa.specs.Image.{Image, ports, array_at}
use Rattle.ws_isa.specs.Formed.{Formed}
use Rattle.ws_isa.specs.Operations.{FaultsAt}
use Rattle.ws_isa.specs.Sound.{Sound}
use Rattle.df_core.specs.Core.{State, Event, Step, core_opening}
use Rattle.df_core.specs.Stands.{Request, Stands}
use Rattle.df_core.specs.declared.plain.Asked.{Asked}
use Rattle.df_core.specs.declared.plain.Operands.{Operands}
use Rattle.df_core.specs.declared.flow.Flow.{Flow}
use Rattle.df_core.specs.Partial.{partial_of, spilled, listed}
use Rattle.df_core.specs.Chains.{chain_of, may_flag}
use Rattle.df_core.specs.Ways.{way_of}
use Rattle.df_core.specs.Outdoors.{Space, SameOut, MemoryIs}

abbrev pub request_of : Image → Asked → Request
request_of image a =
    record { wave = a.wave; instr = a.instr; operands = listed (ports image a.instr) a.operands }

-- the operands by port, of three ports
abbrev pub all_of : Operands → List ℕ
all_of o = o.first ∷ o.second ∷ o.third ∷ []

-- the walk's first out-of-bounds load or store is on this array
pub record IsFault (image : Image) (world : World) (array : ℕ) : Type 0 where
  pub time : ℕ
  pub fault : FaultsAt image world time
  pub array_is : array ≡ array_at image fault.inst.instr

abbrev pub FlowFaultIs : Image → World → Option ℕ → Type 0
FlowFaultIs image world None = Unit {0}
FlowFaultIs image world (Some array) = IsFault image world array

-- these parts, and the tokens that were taken out of them, stand for the state
pub record FlowIs (image : Image) (world : World) (taken : List plain.Token) (flow : Flow)
    (s : State) : Type 0 where
  pub stands : Stands image world (partial_of flow.slots.slots.items flow.slots.spill)
      (taken ++ way_of flow.way) (map (request_of image) flow.asked.items) flow.early.items s
  pub chain_is : s.chain ≡ chain_of flow.chain
  pub stopped_is : s.stopped ≡ is_some flow.fault
  pub fault_is : FlowFaultIs image world flow.fault
  pub memory_is : MemoryIs s.memory flow.memory
  pub count_is : length s.fired ≡ flow.fired

-- they stand for some state of a formed, sound image
pub record Going (image : Image) (taken : List plain.Token) (flow : Flow) : Type 0 where
  pub world : World
  pub state : State
  pub formed : Formed image
  pub sound : Sound image
  pub holds : FlowIs image world taken flow state

-- they stand for one where other tokens are in flight too, which lie elsewhere
pub record GoingBeside (image : Image) (taken : List plain.Token) (flow : Flow) : Type 0 where
  pub beside : List plain.Token
  pub going : Going image (taken ++ beside) flow

-- an event leads on: for each state for which the parts stood there is one for which they stand,
-- whichever tokens lie elsewhere
abbrev pub EventLeads : Image → Event → List plain.Token → Flow → Flow → Type 0
EventLeads image event taken old new = (beside : List plain.Token) (world : World) (s : State) →
    Formed image → Sound image → FlowIs image world (taken ++ beside) old s →
    (t : State) × Step image s event t × FlowIs image world beside new t

abbrev pub no_asked : Asked
no_asked = record { wave = 0; instr = 0; operands = record { first = 0; second = 0; third = 0 } }

-- the request at a place
abbrev pub asked_at : Flow → ℕ → Asked
asked_at flow k = slice_index_or flow.asked.items k no_asked

-- it may be issued, where the chain isn't stopped
abbrev pub AskedMay : Image → Flow → ℕ → Type 0
AskedMay image flow k =
    may_flag image (chain_of flow.chain)
    (asked_at flow k).wave (asked_at flow k).instr (asked_at flow k).operands.first ≡ true

-- the chain is stopped, or no request of the instance may be issued
abbrev pub NotReady : Image → Flow → ℕ → ℕ → Type 0
NotReady image flow w i = (is_some flow.fault ≡ true) ⊎ ((k : ℕ) → k < length flow.asked.items →
    (asked_at flow k).wave ≡ w → (asked_at flow k).instr ≡ i → AskedMay image flow k → ⊥)

-- no request may
abbrev pub NoneAskedMay : Image → Flow → Type 0
NoneAskedMay image flow = (k : ℕ) → k < length flow.asked.items →
    may_flag image (chain_of flow.chain)
    (asked_at flow k).wave (asked_at flow k).instr (asked_at flow k).operands.first ≡ false

-- so many tokens may be in flight, with some in hand and so many more firings: an instance sends at
-- most 8
abbrev pub flight : Flow → ℕ → ℕ → ℕ
flight flow hand more =
    vec_len flow.way.now + vec_len flow.way.later + hand + 8 * (vec_len flow.asked + more)

-- there is room for some tokens in hand, so many more firings, and all that comes of them
pub record FlowRoom (flow : Flow) (hand more : ℕ) : Type 0 where
  pub now : flight flow hand more ≤ vec_capacity flow.way.now
  pub later : flight flow hand more ≤ vec_capacity flow.way.later
  pub spill : flight flow hand more ≤ spare flow.slots.spill
  pub asked : vec_len flow.asked + more ≤ vec_capacity flow.asked
  pub early : vec_len flow.early + (vec_len flow.asked + more) ≤ vec_capacity flow.early
  pub memory : Space flow.memory (vec_len flow.asked + more)

-- the same requests wait, or one more
abbrev pub AskedMore : Flow → Flow → Type 0
AskedMore old new = (new.asked.items ≡ old.asked.items)
    ⊎ ((a : Asked) × (new.asked.items ≡ old.asked.items ++ a ∷ []))

-- what is left to do before the next firing: a measure
abbrev pub weight : Flow → ℕ
weight flow =
    vec_len flow.way.now + vec_len flow.way.later + 9 * vec_len flow.asked + cond
    (is_some flow.fault) 0 1

-- the same parts, in other places of memory
pub record SameParts (old new : Flow) : Type 0 where
  pub slots : new.slots.slots.items ≡ old.slots.slots.items
  pub spill : (w i p : ℕ) → spilled new.slots.spill w i p ≡ spilled old.slots.spill w i p
  pub now : new.way.now.items ≡ old.way.now.items
  pub later : new.way.later.items ≡ old.way.later.items
  pub asked : new.asked.items ≡ old.asked.items
  pub early : new.early.items ≡ old.early.items
  pub chain : new.chain ≡ old.chain
  pub fault : new.fault ≡ old.fault
  pub memory : SameOut old.memory new.memory
  pub fired : new.fired ≡ old.fired

-- events lead from a state to another
pub data Reaches (image : Image) : State → State → Type 0 where
  stays : {s : State} → Reaches image s s
  steps : {s t u : State} (event : Event) → Step image s event t → Reaches image t u →
      Reaches image s u

-- some events lead on, for each state for which the parts stood
abbrev pub RunsOn : Image → Flow → Flow → Type 0
RunsOn image old new = (world : World) (s : State) → Formed image → Sound image →
    FlowIs image world [] old s → (t : State) × Reaches image s t × FlowIs image world [] new t

-- the parts stand for the opening state
abbrev pub StandsForOpening : Image → World → Flow → Type 0
StandsForOpening image world flow = Sound image → Formed image →
    FlowIs image world [] flow (core_opening image world)
