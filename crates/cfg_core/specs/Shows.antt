-- What the code holds of a graph and of its walk.
use Rattle.std.specs.Prelude.{◌≡◌, ℕ, Bool, true, false, List, [], ◌∷◌, if◌then◌else◌}
use Rattle.std.specs.Prelude.{slice_get}
use Rattle.std.specs.Option.{option_to_list}
use Rattle.ws_words.specs.Outside.{ProcState}
use Rattle.ws_words.specs.Memory.{OutIs}
use Rattle.cfg_core.specs.Graph as plain
use Rattle.cfg_core.specs.View as view
use Rattle.cfg_core.specs.Shown.{has_name}
use Rattle.cfg_core.specs.Walk as walks
use Rattle.cfg_core.specs.Walk.{OpsOutcome, Done, Out, Config, At, Over, Going}
use Rattle.cfg_core.specs.declared.blocks.Term.{Term}
use Rattle.cfg_core.specs.declared.table.Spot.{Spot}
use Rattle.cfg_core.specs.declared.walker.Frame.{Frame}
use Rattle.cfg_core.specs.declared.walker.Walker.{Walker}
use Rattle.cfg_core.specs.declared.walker.Pace.{Pace}
use Rattle.cfg_core.specs.declared.walker.Pace.TheVariants as pace
use Rattle.cfg_core.specs.declared.exits.Next.{Next}
use Rattle.cfg_core.specs.declared.exits.Next.TheVariants as next

-- the code's block is this one
pub record SpotIs (plain : plain.Spot) (spot : Spot) : Type 0 where
  pub vars : plain.vars ≡ spot.vars
  pub block : plain.block ≡ view.block spot.block.now

-- the frames of the code, the last first, before others
abbrev pub stacked : List Frame → List walks.Frame → List walks.Frame
stacked [] below = below
stacked (f ∷ frames) below =
    stacked frames (record { result = f.result; back = f.back; vars = f.vars } ∷ below)

-- state, frames and turns left are those that the code holds
pub record Shows (s : ProcState) (frames : List walks.Frame) (k : ℕ) (w : Walker) : Type 0 where
  pub vars : s.vars ≡ w.vars
  pub outside : OutIs s.out w.memory
  pub waiting : frames ≡ stacked w.frames.items []
  pub turns : k ≡ w.turns

-- the code's answer is that of the operations
abbrev pub PaceIs : OpsOutcome → List walks.Frame → Pace → Walker → Type 0
PaceIs (Done s k) frames pace.Done w = Shows s frames k w
PaceIs (Done s k) frames pace.Out w = ⊥
PaceIs (Out o) frames pace.Done w = ⊥
PaceIs (Out o) frames pace.Out w = OutIs o w.memory

-- from each state that the code holds before, it does after what these operations do
abbrev pub Paced : (ProcState → ℕ → OpsOutcome) → Walker → Pace → Walker → Type 0
Paced run before pace after = (s : ProcState) (frames : List walks.Frame) (k : ℕ) →
    Shows s frames k before → PaceIs (run s k) frames pace after

-- the value of a term of the code on these variables and arrays
abbrev pub value_on : List ℕ → List (List ℕ) → Term → ℕ
value_on vars cells t = walks.value (view.term t) vars cells

-- whether operations need a turn that isn't left
abbrev pub out_flag : Pace → Bool
out_flag pace.Done = false
out_flag pace.Out = true

-- the code's answer is that of a block
abbrev pub NextIs : Config → Next → Walker → Type 0
NextIs (At b s frames k) (next.At c) w = (b ≡ c) × Shows s frames k w
NextIs (Over o k) next.Over w = OutIs o w.memory × (k ≡ w.turns)
NextIs (Going o) next.Going w = OutIs o w.memory
NextIs _ _ w = ⊥

-- from each state that the code holds before, it is after where the walk goes
abbrev pub Moved : (ProcState → List walks.Frame → ℕ → Config) → Walker → Next → Walker → Type 0
Moved way before next after = (s : ProcState) (frames : List walks.Frame) (k : ℕ) →
    Shows s frames k before → NextIs (way s frames k) next after

-- from the start of a block
abbrev pub passes : plain.Graph → ℕ → ProcState → List walks.Frame → ℕ → Config
passes g b s frames k = walks.step g (walks.starts b s frames k)

-- back from a call with this result
abbrev pub comes_back : ℕ → ProcState → List walks.Frame → ℕ → Config
comes_back word s frames k = walks.returned word s.out frames k

-- some state that the code holds
pub record Held (w : Walker) : Type 0 where
  pub state : ProcState
  pub frames : List walks.Frame
  pub left : ℕ
  pub shows : Shows state frames left w

-- the code's answer is that of a walk that has one
abbrev pub FinalIs : Config → Bool → Walker → Type 0
FinalIs (Over o k) true w = OutIs o w.memory × (k ≡ w.turns)
FinalIs (Going o) false w = OutIs o w.memory
FinalIs _ _ w = ⊥

-- the code's answer is that of the walk
pub record AnswerIs (g : plain.Graph) (c : Config) (ended : Bool) (w : Walker) : Type 0 where
  pub blocks : ℕ
  pub final : Config
  pub same : walks.walk g blocks c ≡ final
  pub is : FinalIs final ended w

-- from each state that the code holds before, it is after where the walk from this block answers
abbrev pub Walked : plain.Graph → ℕ → Walker → Bool → Walker → Type 0
Walked g start before ended after = (s : ProcState) (frames : List walks.Frame) (k : ℕ) →
    Shows s frames k before → AnswerIs g (walks.starts start s frames k) ended after

-- the cells of an array at a place, if it is shown
abbrev pub shown_at : plain.GraphArray → List (List ℕ) → ℕ → List (List ℕ)
shown_at array cells place = if has_name array then option_to_list (slice_get cells place) else []
