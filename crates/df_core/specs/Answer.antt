-- What a run answers, in the words of the walk alone.
use Rattle.std.specs.Prelude.{ℕ, ◌≡◌, ◌<◌, ◌≤◌, ◌↔◌, Some, Bool, true, false, List, [], ◌∷◌, length}
use Rattle.ws_words.specs.Outside.{Outside, World, printed_words}
use Rattle.ws_words.specs.Plain.{took_by_ports}
use Rattle.ws_isa.specs.Image.{Image, is_memory, array_at}
use Rattle.ws_isa.specs.Walk.{Inst, fires, mem, walk, CostAtMost}
use Rattle.ws_isa.specs.Operations.{ops, FaultsAt, NoFault}
use Rattle.df_core.specs.Core.{State, Once}
use Rattle.df_core.specs.Fit.{Fit, Grounded}
use Rattle.df_core.specs.Ends.{FirstWithin, AfterFired}
use Rattle.df_core.specs.declared.answer.Done.{Done}
use Rattle.df_core.specs.declared.answer.RunAnswer.{RunAnswer}
use Rattle.df_core.specs.declared.answer.RunAnswer.TheVariants.{Rest, Budget, Fault}
use Rattle.ws_words.specs.Items.{In}

-- the words printed, all cells and the words that ports took are those of what is outside
pub record Tells (o : Outside) (d : Done) : Type 0 where
  pub printed : d.printed ≡ printed_words o.acts
  pub arrays : d.arrays ≡ o.cells
  pub took : d.took ≡ took_by_ports o.acts

-- no load or store of the walk is out of bounds; the cost has fired, and is within the budget; what
-- is reported is what the walk leaves, wherever all its instances have fired
pub record Rested (image : Image) (world : World) (budget : ℕ) (d : Done) : Type 0 where
  pub no_fault : NoFault image world
  pub steps : ℕ
  pub fired : d.fired ≡ length (walk image world steps)
  pub cost : CostAtMost image world d.fired
  pub within : d.fired ≤ budget
  pub left : (t : ℕ) → d.fired ≤ length (walk image world t) → Tells (mem image world t) d

-- steps of the walk, each of which fires an instance, none twice
abbrev pub FiringSteps : Image → World → List ℕ → Type 0
FiringSteps image world [] = Unit {0}
FiringSteps image world (t ∷ ts) = ((x : Inst) × (fires image world t ≡ Some x)) × (In t ts → ⊥)
    × FiringSteps image world ts

-- the walk's first p operations have all fired at these steps
abbrev pub FirstAmong : Image → World → List ℕ → ℕ → Type 0
FirstAmong image world steps p = (t : ℕ) (x : Inst) → fires image world t ≡ Some x →
    is_memory image x.instr ≡ true → length (ops image world t) < p → In t steps

-- The walk has more instances than the budget, and exactly so many have fired, in a state that the core's
-- events keep: of the numbers p for which the walk's first p operations are among them `passed` is the
-- largest, and none of those is out of bounds. What is reported is what the walk leaves with them.
pub record CutShort (image : Image) (world : World) (budget : ℕ) (d : Done) : Type 0 where
  pub dear : CostAtMost image world budget → ⊥
  pub fired : d.fired ≡ budget
  pub state : State
  pub fit : Fit image world state
  pub grounded : Grounded image world state
  pub once : Once state.fired
  pub count : length state.fired ≡ budget
  pub passed : ℕ
  pub after : AfterFired image world state passed
  pub front : ℕ
  pub front_has : length (ops image world front) ≡ passed
  pub within : FirstWithin image world front
  pub left : Tells (mem image world front) d

-- the walk's first out-of-bounds load or store, on this array, is its operation p, counted from 0,
-- with p less than what has fired; what is reported is what the walk leaves before it
pub record Faulted (image : Image) (world : World) (budget array : ℕ) (d : Done) : Type 0 where
  pub time : ℕ
  pub fault : FaultsAt image world time
  pub array_is : array ≡ array_at image fault.inst.instr
  pub place : length (ops image world time) < d.fired
  pub within : d.fired ≤ budget
  pub left : Tells (mem image world time) d

abbrev pub ToldSo : Image → World → ℕ → RunAnswer → Type 0
ToldSo image world budget (Rest d) = Rested image world budget d
ToldSo image world budget (Budget d) = CutShort image world budget d
ToldSo image world budget (Fault array d) = Faulted image world budget array d

abbrev pub is_rest : RunAnswer → Bool
is_rest (Rest d) = true
is_rest _ = false

abbrev pub is_fault : RunAnswer → Bool
is_fault (Fault array d) = true
is_fault _ = false

-- a run rests exactly where the walk has no fault and costs at most the budget, and always ends at
-- the fault where there is one and the cost fits
pub record RunSo (image : Image) (world : World) (budget : ℕ) (run : RunAnswer) : Type 0 where
  pub told : ToldSo image world budget run
  pub rests : (is_rest run ≡ true) ↔ (NoFault image world × CostAtMost image world budget)
  pub faults : (t : ℕ) → FaultsAt image world t → CostAtMost image world budget →
      is_fault run ≡ true
