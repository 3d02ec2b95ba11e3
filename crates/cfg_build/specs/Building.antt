-- The blocks of a procedure as they are made: the finished ones in order, and the operations of the
-- current one. Then what fits into the numbers that the code has.
use Rattle.std.specs.Prelude.{ℕ, suc, ◌+◌, ◌^◌, ◌<◌, List, [], ◌∷◌, ◌++◌, length}
use Rattle.seq_run.specs.Resolved.{Action, Give, Take, Step, Do, Call, If, While, Steps, Nothing, Then, Proc}
use Rattle.cfg_core.specs.Graph as graph
use Rattle.cfg_core.specs.Graph.{Op, Tick, Exit, Goto, Branch, Block}
use Rattle.cfg_build.specs.Lowered.{BlockRest, op, begun}

-- `first` is the number of the first block
pub record Builder : Type 0 where
  pub first : ℕ
  pub done : List Block
  pub ops : List Op

-- the number of the current block
abbrev pub number : Builder → ℕ
number d = d.first + length d.done

-- the current block is finished
abbrev pub closed : Exit → Builder → Builder
closed exit d =
    let block : Block = record { named = []; ops = d.ops; exit = exit } in
    record { first = d.first; done = d.done ++ block ∷ []; ops = [] }

-- an operation more in the current block
abbrev pub with_op : Op → Builder → Builder
with_op o d = record { first = d.first; done = d.done; ops = d.ops ++ o ∷ [] }

-- a step is added, or steps in order
abbrev mutual
  pub emit_one : Step → Builder → Builder
  emit_one (Do a) d = with_op (op a) (with_op (Tick 1) d)
  emit_one (Call x f ts) d = closed (graph.Call x f ts (suc (number d))) (with_op (Tick 1) d)
  emit_one (If t a b) d =
      let c = number d in
      let second = suc (suc c + begun a) in let join = suc (second + begun b) in
      let first_arm = emit a (closed (Branch t (suc c) second) (with_op (Tick 1) d)) in
      closed (Goto join) (emit b (closed (Goto join) first_arm))
  emit_one (While t body) d =
      let c = number d in
      let inside = suc (suc c) in let after = suc (inside + begun body) in
      let header = with_op (Tick 1) (closed (Goto (suc c)) d) in
      closed (Goto (suc c)) (emit body (closed (Branch t inside after) header))

  pub emit : Steps → Builder → Builder
  emit Nothing d = d
  emit (Then s rest) d = emit rest (emit_one s d)

-- the blocks with the current one, where this part follows
abbrev pub ended : Builder → BlockRest → List Block
ended d rest = d.done ++ record { named = []; ops = d.ops ++ rest.ops; exit = rest.exit } ∷ []

-- the length of an array fits into 32 bits
abbrev pub LengthFits : ℕ → Type 0
LengthFits n = n < 2 ^ 32

-- the number of a port fits into a byte
abbrev pub ActionFits : Action → Type 0
ActionFits (Give p x) = p < 2 ^ 8
ActionFits (Take p t) = p < 2 ^ 8
ActionFits _ = Unit {0}

-- so do those of a step and of steps
abbrev mutual
  pub StepFits : Step → Type 0
  StepFits (Do a) = ActionFits a
  StepFits (Call x f ts) = Unit {0}
  StepFits (If t a b) = StepsFit a × StepsFit b
  StepFits (While t body) = StepsFit body

  pub StepsFit : Steps → Type 0
  StepsFit Nothing = Unit {0}
  StepsFit (Then s rest) = StepFits s × StepsFit rest

-- so do those of a procedure, and its count of variables
pub record ProcFits (p : Proc) : Type 0 where
  pub vars : p.params + p.locals < 2 ^ 32
  pub body : StepsFit p.body

-- how many blocks procedures have
abbrev pub blocks_of : List Proc → ℕ
blocks_of [] = 0
blocks_of (p ∷ ps) = suc (begun p.body + blocks_of ps)
