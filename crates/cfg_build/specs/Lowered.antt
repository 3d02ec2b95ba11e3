-- The graph of a program: the blocks of its steps, in the order of the text.
use Rattle.std.specs.Prelude.{ℕ, suc, ◌+◌, List, [], ◌∷◌, ◌++◌, Option, Some, None}
use Rattle.seq_run.specs.Resolved as resolved
use Rattle.seq_run.specs.Resolved.{Action, Assign, Store, Print, Read, Give, Take, Do, Call, If, While}
use Rattle.seq_run.specs.Resolved.{Steps, Nothing, Then, Proc}
use Rattle.cfg_core.specs.Graph as graph
use Rattle.cfg_core.specs.Graph.{Op, Tick, Exit, Goto, Branch, Return, Block, GraphProc, GraphArray, Graph}

-- what an action does, all but its turn
abbrev pub op : Action → Op
op (Assign x t) = graph.Assign x t
op (Store a t u) = graph.Store a t u
op (Print t) = graph.Print t
op (Read x) = graph.Read x
op (Give p x) = graph.Give p x
op (Take p t) = graph.Take p t

-- what is left of a block: a place in the graph
pub record BlockRest : Type 0 where
  pub ops : List Op
  pub exit : Exit

-- an operation after a turn, then what is left
abbrev pub ticked : Op → BlockRest → BlockRest
ticked o p = record { ops = Tick 1 ∷ o ∷ p.ops; exit = p.exit }

-- an exit after a turn
abbrev pub leaves : Exit → BlockRest
leaves exit = record { ops = Tick 1 ∷ []; exit = exit }

-- an exit to a block, without a turn
abbrev pub goes_to : ℕ → BlockRest
goes_to b = record { ops = []; exit = Goto b }

-- the last part of a procedure: without a `return` the result is 0
abbrev pub last_part : Option graph.Term → BlockRest
last_part None = record { ops = []; exit = Return (graph.Number 0) }
last_part (Some t) = leaves (Return t)

-- How many blocks begin inside steps: a call's return block; of an `if` each arm's first block and
-- the join; of a `while` its header, the first block of its body, and the one after it.
abbrev pub begun : Steps → ℕ
begun Nothing = 0
begun (Then (Do a) rest) = begun rest
begun (Then (Call x f ts) rest) = suc (begun rest)
begun (Then (If t a b) rest) = suc (begun a + suc (begun b + suc (begun rest)))
begun (Then (While t body) rest) = suc (suc (begun body + suc (begun rest)))

-- a block that begins with this part
abbrev pub block : BlockRest → Block
block p = record { named = []; ops = p.ops; exit = p.exit }

-- the part with which steps begin in the current block, and the blocks after that one
pub record Made : Type 0 where
  pub front : BlockRest
  pub blocks : List Block

-- a turn and an operation first
abbrev pub led_by : Op → Made → Made
led_by o m = record { front = ticked o m.front; blocks = m.blocks }

-- the block that begins with the first part, and those after it
abbrev pub whole : Made → List Block
whole m = block m.front ∷ m.blocks

-- Steps that begin in the block with this number, where `rest` follows them. Of an `if`, the blocks
-- of its first arm come before those of its second, and the join after both; of a `while`, its
-- header comes first, then the blocks of its body, then the block after it.
abbrev pub made : Steps → ℕ → BlockRest → Made
made Nothing c rest = record { front = rest; blocks = [] }
made (Then (Do a) more) c rest = led_by (op a) (made more c rest)
made (Then (Call x f ts) more) c rest =
    record { front = leaves (graph.Call x f ts (suc c)); blocks = whole (made more (suc c) rest) }
made (Then (If t a b) more) c rest =
    let second = suc (suc c + begun a) in let join = suc (second + begun b) in
    let first_arm = whole (made a (suc c) (goes_to join)) in
    let second_arm = whole (made b second (goes_to join)) in
    let joined = whole (made more join rest) in
    let blocks = first_arm ++ (second_arm ++ joined) in
    record { front = leaves (Branch t (suc c) second); blocks = blocks }
made (Then (While t body) more) c rest =
    let inside = suc (suc c) in let after = suc (inside + begun body) in
    let header = block (leaves (Branch t inside after)) in
    let inner = whole (made body inside (goes_to (suc c))) in
    record { front = goes_to (suc c); blocks = header ∷ (inner ++ whole (made more after rest)) }

-- the blocks of a procedure, the first of which has this number
abbrev pub proc_blocks : Proc → ℕ → List Block
proc_blocks p c = whole (made p.body c (last_part p.result))

-- a procedure, the first of whose blocks has this number
abbrev pub proc : Proc → ℕ → GraphProc
proc p c = record { params = p.params; vars = p.params + p.locals; blocks = proc_blocks p c }

-- procedures, the first of which begins at this block
abbrev pub procs : List Proc → ℕ → List GraphProc
procs [] c = []
procs (p ∷ ps) c = proc p c ∷ procs ps (suc (c + begun p.body))

-- arrays by their names and lengths
abbrev pub arrays : List (List ℕ) → List ℕ → List GraphArray
arrays [] lengths = []
arrays (name ∷ names) [] = []
arrays (name ∷ names) (n ∷ lengths) = record { name = Some name; length = n } ∷ arrays names lengths

-- the graph of a program with numbers for names
abbrev pub lowered : resolved.ResolvedProgram → Graph
lowered program =
    record { arrays = arrays program.names program.lengths; procs = procs program.procs 0 }
