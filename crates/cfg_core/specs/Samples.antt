-- Small graphs, for tests and worked walks.
use Rattle.std.specs.Prelude.{ℕ, List, [], ◌∷◌, Some, None}
use Rattle.ws_words.specs.declared.alu.Alu.TheVariants.{Add, Sub, Mul}
use Rattle.cfg_core.specs.Graph.{Number, Var, Cell, Binary, Op, Assign, Store, Print, Read, Give, Take}
use Rattle.cfg_core.specs.Graph.{Choose, Tick, TickBy, Exit, Goto, Branch, Call, Return, Send, Stop, Block}
use Rattle.cfg_core.specs.Graph.{GraphProc, GraphArray, Graph}

abbrev pub block : List ℕ → List Op → Exit → Block
block named ops exit = record { named = named; ops = ops; exit = exit }

abbrev pub proc : ℕ → ℕ → List Block → GraphProc
proc params vars blocks = record { params = params; vars = vars; blocks = blocks }

abbrev pub graph : List GraphArray → List GraphProc → Graph
graph arrays procs = record { arrays = arrays; procs = procs }

-- gives a word from port 1 to port 2, and prints it
abbrev pub straight : Graph
straight = graph [] (
    proc 0 1 (
    block [] (Give 1 0 ∷ Tick 1 ∷ Take 2 (Var 0) ∷ Print (Var 0) ∷ []) Stop ∷ []) ∷ []
    )

-- reads a word x; array 1 is hidden, array 2 has the name "a"
abbrev pub branches : Graph
branches = graph (
    record { name = None; length = 2 } ∷ record { name = Some (97 ∷ []); length = 1 } ∷ []
    ) (
    proc 0 2 (
    block [] (Read 0 ∷ Store 1 (Number 1) (Var 0) ∷ Choose 1 (Var 0) (Number 5) (Number 6)
    ∷ TickBy (Var 0) 2 3 ∷ []) (Branch (Var 0) 1 2)
    ∷ block [] (Print (Var 1) ∷ Store 2 (Number 0) (Cell 1 (Number 1)) ∷ []) Stop
    ∷ block [] (Print (Number 9) ∷ []) Stop ∷ []) ∷ []
    )

-- counts down from 3
abbrev pub counts : Graph
counts = graph [] (
    proc 0 1 (
    block [] (Assign 0 (Number 3) ∷ []) (Goto 1)
    ∷ block [] (Tick 1 ∷ []) (Branch (Var 0) 2 3)
    ∷ block [] (Print (Var 0) ∷ Assign 0 (Binary Sub (Var 0) (Number 1)) ∷ []) (Goto 1)
    ∷ block [] [] Stop ∷ []) ∷ []
    )

-- main calls a procedure that calls a procedure
abbrev pub calls_twice : Graph
calls_twice = graph [] (
    proc 1 2 (block [] [] (Return (Binary Add (Var 0) (Binary Add (Var 1) (Number 1)))) ∷ [])
    ∷ proc 1 2 (
    block [] (Tick 1 ∷ []) (Call (Some 1) 0 (Binary Mul (Var 0) (Number 2) ∷ []) 2)
    ∷ block [] [] (Return (Var 1)) ∷ [])
    ∷ proc 0 2 (
    block [] (Assign 0 (Number 5) ∷ Tick 1 ∷ []) (Call (Some 1) 1 (Var 0 ∷ []) 4)
    ∷ block [] (Print (Var 0) ∷ Print (Var 1) ∷ []) Stop ∷ []) ∷ []
    )

-- reads an address, and sends 1 and 2 there
abbrev pub sends : Graph
sends = graph [] (
    proc 0 3 (
    block [] (Read 0 ∷ Assign 2 (Number 9) ∷ [])
    (Send (Var 0) (Number 1 ∷ Number 2 ∷ []) (1 ∷ 2 ∷ []))
    ∷ block (0 ∷ 1 ∷ []) (Print (Var 0) ∷ Print (Var 2) ∷ []) Stop
    ∷ block (1 ∷ 0 ∷ []) (Print (Var 0) ∷ Print (Var 2) ∷ []) Stop ∷ []) ∷ []
    )
