-- A graph with two calls, and the graphs in which one of them and both are inlined.
use Rattle.std.specs.Prelude.{ℕ, true, ◌∷◌, Some, []}
use Rattle.ws_words.specs.declared.alu.Alu.TheVariants.{Add, Mul}
use Rattle.cfg_core.specs.Graph.{Term, Number, Var, Binary, Assign, Print, Tick, Goto, Call, Return, Stop}
use Rattle.cfg_core.specs.Graph.{Graph}
use Rattle.cfg_inline.specs.Inlined.{Plan}
use Rattle.cfg_core.specs.Samples.{block, proc, graph}

-- all of these procedures, with so much room
abbrev pub all : ℕ → Plan
all room = record { room = room; chosen = true ∷ true ∷ true ∷ [] }

-- x + (y + 1)
abbrev pub sum : ℕ → ℕ → Term
sum x y = Binary Add (Var x) (Binary Add (Var y) (Number 1))

-- of the graph in which main calls a procedure that calls a procedure: the inner call inlined, with room
-- for the two variables of the callee and a spare one
abbrev pub calls_once : Graph
calls_once = graph [] (
    proc 1 5 (block [] [] (Return (sum 0 1)) ∷ [])
    ∷ proc 1 5 (
    block [] (
    Tick 1 ∷ Assign 2 (Binary Mul (Var 0) (Number 2)) ∷ Assign 3 (Number 0) ∷ Assign 1 (sum 2 3) ∷ []
    ) (Goto 2)
    ∷ block [] [] (Return (Var 1)) ∷ [])
    ∷ proc 0 5 (
    block [] (Assign 0 (Number 5) ∷ Tick 1 ∷ []) (Call (Some 1) 1 (Var 0 ∷ []) 4)
    ∷ block [] (Print (Var 0) ∷ Print (Var 1) ∷ []) Stop ∷ []) ∷ []
    )

-- the outer one too, whose callee has two blocks
abbrev pub calls_none : Graph
calls_none = graph [] (
    proc 1 11 (block [] [] (Return (sum 0 1)) ∷ [])
    ∷ proc 1 11 (
    block [] (
    Tick 1 ∷ Assign 2 (Binary Mul (Var 0) (Number 2)) ∷ Assign 3 (Number 0) ∷ Assign 1 (sum 2 3) ∷ []
    ) (Goto 2)
    ∷ block [] [] (Return (Var 1)) ∷ [])
    ∷ proc 0 11 (
    block [] (
    Assign 0 (Number 5) ∷ Tick 1
    ∷ Assign 5 (Var 0) ∷ Assign 6 (Number 0) ∷ Assign 7 (Number 0) ∷ Assign 8 (Number 0)
    ∷ Assign 9 (Number 0)
    ∷ Tick 1 ∷ Assign 7 (Binary Mul (Var 5) (Number 2)) ∷ Assign 8 (Number 0) ∷ Assign 6 (sum 7 8)
    ∷ Assign 1 (Var 6) ∷ []
    ) (Goto 4)
    ∷ block [] (Print (Var 0) ∷ Print (Var 1) ∷ []) Stop ∷ []) ∷ []
    )
