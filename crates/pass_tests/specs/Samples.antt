-- A graph with a short branch and a call.
use Rattle.std.specs.Prelude.{[], ◌∷◌, Some}
use Rattle.ws_words.specs.declared.alu.Alu.TheVariants.{Add}
use Rattle.cfg_core.specs.Graph.{Number, Var, Binary, Assign, Print, Read, Tick, Goto, Branch, Call, Return}
use Rattle.cfg_core.specs.Graph.{Stop, Graph}
use Rattle.cfg_core.specs.Samples.{block, proc, graph}

-- Reads x; if x isn't 0, y is 3, in two turns, else y is 4, in one; prints y doubled by a call, and x.
abbrev pub doubles : Graph
doubles = graph [] (
    proc 1 1 (block [] [] (Return (Binary Add (Var 0) (Var 0))) ∷ [])
    ∷ proc 0 2 (
    block [] (Read 0 ∷ Tick 1 ∷ []) (Branch (Var 0) 2 3)
    ∷ block [] (Tick 2 ∷ Assign 1 (Number 3) ∷ []) (Goto 4)
    ∷ block [] (Tick 1 ∷ Assign 1 (Number 4) ∷ []) (Goto 4)
    ∷ block [] (Tick 1 ∷ []) (Call (Some 1) 0 (Var 1 ∷ []) 5)
    ∷ block [] (Print (Var 1) ∷ Print (Var 0) ∷ []) Stop ∷ []) ∷ []
    )
