-- A graph with a short branch, and the graph in which it is joined.
use Rattle.std.specs.Prelude.{ℕ, [], ◌∷◌, List}
use Rattle.cfg_core.specs.Graph.{Number, Var, Assign, Print, Read, Choose, Tick, TickBy, Goto, Branch, Stop}
use Rattle.cfg_core.specs.Graph.{Graph}
use Rattle.cfg_core.specs.Samples.{block, proc, graph}

-- reads x; if x isn't 0, y is 3 and x is y, in two turns, else y is 4, in one; prints y and x
abbrev pub chooses : Graph
chooses = graph [] (
    proc 0 2 (
    block [] (Read 0 ∷ Tick 1 ∷ []) (Branch (Var 0) 1 2)
    ∷ block [] (Tick 2 ∷ Assign 1 (Number 3) ∷ Assign 0 (Var 1) ∷ []) (Goto 3)
    ∷ block [] (Tick 1 ∷ Assign 1 (Number 4) ∷ []) (Goto 3)
    ∷ block [] (Print (Var 1) ∷ Print (Var 0) ∷ []) Stop ∷ []) ∷ []
    )

-- one word for each block: x is live at the second arm, x and y are at the join
abbrev pub chooses_live : List (List ℕ)
chooses_live = (0 ∷ 0 ∷ 1 ∷ 3 ∷ []) ∷ []

-- the same graph with its branch joined: the test is in 2, the copies for the first arm are 3 and
-- 4, those for the second 5 and 6
abbrev pub chooses_joined : Graph
chooses_joined = graph [] (
    proc 0 7 (
    block [] (
    Read 0 ∷ Tick 1 ∷ Assign 2 (Var 0) ∷ TickBy (Var 2) 2 1
    ∷ Assign 4 (Number 3) ∷ Assign 3 (Var 4) ∷ Assign 6 (Number 4)
    ∷ Choose 1 (Var 2) (Var 4) (Var 6) ∷ Choose 0 (Var 2) (Var 3) (Var 0) ∷ []
    ) (Goto 3)
    ∷ block [] (Tick 2 ∷ Assign 1 (Number 3) ∷ Assign 0 (Var 1) ∷ []) (Goto 3)
    ∷ block [] (Tick 1 ∷ Assign 1 (Number 4) ∷ []) (Goto 3)
    ∷ block [] (Print (Var 1) ∷ Print (Var 0) ∷ []) Stop ∷ []) ∷ []
    )
