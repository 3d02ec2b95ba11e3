-- A graph with terms to fold, and that graph folded.
use Rattle.std.specs.Prelude.{◌∷◌, []}
use Rattle.ws_words.specs.declared.alu.Alu.TheVariants.{Add, Sub, Shl}
use Rattle.cfg_core.specs.Graph.{Number, Var, Neg, Not, Binary, Assign, Print, Read, Tick, Goto, Branch}
use Rattle.cfg_core.specs.Graph.{Stop, Graph}
use Rattle.cfg_core.specs.Samples.{block, proc, graph}

-- y is 7, and x is shifted by 64 - y; x is read, and then no longer known; then tests
abbrev pub folds : Graph
folds = graph [] (
    proc 0 2 (
    block [] (
    Assign 1 (Number 7) ∷ Assign 0 (Number 1) ∷ Tick 1
    ∷ Print (Binary Shl (Var 0) (Binary Sub (Number 64) (Var 1))) ∷ Read 0
    ∷ Print (Binary Add (Var 0) (Neg (Number 1))) ∷ []
    ) (Branch (Not (Var 1)) 1 2)
    ∷ block [] (Print (Var 1) ∷ []) (Goto 2)
    ∷ block [] [] Stop ∷ []) ∷ []
    )

-- the next block doesn't know what y is
abbrev pub folds_folded : Graph
folds_folded = graph [] (
    proc 0 2 (
    block [] (
    Assign 1 (Number 7) ∷ Assign 0 (Number 1) ∷ Tick 1 ∷ Print (Number 144115188075855872) ∷ Read 0
    ∷ Print (Binary Add (Var 0) (Number 18446744073709551615)) ∷ []
    ) (Branch (Number 0) 1 2)
    ∷ block [] (Print (Var 1) ∷ []) (Goto 2)
    ∷ block [] [] Stop ∷ []) ∷ []
    )
