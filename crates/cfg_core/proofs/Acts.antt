-- Loads print nothing, and no port takes a word by them.
use Rattle.std.proofs.Common.{arith, ℕ, List, [], ◌∷◌}
use Rattle.ws_words.proofs.Acts.{Silent, silent_none, silent_load, silent_both}
use Rattle.cfg_core.specs.Graph.{Term, Cell, Flip, Not, Neg, Binary}
use Rattle.cfg_core.specs.Walk.{value, loads_of, all_loads}

-- the loads of a term
pub silent_loads : (t : Term) (vars : List ℕ) (cells : List (List ℕ)) → Silent (loads_of t vars cells)
silent_loads (Cell a t) vars cells =
    silent_both (loads_of t vars cells) _ (silent_loads t vars cells) (silent_load a (value t vars cells))
silent_loads (Flip t) vars cells = silent_loads t vars cells
silent_loads (Not t) vars cells = silent_loads t vars cells
silent_loads (Neg t) vars cells = silent_loads t vars cells
silent_loads (Binary op a b) vars cells =
    silent_both (loads_of a vars cells) (loads_of b vars cells) (silent_loads a vars cells)
    (silent_loads b vars cells)
silent_loads t vars cells = grind (arith, silent_none)

-- the loads of terms
pub silent_all : (ts : List Term) (vars : List ℕ) (cells : List (List ℕ)) → Silent (all_loads ts vars cells)
silent_all [] vars cells = silent_none
silent_all (t ∷ ts) vars cells =
    silent_both (loads_of t vars cells) (all_loads ts vars cells) (silent_loads t vars cells)
    (silent_all ts vars cells)
