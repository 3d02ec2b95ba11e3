-- The blocks and procedures of a graph in order, as the code lists them.
use Rattle.std.specs.Prelude.{◌≡◌, ℕ, ◌+◌, List, [], ◌∷◌, map, length}
use Rattle.std.proofs.Props.{props}
use Rattle.cfg_core.specs.Graph as plain
use Rattle.cfg_core.specs.Graph.{Block, GraphProc, spots, Term, Op, Exit, Term-set, Op-set, Exit-set}
use Rattle.cfg_core.specs.View as view
use Rattle.cfg_core.specs.declared.blocks.Graph.{Graph}
use Rattle.cfg_core.specs.declared.table.Spot.{Spot}
use Rattle.cfg_core.specs.declared.table.Room.{Room}

abbrev pub spot_in_code : Spot → ℕ × Block
spot_in_code s = (s.vars, view.block s.block.now)

abbrev pub spot_in_graph : plain.Spot → ℕ × Block
spot_in_graph s = (s.vars, s.block)

-- the entry, parameters and variables of procedures, the first of which begins at this block
abbrev pub rooms_from : ℕ → List GraphProc → List Room
rooms_from first [] = []
rooms_from first (p ∷ procs) =
    record { entry = first; params = p.params; vars = p.vars }
    ∷ rooms_from (first + length p.blocks) procs

-- these are the blocks of the graph, in order
abbrev pub ListsSpots : Graph → List Spot → Type 0
ListsSpots g xs = map spot_in_code xs ≡ map spot_in_graph (spots (view.graph g))

-- these are its procedures, in order
abbrev pub ListsRooms : Graph → List Room → Type 0
ListsRooms g xs = xs ≡ rooms_from 0 (view.graph g).procs

term_set : IsSet Term
term_set = Term-set (hlevel props) (hlevel props)

op_set : IsSet Op
op_set = Op-set (hlevel props) term_set

exit_set : IsSet Exit
exit_set = Exit-set (hlevel (term_set, props)) (hlevel (term_set, props)) (hlevel (term_set, props))
    (hlevel (term_set, props)) (hlevel (term_set, props))

pub lists_spots-prop : (g : Graph) (xs : List Spot) → IsProp (ListsSpots g xs)
lists_spots-prop g xs = hlevel (op_set, exit_set, props)
