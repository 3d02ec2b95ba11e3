-- Nodes of terms and of arms.
use Rattle.std.proofs.Common.{◌≤◌, arith}
use Rattle.cfg_core.specs.Graph.{Term, Number, Var, Cell, Flip, Not, Neg, Binary}
use Rattle.cfg_core.specs.Weights.{term_nodes}

-- a term has a node
pub some_nodes : (t : Term) → 1 ≤ term_nodes t
some_nodes (Number n) = omega arith
some_nodes (Var x) = omega arith
some_nodes (Cell a t) = omega arith
some_nodes (Flip t) = omega arith
some_nodes (Not t) = omega arith
some_nodes (Neg t) = omega arith
some_nodes (Binary op a b) = omega arith
