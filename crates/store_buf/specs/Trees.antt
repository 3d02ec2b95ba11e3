-- Trees of requests by instruction numbers: the node of a request has the number of its place.
use Rattle.std.specs.Prelude.{ℕ, zero, suc, ◌≡◌, ◌<◌, ◌≤◌, ◌/◌, ◌%◌, cond, nat_eq, nat_lt, List, length}
use Rattle.std.specs.Prelude.{Option, Some, None, slice_index_or}
use Rattle.df_core.specs.Core.{same_key}
use Rattle.store_buf.specs.declared.kept.Kept.{Kept}
use Rattle.store_buf.specs.declared.node.Node.{Node}
use Rattle.store_buf.specs.Requests.{request_at}

-- no place of a node
abbrev pub nowhere : ℕ
nowhere = 4294967295

-- a node with none behind it
abbrev pub leaf : Node
leaf = record { even = nowhere; odd = nowhere }

abbrev pub node_at : List Node → ℕ → Node
node_at nodes p = slice_index_or nodes p leaf

-- the node behind, for what is left of a number
abbrev pub child_of : Node → ℕ → ℕ
child_of n key = cond (nat_eq (key % 2) 0) n.even n.odd

-- with this one there
abbrev pub with_child : Node → ℕ → ℕ → Node
with_child n key next = record {
  even = cond (nat_eq (key % 2) 0) next n.even;
  odd = cond (nat_eq (key % 2) 0) n.odd next;
}

-- the place of an instance's request in the tree from a node on, so many levels deep at most
abbrev pub seek : List Kept → List Node → ℕ → ℕ → ℕ → ℕ → ℕ → Option ℕ
seek ks nodes zero at key w i = None
seek ks nodes (suc n) at key w i = cond (nat_lt at (length nodes))
    (cond (same_key (request_at ks at).wave (request_at ks at).instr w i)
    (Some at)
    (seek ks nodes n (child_of (node_at nodes at) key) (key / 2) w i))
    None

-- where the tree of a wave begins
abbrev pub root_of : List ℕ → ℕ → ℕ
root_of roots w = slice_index_or roots w nowhere

-- the place of an instance's request
abbrev pub in_trees : List Kept → List Node → List ℕ → ℕ → ℕ → Option ℕ
in_trees ks nodes roots w i = seek ks nodes 33 (root_of roots w) i w i

abbrev pub IsLink : List Node → ℕ → Type 0
IsLink nodes at = length nodes ≤ at → at ≡ nowhere

-- each link leads to a node or nowhere
pub record TreesOk (ns : List Node) (rs : List ℕ) : Type 0 where
  pub few : length ns ≤ nowhere
  pub nodes : (p key : ℕ) → p < length ns → IsLink ns (child_of (node_at ns p) key)
  pub roots : (w : ℕ) → IsLink ns (root_of rs w)

-- nodes and requests that came later
pub record NodeGrown (ks more : List Kept) (old new : List Node) (p : ℕ) : Type 0 where
  pub within : p < length new
  pub wave : (request_at more p).wave ≡ (request_at ks p).wave
  pub instr : (request_at more p).instr ≡ (request_at ks p).instr
  pub links : (key : ℕ) → child_of (node_at old p) key < length old
      → child_of (node_at new p) key ≡ child_of (node_at old p) key

abbrev pub AllGrown : List Kept → List Kept → List Node → List Node → Type 0
AllGrown ks more old new = (p : ℕ) → p < length old → NodeGrown ks more old new p

-- a search from the root reaches a node, also where the nodes grow
abbrev pub LeadsTo : List Kept → List Node → ℕ → ℕ → ℕ → ℕ → ℕ → ℕ → Type 0
LeadsTo ks nodes root w i left at key = (more : List Kept) (new : List Node) → AllGrown ks more nodes new
    → seek more new 33 root i w i ≡ seek more new left at key w i
