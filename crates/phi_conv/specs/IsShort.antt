-- Short branches as a relation.
use Rattle.std.specs.Prelude.{◌≡◌, ℕ, ◌+◌, ◌≤◌, true, List, []}
use Rattle.cfg_core.specs.Graph.{Term, Op, Goto, Graph, block_at}
use Rattle.phi_conv.specs.Short.{Short, all_light, all_nodes, most_nodes}

-- from block b on to block j by these operations: b is j, or an arm that goes on there
pub data Way (g : Graph) (b j : ℕ) (ops : List Op) : Type 0 where
  direct : b ≡ j → ops ≡ [] → Way g b j ops
  through : ops ≡ (block_at g b).ops → (block_at g b).exit ≡ Goto j → all_light ops ≡ true →
      Way g b j ops

-- both ways of a branch to blocks c and d lead to one join, and their arms have few nodes together
pub record IsShort (g : Graph) (t : Term) (c d : ℕ) (s : Short) : Type 0 where
  pub test : s.test ≡ t
  pub first : Way g c s.join s.first
  pub second : Way g d s.join s.second
  pub few : all_nodes s.first + all_nodes s.second ≤ most_nodes
