-- The order of blocks and the edges into them.
use Rattle.std.specs.Prelude.{◌≡◌, ◌≢◌, ℕ, ◌<◌, ◌≤◌, Bool, true, false}
use Rattle.cfg_core.specs.Graph.{Term, Exit, Goto, Branch, Graph, block_at}
use Rattle.cfg_core.specs.Rules.{has_tick}
use Rattle.cfg_core.specs.Edges.{Edge, IsHeader}

abbrev pub is_branch : Exit → Bool
is_branch (Branch t a b) = true
is_branch _ = false

-- a block takes a turn, tests and branches
pub record TestsInATurn (g : Graph) (b : ℕ) : Type 0 where
  pub ticks : has_tick (block_at g b).ops ≡ true
  pub tests : is_branch (block_at g b).exit ≡ true

-- no edge but from the first block leads to the second
abbrev pub OnlyFrom : Graph → ℕ → ℕ → Type 0
OnlyFrom g b c = (other : ℕ) → Edge g other c → other ≡ b

-- the two edges of a branch lead to two blocks that no other edge enters
pub record BranchesApart (g : Graph) (a b c : ℕ) : Type 0 where
  pub differ : b ≢ c
  pub first : OnlyFrom g a b
  pub second : OnlyFrom g a c

-- Edges lead to later blocks, but for a Goto back to a loop's header, which tests in a turn; and
-- each branch leads to two blocks of its own.
pub record IsShaped (g : Graph) : Type 0 where
  pub headers : (c : ℕ) → IsHeader g c → TestsInATurn g c
  pub backward : (b c : ℕ) → Edge g b c → c ≤ b → (block_at g b).exit ≡ Goto c
  pub branches : (a : ℕ) (t : Term) (b c : ℕ) → (block_at g a).exit ≡ Branch t b c →
      BranchesApart g a b c

-- Each branch leads forward, to two blocks that no other edge enters. So no arm of a branch is a
-- loop's header, a landing or a join.
pub record ArmsAlone (g : Graph) : Type 0 where
  pub apart : (a : ℕ) (t : Term) (b c : ℕ) → (block_at g a).exit ≡ Branch t b c →
      BranchesApart g a b c
  pub ahead : (a : ℕ) (t : Term) (b c : ℕ) → (block_at g a).exit ≡ Branch t b c →
      (a < b) × (a < c)
