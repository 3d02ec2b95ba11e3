-- The blocks that a walk can reach.
use Rattle.std.specs.Prelude.{◌≡◌, ℕ, ◌-◌, ◌<◌, length}
use Rattle.cfg_core.specs.Graph.{Exit, Call, Graph, spots, block_at, entry_of}
use Rattle.cfg_core.specs.Edges.{Edge}

-- a call enters the first block of its callee
abbrev pub Enters : Graph → Exit → ℕ → Type 0
Enters g (Call r f ts back) c = c ≡ entry_of g f
Enters g _ c = ⊥

-- Edges and calls lead from main's first block to this one. Where a call returns to is where its edge leads.
pub data Reached (g : Graph) : ℕ → Type 0 where
  start : Reached g (entry_of g (length g.procs - 1))
  follow : (b c : ℕ) → Reached g b → Edge g b c → Reached g c
  enter : (b c : ℕ) → Reached g b → Enters g (block_at g b).exit c → Reached g c

-- each block, and so the first block of each procedure, is reached
abbrev pub AllReached : Graph → Type 0
AllReached g = (b : ℕ) → b < length (spots g) → Reached g b
