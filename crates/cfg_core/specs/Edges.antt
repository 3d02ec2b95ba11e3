-- Edges between blocks, and loops' headers.
use Rattle.std.specs.Prelude.{ℕ, ◌≤◌}
use Rattle.cfg_core.specs.Graph.{Graph, block_at}
use Rattle.cfg_core.specs.Rules.{Leads}

-- an edge leads from the first block to the second
abbrev pub Edge : Graph → ℕ → ℕ → Type 0
Edge g b c = Leads (block_at g b).exit c

-- a loop's header is a block that an edge enters from itself or from a later block
abbrev pub IsHeader : Graph → ℕ → Type 0
IsHeader g c = (b : ℕ) × (c ≤ b) × Edge g b c
