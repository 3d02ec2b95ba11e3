-- What holds of the inlined graph.
use Rattle.std.specs.Prelude.{◌≡◌, ℕ, ◌⊎◌, Option, List}
use Rattle.cfg_core.specs.Graph.{Term, Exit, Goto, Call, Graph, block_at}

-- an exit is what it was, or a Goto to where a call went on
abbrev pub SameOrBack : Exit → Exit → Type 0
SameOrBack x y =
    (y ≡ x) ⊎ ((r : Option ℕ) × (f : ℕ) × (ts : List Term) × (back : ℕ) × (x ≡ Call r f ts back)
    × (y ≡ Goto back))

-- each exit is the old one, or its call is inlined
pub record ExitsKept (g h : Graph) : Type 0 where
  pub exits : (b : ℕ) → SameOrBack (block_at g b).exit (block_at h b).exit
