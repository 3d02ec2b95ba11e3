-- Tables between two phases.
use Rattle.std.specs.Prelude.{ℕ, suc, ◌≡◌, ◌+◌, ◌<◌, ◌≤◌, List, [], ◌∷◌, length, slice_index}
use Rattle.match_table.specs.Growth.{Grows, content_at}
use Rattle.match_table.specs.Limits.{Serves}
use Rattle.match_table.specs.Tables.{TableContent}

-- the tables in order
abbrev pub contents : List TableContent → List TableContent
contents ts = ts

-- tables from number k on: each serves its own instances, and lists no more that fired than these
-- numbers allow
abbrev pub FitFrom : ℕ → List TableContent → List ℕ → Type 0
FitFrom k [] most = Unit {0}
FitFrom k (c ∷ cs) most =
    Serves k c × (length c.fired ≤ slice_index most k) × FitFrom (suc k) cs most

abbrev pub Fits : List TableContent → List ℕ → Type 0
Fits ts most = FitFrom 0 (contents ts) most

-- a table of a phase: it serves its own instances, keeps within its limit, and has grown from what it was
abbrev pub InPhase : List ℕ → ℕ → TableContent → TableContent → Type 0
InPhase most k old c = Serves k c × (length c.fired ≤ slice_index most k) × Grows old c

-- In the list out of which a phase takes its tables, and into which it puts them back, are those from this
-- number on.
pub record RestOf (began : List TableContent) (most : List ℕ) (n : ℕ) (cs : List TableContent) : Type 0 where
  pub count : length cs ≡ length began
  pub each : (k : ℕ) → n ≤ k → k < length cs → InPhase most k (content_at began k) (content_at cs k)

-- four numbers, each the next after the one before
abbrev pub InARow : ℕ → ℕ → ℕ → ℕ → Type 0
InARow a b c d = (b ≡ a + 1) × (c ≡ b + 1) × (d ≡ c + 1)
