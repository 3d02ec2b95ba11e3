-- What is true of a thread that goes on by its type.
use Rattle.std.specs.Prelude.{ℕ, ◌≡◌, ◌≤◌, List, Option, Some, None, length, sum}
use Rattle.match_table.specs.Tables.{TableContent}
use Rattle.match_table.specs.Together.{AllServe, part_of}
use Rattle.multi_wave.specs.Parts.{Alone}
use Rattle.multi_wave.specs.Stands.{Taker}

-- the thread has a part in the run, with this budget
abbrev pub HasPart : Option Alone → ℕ → Type 0
HasPart None budget = ⊥
HasPart (Some a) budget = budget ≡ a.budget

-- its tables serve apart, and list no more than the budget allows
pub record GoesOk (part : Option Alone) (tables : List TableContent) (budget : ℕ) : Type 0 where
  pub has : HasPart part budget
  pub serve : AllServe tables
  pub within : length (part_of tables).fired ≤ budget

-- together the limits of one that takes part in a phase allow no more than its budget
abbrev pub HomeOk : List ℕ → Option Taker → Type 0
HomeOk limits None = Unit {0}
HomeOk limits (Some t) = (length limits ≡ 16) × (sum limits ≤ t.budget)
