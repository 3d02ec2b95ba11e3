-- Tables only grow.
use Rattle.std.specs.Prelude.{ℕ, ◌≡◌, List, [], ◌∷◌, ◌++◌, Some, slice_index_or}
use Rattle.df_core.specs.Core.{Key}
use Rattle.match_table.specs.Tables.{held, TableContent}

-- what was held is still held, and the list of those that fired goes on behind what was there
pub record Grows (old new : TableContent) : Type 0 where
  pub keeps : (w i p v : ℕ) → held old w i p ≡ Some v → held new w i p ≡ Some v
  pub goes_on : (more : List Key) × (new.fired ≡ old.fired ++ more)

-- each table of a list has grown into the one at its place in the other
abbrev pub AllGrow : List TableContent → List TableContent → Type 0
AllGrow [] [] = Unit {0}
AllGrow (old ∷ olds) (new ∷ news) = Grows old new × AllGrow olds news
AllGrow olds news = ⊥

-- stands for a table that isn't there
abbrev pub no_content : TableContent
no_content = record { entries = record { slots = []; wide = [] }; fired = []; spare = 0 }

abbrev pub content_at : List TableContent → ℕ → TableContent
content_at cs k = slice_index_or cs k no_content
