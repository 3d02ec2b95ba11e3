-- A table of a phase.
use Rattle.std.specs.Prelude.{◌≡◌, ◌+◌, ◌≤◌, ◌%◌, ℕ, true, length, Some}
use Rattle.ws_isa.specs.Image.{Image, Token}
use Rattle.match_table.specs.declared.table.Results.{Results}
use Rattle.match_table.specs.Matching.{TookAs, NoResults, will_fire}
use Rattle.match_table.specs.Tables.{held, TableContent}
use Rattle.match_table.specs.declared.limit.Offer.{Offer}
use Rattle.match_table.specs.declared.limit.Offer.TheVariants.{Took, Spent}

-- the table holds tokens of those instances alone whose wave number plus instruction is k modulo 16
abbrev pub Serves : ℕ → TableContent → Type 0
Serves k c = (w i p v : ℕ) → held c w i p ≡ Some v → (w + i) % 16 ≡ k

-- What a table of a phase does, whose list may have so many: what a table does; or nothing, since the token
-- would fire its instance and the list has that many.
abbrev pub Offered : {J : Type 0} → Image → ℕ → TableContent → Token → TableContent → Results J → Offer →
    Type 0
Offered image most old t new rs (Took took) = TookAs image old t new rs took
Offered image most old t new rs Spent = (new ≡ old) × (will_fire image old t ≡ true)
    × (most ≤ length old.fired) × NoResults rs
