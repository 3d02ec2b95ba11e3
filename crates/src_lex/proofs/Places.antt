-- Places after bytes.
use Rattle.std.specs.Prelude.{◌≡◌, ℕ, ◌+◌, ◌≤◌, ◌<◌, length, List, [], ◌∷◌}
use Rattle.std.proofs.Common.{take, arith, get_or}
use Rattle.std.proofs.lemmas.List.{take_more}
use Rattle.src_ast.specs.declared.lexeme.Place.{Place}
use Rattle.src_ast.specs.Lexemes.{after, past}
use Rattle.src_ast.proofs.Pieces.{after-append as after_append}

-- one byte more
pub after_more : (at : Place) (xs : List ℕ) (i : ℕ) (d : ℕ) → i < length xs
    → after at (take (i + 1) xs) ≡ past (after at (take i xs)) (get_or xs i d)
after_more at xs i d h = rw (take_more xs i d h) (after_append at (take i xs) (get_or xs i d ∷ []))

pub record Kept (at : Place) (count : ℕ) (place : Place) : Type 0 where
  pub line : 0 < place.line
  pub column : 0 < place.column
  pub room : place.line + place.column ≤ at.line + at.column + count

pub past_kept : (at : Place) (b : ℕ) → 0 < at.line → 0 < at.column → Kept at 1 (past at b)
past_kept at b h k = grind arith

-- places stay in range
pub after_kept : (at : Place) (xs : List ℕ) → 0 < at.line → 0 < at.column → Kept at (length xs) (after at xs)
after_kept at [] h k = record { line = h; column = k; room = omega arith }
after_kept at (x ∷ xs) h k =
    let one = past_kept at x h k in grind (arith, past, after_kept (past at x) xs one.line one.column)

pub ruleset places = (after_append, after_more, past_kept)
