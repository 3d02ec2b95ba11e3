-- A text as gaps and lexemes in turn, and the lexemes of such a text.
use Rattle.std.proofs.Common.{arith, ◌≡◌, ℕ, ◌≤◌, ◌&&◌, ◌==◌, IsTrue, List, ◌∷◌, ◌++◌, refl, ◌∙◌, decimal, []}
use Rattle.std.proofs.Common.{append_assoc}
use Rattle.std.specs.List.{list_all}
use Rattle.std.proofs.lemmas.Bool.{and_parts, and_from, cond-true}
use Rattle.src_ast.specs.declared.lexeme.Place.{Place}
use Rattle.src_ast.specs.declared.lexeme.Lexeme.{Lexeme}
use Rattle.src_ast.specs.declared.lexeme.Shape.{Shape}
use Rattle.src_ast.specs.declared.lexeme.Shape.TheVariants as shape
use Rattle.src_ast.specs.Lexemes.{spelling, start, after, past, is_blank, is_gap, is_comment, Spells, LexesTo}
use Rattle.src_ast.specs.Lexemes.{stop, next, Lex, IsShort, open_past, row_past, KeepLimits}

-- a gap or a lexeme of a printed text
pub data Piece : Type 0 where
  gap : (bytes : List ℕ) → Piece
  lexeme : (s : Shape) → Piece

-- the bytes that a shape is printed as
abbrev pub spelled : Shape → List ℕ
spelled (shape.Word w) = w
spelled (shape.Number n) = decimal n
spelled (shape.Mark m) = spelling m

-- the text of pieces
abbrev pub text_of : List Piece → List ℕ
text_of [] = []
text_of (gap bytes ∷ ps) = bytes ++ text_of ps
text_of (lexeme s ∷ ps) = spelled s ++ text_of ps

-- the lexemes, from this place on
abbrev pub placed : Place → List Piece → List Lexeme
placed at [] = []
placed at (gap bytes ∷ ps) = placed (after at bytes) ps
placed at (lexeme s ∷ ps) = record { shape = s; place = at } ∷ placed (after at (spelled s)) ps

-- each gap is blank, and each lexeme is spelled as far as it goes
abbrev pub AreSpelled : List Piece → Type 0
AreSpelled [] = Unit {0}
AreSpelled (gap bytes ∷ ps) = IsTrue (list_all is_blank bytes) × AreSpelled ps
AreSpelled (lexeme s ∷ ps) = Spells s (spelled s) (text_of ps) × AreSpelled ps

-- the limits, over gaps too
pub data Keep : ℕ → ℕ → List Piece → Type 0 where
  over : {braces row : ℕ} → Keep braces row []
  after_gap : {braces row : ℕ} {ps : List Piece} (bytes : List ℕ) → Keep braces row ps
      → Keep braces row (gap bytes ∷ ps)
  following : {braces row : ℕ} {ps : List Piece} (s : Shape) → IsShort s → open_past braces s ≤ 32
      → row_past row s ≤ 256
      → Keep (open_past braces s) (row_past row s) ps → Keep braces row (lexeme s ∷ ps)

-- the lexemes of pieces keep the limits that the pieces keep
pub keeps : {braces row : ℕ} {ps : List Piece} (at : Place) → Keep braces row ps
    → KeepLimits braces row (placed at ps)
keeps at over = tt
keeps at (after_gap bytes k) = keeps (after at bytes) k
keeps at (following s h d w k) = (h, d, w, keeps (after at (spelled s)) k)

pub after-append : (at : Place) (xs ys : List ℕ) → after at (xs ++ ys) ≡ after (after at xs) ys
after-append at [] ys = refl
after-append at (x ∷ xs) ys = after-append (past at x) xs ys

blank_gap : (bytes : List ℕ) → IsTrue (list_all is_blank bytes) → IsTrue (is_gap bytes)
blank_gap [] h = refl
blank_gap (b ∷ bytes) h =
    let parts = and_parts (is_blank b) (list_all is_blank bytes) h in
    cond-true (is_blank b) (is_gap bytes) ((b == 35) && is_comment bytes) parts.0 ∙ blank_gap bytes parts.1

blank-append : (xs ys : List ℕ) → IsTrue (list_all is_blank xs) → IsTrue (list_all is_blank ys)
    → IsTrue (list_all is_blank (xs ++ ys))
blank-append [] ys h k = k
blank-append (x ∷ xs) ys h k =
    let parts = and_parts (is_blank x) (list_all is_blank xs) h in
    and_from (is_blank x) (list_all is_blank (xs ++ ys)) parts.0 (blank-append xs ys parts.1 k)

-- the lexemes of a text, to its end
record Led (at : Place) (text : List ℕ) (ls : List Lexeme) : Type 0 where
  place : Place
  leads : LexesTo at text ls place []

led : (ps : List Piece) (at : Place) (pre : List ℕ) → IsTrue (list_all is_blank pre) → AreSpelled ps
    → Led at (pre ++ text_of ps) (placed (after at pre) ps)
led [] at pre blank h = record { place = after at pre; leads = stop pre refl (blank_gap pre blank) refl }
led (gap bytes ∷ ps) at pre blank h =
    let ih1 = led ps at (pre ++ bytes) (blank-append pre bytes blank h.0) h.1 in
    grind (arith, blank-append, append_assoc, after-append)
led (lexeme s ∷ ps) at pre blank h =
    let following = led ps (after (after at pre) (spelled s)) [] refl h.1 in
    record {
      place = following.place;
      leads = next (record { shape = s; place = after at pre }) pre (spelled s) (text_of ps) refl
          (blank_gap pre blank) refl h.0 following.leads;
    }

-- pieces that are spelled give the lexemes of their text
pub lexed : (ps : List Piece) → AreSpelled ps → Lex (text_of ps) (placed start ps) (after start (text_of ps))
lexed ps h = grind (arith, led ps start [] refl h)
