-- What lexemes that keep the limits say of a row of them.
use Rattle.std.proofs.Common.{◌≡◌, ℕ, suc, ◌+◌, ◌^◌, ◌<◌, ◌≤◌, Bool, true, IsTrue, length, List, ◌∷◌, ◌++◌}
use Rattle.std.proofs.Common.{ap, ◌∙◌, subst, arith, []}
use Rattle.src_ast.specs.declared.lexeme.Place.{Place}
use Rattle.src_ast.specs.declared.lexeme.Lexeme.{Lexeme}
use Rattle.src_ast.specs.declared.lexeme.Shape.{Shape}
use Rattle.src_ast.specs.declared.lexeme.Shape.TheVariants.{Word, Number, Mark}
use Rattle.src_ast.specs.declared.lexeme.Mark.{Mark as AnyMark}
use Rattle.src_ast.specs.declared.lexeme.Mark.TheVariants.{LBrace, RBrace, Semi}
use Rattle.src_ast.specs.Lexemes.{Spells, LexesTo, stop, next, IsShort, open_past, row_past, KeepLimits}
use Rattle.src_ast.specs.Grammar.{Is, IsNumber}
use Rattle.src_ast.proofs.Kept.{is_inner}
use Rattle.ws_words.specs.Letters.{is_word}

-- a lexeme that some text has, within the limit of a word
abbrev pub IsSound : Shape → Type 0
IsSound (Word w) = IsTrue (is_word w) × (length w ≤ 64)
IsSound (Number n) = n < 2 ^ 64
IsSound (Mark m) = Unit {0}

-- all lexemes are such
pub data AllSound : List Lexeme → Type 0 where
  no_sound : AllSound []
  sound : {l : Lexeme} {ls : List Lexeme} → IsSound l.shape → AllSound ls → AllSound (l ∷ ls)

-- the first is
pub sound_here : {l : Lexeme} {ls : List Lexeme} → AllSound (l ∷ ls) → IsSound l.shape
sound_here (sound h hs) = h

-- those after the first are
pub sound_after : {l : Lexeme} {ls : List Lexeme} → AllSound (l ∷ ls) → AllSound ls
sound_after (sound h hs) = hs

-- those of a front are
pub sound_front : (xs ys : List Lexeme) → AllSound (xs ++ ys) → AllSound xs
sound_front [] ys h = no_sound
sound_front (x ∷ xs) ys (sound h hs) = sound h (sound_front xs ys hs)

-- those of a back are
pub sound_back : (xs ys : List Lexeme) → AllSound (xs ++ ys) → AllSound ys
sound_back [] ys h = h
sound_back (x ∷ xs) ys (sound h hs) = sound_back xs ys hs

spells_sound : {s : Shape} {bytes rest : List ℕ} → Spells s bytes rest → IsShort s → IsSound s
spells_sound h short = grind arith

-- lexemes of a text within the limits are such
pub leads_sound : {at place : Place} {text rest : List ℕ} {ls : List Lexeme} (braces row : ℕ)
    → LexesTo at text ls place rest → KeepLimits braces row ls → AllSound ls
leads_sound braces row (stop gap e g p) k = no_sound
leads_sound braces row (next l gap bytes following e g p s more) k =
    sound (spells_sound s k.0) (leads_sound (open_past braces l.shape) (row_past row l.shape) more k.3)

-- a lexeme in the middle of a row
abbrev pub is_plain : Shape → Bool
is_plain (Word w) = true
is_plain (Number n) = true
is_plain (Mark m) = is_inner m

-- all lexemes stand in the middle of a row
pub data AllPlain : List Lexeme → Type 0 where
  no_plain : AllPlain []
  plain : {l : Lexeme} {ls : List Lexeme} → is_plain l.shape ≡ true → AllPlain ls → AllPlain (l ∷ ls)

-- two rows are a row
pub plain_append : {xs ys : List Lexeme} → AllPlain xs → AllPlain ys → AllPlain (xs ++ ys)
plain_append no_plain k = k
plain_append (plain h hs) k = plain h (plain_append hs k)

-- a word stands in a row
pub plain_word : (l : Lexeme) (w : List ℕ) → l.shape ≡ Word w → is_plain l.shape ≡ true
plain_word l w e = ap is_plain e

-- so does a number
pub plain_number : (l : Lexeme) (n : ℕ) → IsNumber n l → is_plain l.shape ≡ true
plain_number l n e = ap is_plain e

-- so does a mark that ends none
pub plain_mark : (l : Lexeme) (m : AnyMark) → is_inner m ≡ true → Is m l → is_plain l.shape ≡ true
plain_mark l m h e = ap is_plain e ∙ h

mark_open : (braces : ℕ) (m : AnyMark) → is_inner m ≡ true → open_past braces (Mark m) ≡ braces
mark_open braces m h = grind arith

mark_row : (row : ℕ) (m : AnyMark) → is_inner m ≡ true → row_past row (Mark m) ≡ suc row
mark_row row m h = grind arith

plain_open : (braces : ℕ) (s : Shape) → is_plain s ≡ true → open_past braces s ≡ braces
plain_open braces s h = grind (arith, mark_open)

plain_row : (row : ℕ) (s : Shape) → is_plain s ≡ true → row_past row s ≡ suc row
plain_row row s h = grind (arith, mark_row)

-- a row, and what stands after it
pub record Within (braces row : ℕ) (rest : List Lexeme) : Type 0 where
  pub short : row ≤ 256
  pub kept : KeepLimits braces row rest

row_from : {ls : List Lexeme} (rest : List Lexeme) (braces row : ℕ) → AllPlain ls → row ≤ 256
    → KeepLimits braces row (ls ++ rest) → Within braces (row + length ls) rest
row_from rest braces row no_plain d k = grind arith
row_from rest braces row (plain {l = l} {ls = ls} h hs) d k =
    let here = subst (λ r. r ≤ 256) (plain_row row l.shape h) k.2 in
    let moved = subst (λ b. KeepLimits b (row_past row l.shape) (ls ++ rest)) (plain_open braces l.shape h)
    k.3 in
    let more = subst (λ r. KeepLimits braces r (ls ++ rest)) (plain_row row l.shape h) moved in
    let same : suc row + length ls ≡ row + length (l ∷ ls) = omega arith in
    subst (λ r. Within braces r rest) same (row_from rest braces (suc row) hs here more)

-- a row within the limits is short
pub row_limits : {ls : List Lexeme} (rest : List Lexeme) (braces : ℕ) → AllPlain ls
    → KeepLimits braces 0 (ls ++ rest) → Within braces (length ls) rest
row_limits {ls = ls} rest braces h k = grind (arith, row_from)

pub semi_limits : (braces row : ℕ) (l : Lexeme) (rest : List Lexeme) → Is Semi l
    → KeepLimits braces row (l ∷ rest) → KeepLimits braces 0 rest
semi_limits braces row l rest e k = rw e at k.3

-- the limits after an open brace
pub open_limits : (braces row : ℕ) (l : Lexeme) (rest : List Lexeme) → Is LBrace l
    → KeepLimits braces row (l ∷ rest) → (suc braces ≤ 32) × KeepLimits (suc braces) 0 rest
open_limits braces row l rest e k = grind arith

-- the limits after a closing brace
pub close_limits : (braces row : ℕ) (l : Lexeme) (rest : List Lexeme) → Is RBrace l
    → KeepLimits (suc braces) row (l ∷ rest) → KeepLimits braces 0 rest
close_limits braces row l rest e k = grind arith

-- a row that a semicolon ends
pub line_limits : {ls : List Lexeme} (semi : Lexeme) (rest : List Lexeme) (braces : ℕ) → AllPlain ls
    → Is Semi semi → KeepLimits braces 0 (ls ++ semi ∷ rest)
    → (length ls ≤ 256) × KeepLimits braces 0 rest
line_limits {ls = ls} semi rest braces h e k = grind (arith, row_limits, semi_limits)
