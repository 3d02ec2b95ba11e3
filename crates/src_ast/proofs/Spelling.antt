-- When what follows a lexeme can't be part of it.
use Rattle.std.proofs.Common.{◌≡◌, ℕ, ◌^◌, ◌<◌, ◌≤◌, Bool, true, false, ◌||◌, ◌==◌, IsTrue, List, ◌∷◌, ◌++◌}
use Rattle.std.proofs.Common.{length, refl, decimal, arith}
use Rattle.std.proofs.lemmas.Bool.{and_parts, or_parts, or_from, not-true, not_from_false, true≢false, ne_eqb}
use Rattle.ws_words.specs.Digits.{is_digit, is_number}
use Rattle.src_ast.specs.declared.lexeme.Shape.TheVariants as shape
use Rattle.src_ast.specs.declared.lexeme.Mark.{Mark}
use Rattle.src_ast.specs.Lexemes.{spelling, IsLongest, Spells, word, number, mark}
use Rattle.ws_words.specs.Letters.{is_word_byte, is_word, starts_without}
use Rattle.ws_words.proofs.Decimals.{decimal_digits}

-- the second bytes of marks: `<`, `=` and `>`
abbrev pub is_second : ℕ → Bool
is_second b = (b == 60) || (b == 61) || (b == 62)

-- no mark and no word goes on into this text
pub record Breaks (text : List ℕ) : Type 0 where
  pub word : IsTrue (starts_without is_word_byte text)
  pub mark : IsTrue (starts_without is_second text)

-- no mark has three bytes
at_most_two : (m : Mark) → length (spelling m) ≤ 2
at_most_two m = grind arith

clash : (b c b' d : ℕ) (following more : List ℕ) → is_second c ≡ false → is_second d ≡ true
    → b ∷ c ∷ following ≡ b' ∷ d ∷ more → ⊥
clash b c b' d following more h k e = grind (arith, true≢false, is_second)

-- a mark of two bytes has one of three as its second
second : (other : Mark) (b c : ℕ) (following more : List ℕ) → is_second c ≡ false
    → b ∷ c ∷ following ≡ spelling other ++ more → length (spelling other) ≤ 1
second other b c following more h e = grind (arith, clash)

one_byte : (other : Mark) (b : ℕ) (text more : List ℕ) → IsTrue (starts_without is_second text)
    → b ∷ text ≡ spelling other ++ more → length (spelling other) ≤ 1
one_byte other b text more h e = grind (arith, second, not-true, is_second)

longest : (m : Mark) (text : List ℕ) → IsTrue (starts_without is_second text)
    → IsLongest (spelling m) (spelling m ++ text)
longest m text h = grind (arith, at_most_two, one_byte)

-- a mark before what makes it no longer
pub spells_mark : (m : Mark) (text : List ℕ) → IsTrue (starts_without is_second text)
    → Spells (shape.Mark m) (spelling m) text
spells_mark m text h = mark m refl (longest m text h)

-- a word before what makes it no longer
pub spells_word : (w text : List ℕ) → IsTrue (is_word w) → IsTrue (starts_without is_word_byte text)
    → Spells (shape.Word w) w text
spells_word w text h k = word h k

no_digit : (text : List ℕ) → IsTrue (starts_without is_word_byte text) → IsTrue (starts_without is_digit text)
no_digit text h = grind (arith, not_from_false, or_parts, not-true)

-- a number in decimal before what makes it no longer
pub spells_number : (n : ℕ) (text : List ℕ) → n < 2 ^ 64 → IsTrue (starts_without is_word_byte text)
    → Spells (shape.Number n) (decimal n) text
spells_number n text h k =
    let d = decimal_digits n h in
    number n d.digits (no_digit text k) d.value h

-- the first bytes of words and numbers go on no mark
no_second : (p : ℕ → Bool) → p 60 ≡ false → p 61 ≡ false → p 62 ≡ false → (b : ℕ) → p b ≡ true
    → is_second b ≡ false
no_second p k l m b h = grind (arith, ne_eqb, true≢false, or_from)

-- a word makes no mark longer
pub word_starts : (w text : List ℕ) → IsTrue (is_word w) → IsTrue (starts_without is_second (w ++ text))
word_starts v0 v1 v2 = grind (arith, true≢false, not_from_false, no_second, and_parts)

number_starts : (ds text : List ℕ) → is_number ds ≡ true → IsTrue (starts_without is_second (ds ++ text))
number_starts ds text h = grind (arith, true≢false, not_from_false, is_second, no_second, and_parts)

-- nor does a number
pub decimal_starts : (n : ℕ) (text : List ℕ) → n < 2 ^ 64
    → IsTrue (starts_without is_second (decimal n ++ text))
decimal_starts n text h = number_starts (decimal n) text (decimal_digits n h).digits
