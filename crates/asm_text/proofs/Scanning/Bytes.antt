-- What holds of the bytes of words and marks holds of the bytes of printed lexemes.
use Rattle.std.proofs.Common.{◌≡◌, ℕ, ◌||◌, Bool, true, List, [], ◌∷◌, ◌++◌, refl, ap, ◌∙◌, arith}
use Rattle.std.specs.List.{list_all, flat_map}
use Rattle.std.proofs.lemmas.Bool.{and_parts, and_from}
use Rattle.std.proofs.lemmas.List.Folds.{list_all-append}
use Rattle.ws_words.specs.Digits.{is_digit, is_number}
use Rattle.asm_text.specs.declared.lexeme.Mark as marks
use Rattle.asm_text.specs.declared.lexeme.Lexeme.{Lexeme}
use Rattle.asm_text.specs.declared.writer.After as afters
use Rattle.asm_text.specs.Printed.{gap, bytes_of, mark_bytes, behind, text_of, line_text}
use Rattle.asm_text.specs.Spelled.{IsLexeme, AreLexemes, AllLexemes}
use Rattle.ws_words.proofs.Bools.{or_true}
use Rattle.ws_words.specs.Letters.{is_letter, is_word_byte, is_word}
use Rattle.ws_words.proofs.Decimals.{decimal_digits, letter_byte}

digit_byte : (b : ℕ) → is_digit b ≡ true → is_word_byte b ≡ true
digit_byte b h = ap (λ t. is_letter b || t) h ∙ or_true (is_letter b)

module _ (q : ℕ → Bool) (word : (b : ℕ) → is_word_byte b ≡ true → q b ≡ true) (mark : (m : marks.Mark)
    → list_all q (mark_bytes m) ≡ true) (space : q 32 ≡ true) where
  each : (p : ℕ → Bool) → ((b : ℕ) → p b ≡ true → is_word_byte b ≡ true) → (xs : List ℕ)
      → list_all p xs ≡ true → list_all q xs ≡ true
  each p known [] h = refl
  each p known (x ∷ xs) h = let parts = and_parts (p x) (list_all p xs) h in
      grind (arith, and_from, each p known xs parts.1)

  word_all : (w : List ℕ) → is_word w ≡ true → list_all q w ≡ true
  word_all w h = grind (arith, and_parts, and_from, letter_byte, each)

  number_all : (ds : List ℕ) → is_number ds ≡ true → list_all q ds ≡ true
  number_all ds h = grind (arith, each, digit_byte)

  bytes_all : (l : Lexeme) → IsLexeme l → list_all q (bytes_of l) ≡ true
  bytes_all l h = grind (arith, word_all, number_all, decimal_digits)

  gap_all : (joined : Bool) → list_all q (gap joined) ≡ true
  gap_all joined = grind arith

  both : (xs ys : List ℕ) → list_all q xs ≡ true → list_all q ys ≡ true → list_all q (xs ++ ys) ≡ true
  both xs ys h k = list_all-append q xs ys ∙ and_from (list_all q xs) (list_all q ys) h k

  pub text_all : (a : afters.After) (ls : List Lexeme) → AreLexemes ls → list_all q (text_of a ls) ≡ true
  unfolding text_of
  text_all a [] h = refl
  text_all a (l ∷ ls) h = grind (arith, both, gap_all, bytes_all, text_all (behind l) ls h.1)

  pub lines_all : q 10 ≡ true → (lines : List (List Lexeme)) → AllLexemes lines
      → list_all q (flat_map line_text lines) ≡ true
  lines_all feed [] h = refl
  lines_all feed (l ∷ lines) h = grind (arith, both, text_all, and_from, lines_all feed lines h.1)
