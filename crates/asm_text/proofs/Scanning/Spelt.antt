-- The printed lexemes of a line are its lexemes.
use Rattle.std.proofs.Common.{◌≡◌, ℕ, ◌^◌, ◌<◌, ◌==◌, length, Bool, true, false, List, [], ◌∷◌, ◌++◌, Option}
use Rattle.std.proofs.Common.{Some, take, drop, arith, refl, sym, ap, ◌∙◌, append_assoc}
use Rattle.std.specs.List.{list_all, prefix_len}
use Rattle.std.specs.Option.{option_map}
use Rattle.std.proofs.lemmas.Bool.{and_parts, true≢false, not-true, ne_eqb, lt-ltb}
use Rattle.ws_words.specs.Digits.{is_digit, is_number}
use Rattle.asm_text.specs.declared.lexeme.Mark as marks
use Rattle.asm_text.specs.declared.lexeme.Lexeme.{Lexeme}
use Rattle.asm_text.specs.declared.lexeme.Lexeme.TheVariants.{Word, Number, Mark}
use Rattle.asm_text.specs.declared.writer.After as afters
use Rattle.asm_text.specs.declared.writer.After.TheVariants as after
use Rattle.asm_text.specs.Lexing.{lone, gap, front, Lexed, behind, lexed, scan}
use Rattle.asm_text.specs.Printed.{bytes_of, mark_bytes, text_of}
use Rattle.asm_text.specs.Printed as printed
use Rattle.asm_text.specs.Spelled.{IsLexeme, AreLexemes}
use Rattle.asm_text.proofs.Scanning.Fronts.{lexed_behind}
use Rattle.ws_words.proofs.Numbers.{one_more}
use Rattle.ws_words.specs.Letters.{is_letter, is_word_byte, is_word, starts_without}
use Rattle.ws_words.proofs.Decimals.{Digits, decimal_digits, no_letter}

-- the longest run ends where the bytes do
prefix_whole : (p : ℕ → Bool) (xs text : List ℕ) → list_all p xs ≡ true → starts_without p text ≡ true
    → prefix_len p (xs ++ text) ≡ length xs
prefix_whole p (x ∷ xs) text h k =
    let parts = and_parts (p x) (list_all p xs) h in
    rw (parts.0, prefix_whole p xs text parts.1 k) (one_more (length xs))
prefix_whole p [] text h k = grind (arith, not-true)

take_front : (xs ys : List ℕ) → take (length xs) (xs ++ ys) ≡ xs
take_front [] ys = refl
take_front (x ∷ xs) ys = ap (λ l. x ∷ l) (take_front xs ys)

drop_front : (xs ys : List ℕ) → drop (length xs) (xs ++ ys) ≡ ys
drop_front [] ys = refl
drop_front (x ∷ xs) ys = drop_front xs ys

-- a byte that passes a test isn't one that doesn't
pub other : (p : ℕ → Bool) (b n : ℕ) → p b ≡ true → p n ≡ false → (b == n) ≡ false
other p b n h k = ne_eqb b n (λ e. true≢false (sym h ∙ ap p e ∙ k))

word_front_is : (w text : List ℕ) → is_word w ≡ true → starts_without is_word_byte text ≡ true
    → front (w ++ text) ≡ Some (lone (Word w) (length w))
unfolding front
word_front_is [] text h k = absurd (true≢false (sym h))
word_front_is (b ∷ w) text h k =
    let parts = and_parts (is_letter b) (list_all is_word_byte w) h in
    rw (
      other is_letter b 32 parts.0 refl,
      other is_letter b 9 parts.0 refl,
      other is_letter b 35 parts.0 refl,
      parts.0,
      prefix_whole is_word_byte w text parts.1 k,
      one_more (length w),
      take_front w text,
    )

no_digit : (text : List ℕ) → starts_without is_word_byte text ≡ true → starts_without is_digit text ≡ true
no_digit text h = grind arith

digits_front : (n : ℕ) (ds text : List ℕ) → Digits n ds → n < 2 ^ 64 → starts_without is_word_byte text ≡ true
    → front (ds ++ text) ≡ Some (lone (Number n) (length ds))
unfolding front
digits_front n [] text d h k = absurd (true≢false (sym d.digits))
digits_front n (b ∷ ds) text d h k =
    let parts = and_parts (is_digit b) (list_all is_digit ds) d.digits in
    rw (
      other is_digit b 32 parts.0 refl,
      other is_digit b 9 parts.0 refl,
      other is_digit b 35 parts.0 refl,
      no_letter b parts.0,
      parts.0,
      prefix_whole is_digit ds text parts.1 (no_digit text k),
      one_more (length ds),
      take_front ds text,
      ← d.value,
      lt-ltb n (2 ^ 64) h,
    )

mark_front : (m : marks.Mark) (text : List ℕ)
    → front (mark_bytes m ++ text) ≡ Some (lone (Mark m) (length (mark_bytes m)))
unfolding front
mark_front m text = grind arith

-- what a lexeme needs to end where it does
abbrev Ends : Lexeme → List ℕ → Type 0
Ends (Word w) text = starts_without is_word_byte text ≡ true
Ends (Number n) text = starts_without is_word_byte text ≡ true
Ends (Mark m) text = Unit {0}

lexeme_front : (l : Lexeme) (text : List ℕ) → IsLexeme l → Ends l text
    → front (bytes_of l ++ text) ≡ Some (lone l (length (bytes_of l)))
lexeme_front l text h k = grind (arith, word_front_is, digits_front, decimal_digits, mark_front)

some_digit : (ds : List ℕ) → is_number ds ≡ true → 0 < length ds
some_digit ds h = grind arith

some_letter : (w : List ℕ) → is_word w ≡ true → 0 < length w
some_letter w h = grind arith

some_mark : (m : marks.Mark) → 0 < length (mark_bytes m)
some_mark m = grind arith

some_bytes : (l : Lexeme) → IsLexeme l → 0 < length (bytes_of l)
some_bytes l h = grind (arith, some_letter, some_digit, decimal_digits, some_mark)

same_behind : (l : Lexeme) (n : ℕ) (more : Option Lexed)
    → option_map (behind (lone l n)) more ≡ option_map (behind (lone l 0)) more
same_behind l n more = grind arith

lexed_lexeme : (l : Lexeme) (text : List ℕ) → IsLexeme l → Ends l text
    → lexed (bytes_of l ++ text) ≡ option_map (behind (lone l 0)) (lexed text)
lexed_lexeme l text h k = grind (
  arith,
  lexed_behind,
  lexeme_front l text h k,
  some_bytes l h,
  drop_front
      (bytes_of l) text,
  same_behind l (length (bytes_of l)) (lexed text),
)

gap_behind : (more : Option Lexed) → option_map (behind (gap 1)) more ≡ more
gap_behind more = grind arith

space_front : (text : List ℕ) → front (32 ∷ text) ≡ Some (gap 1)
unfolding front
space_front text = refl

lexed_gap : (joined : Bool) (text : List ℕ) → lexed (printed.gap joined ++ text) ≡ lexed text
lexed_gap true text = refl
lexed_gap false text =
    lexed_behind (32 ∷ text) (gap 1) (space_front text) (omega arith) ∙ gap_behind (lexed text)

close_mark : (m : marks.Mark) (text : List ℕ)
    → starts_without is_word_byte (printed.gap (printed.is_close m) ++ mark_bytes m ++ text) ≡ true
close_mark m text = grind arith

-- behind a word or a number no byte of a word stands
loose : (ls : List Lexeme) → starts_without is_word_byte (text_of after.Loose ls) ≡ true
unfolding text_of
loose (Mark m ∷ ls) = close_mark m (text_of (printed.behind (Mark m)) ls)
loose ls = refl

ends : (l : Lexeme) (ls : List Lexeme) → Ends l (text_of (printed.behind l) ls)
ends l ls = grind (arith, loose)

lexed_nil : lexed [] ≡ Some (record { items = []; wide = false })
unfolding lexed scan
lexed_nil = refl

-- The lexemes of printed lexemes are those.
pub lexed_text : (a : afters.After) (ls : List Lexeme) → AreLexemes ls
    → lexed (text_of a ls) ≡ Some (record { items = ls; wide = false })
unfolding text_of
lexed_text a [] h = lexed_nil
lexed_text a (l ∷ ls) h =
    grind (arith, append_assoc, lexed_gap, lexed_lexeme, ends, lexed_text (printed.behind l) ls h.1)
