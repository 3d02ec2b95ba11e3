-- The lexemes of a text are words, and numbers of 64 bits.
use Rattle.std.proofs.Common.{◌≡◌, ℕ, zero, suc, ◌-◌, ◌^◌, ◌<◌, ◌==◌, cond, Bool, true, false, IfSome, List}
use Rattle.std.proofs.Common.{[], ◌∷◌, Option, take, arith}
use Rattle.std.specs.List.{AllByRecursion, prefix_len}
use Rattle.std.specs.Option.{option_map, option_and_then}
use Rattle.std.proofs.lemmas.Bool.{or_left, and_from}
use Rattle.ws_words.specs.Digits.{is_digit}
use Rattle.asm_text.specs.declared.lexeme.Front.{Front}
use Rattle.asm_text.specs.declared.lexeme.Lexeme.{Lexeme}
use Rattle.asm_text.specs.declared.lexeme.Lexeme.TheVariants.{Word, Number, Mark}
use Rattle.asm_text.specs.Lexing.{is_blank, lone, number_of, mark_of, front, Lexed, found_items, behind, scan}
use Rattle.asm_text.specs.Lexing.{lexed}
use Rattle.ws_words.proofs.Numbers.{one_more}
use Rattle.ws_words.specs.Letters.{is_letter, is_word_byte, is_word}
use Rattle.ws_words.proofs.Runs.{prefix_all}

abbrev pub LexemeFits : Lexeme → Type 0
LexemeFits (Word w) = is_word w ≡ true
LexemeFits (Number n) = n < 2 ^ 64
LexemeFits (Mark m) = Unit {0}

abbrev pub AllFit : List Lexeme → Type 0
AllFit ls = AllByRecursion LexemeFits ls

pub either : {A : Type 0} (P : A → Type 0) (b : Bool) (x y : Option A) → (b ≡ true → IfSome x P)
    → (b ≡ false → IfSome y P) → IfSome (cond b x y) P
either P b x y h k = grind arith

abbrev FrontFits : Front → Type 0
FrontFits f = AllFit (found_items f.found)

word_run : (b : ℕ) (text : List ℕ) → is_letter b ≡ true
    → is_word (take (prefix_len is_word_byte (b ∷ text)) (b ∷ text)) ≡ true
word_run b text h = grind (
  arith,
  or_left (is_letter b) (is_digit b) h,
  one_more (prefix_len is_word_byte
      text),
  and_from (is_letter b) _ h (prefix_all is_word_byte text),
  prefix_all is_word_byte text,
)

number_fits : (v n : ℕ) → FrontFits (number_of v n)
number_fits v n = grind arith

mark_fits : (b : ℕ) → IfSome (option_map (λ m. lone (Mark m) 1) (mark_of b)) FrontFits
mark_fits b = grind arith

front_fits : (text : List ℕ) → IfSome (front text) FrontFits
unfolding front
front_fits [] = tt
front_fits (b ∷ text) = either FrontFits (is_blank b) _ _ (λ _. tt) (λ _. either FrontFits (b == 35) _ _ (λ _.
    tt) (grind (arith, either, word_run, number_fits, mark_fits)))

abbrev LexedFits : Lexed → Type 0
LexedFits l = AllFit l.items

step : (o : Option Front) (more : Front → Option Lexed) → IfSome o FrontFits
    → ((f : Front) → IfSome (more f) LexedFits)
    → IfSome (option_and_then (λ f. option_map (behind f) (more f)) o) LexedFits
step o more h k = grind arith

scan_fits : (text : List ℕ) (skip : ℕ) → IfSome (scan text skip) LexedFits
unfolding scan
scan_fits [] skip = tt
scan_fits (b ∷ text) (suc skip) = scan_fits text skip
scan_fits (b ∷ text) zero = step (front (b ∷ text)) (λ f. scan text (f.size - 1)) (front_fits (b ∷ text)) (λ
    f. scan_fits text (f.size - 1))

pub lexed_fits : (text : List ℕ) → IfSome (lexed text) (λ l. AllFit l.items)
unfolding lexed
lexed_fits text = scan_fits text 0
