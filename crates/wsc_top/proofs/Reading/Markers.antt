-- Texts in which no marker of a section begins, and what stands before and behind one; words as items.
use Rattle.std.specs.Prelude.{◌≡◌, ℕ, ◌^◌, ◌<◌, ◌==◌, Bool, true, false, not, ◌&&◌, IsTrue, List, [], ◌∷◌}
use Rattle.std.specs.Prelude.{◌++◌, codes, decimal, flat_map, refl}
use Rattle.std.proofs.Common.{sym, ap, ◌∙◌, append_assoc, append-nil, arith}
use Rattle.std.specs.List.{list_all, AllByRecursion}
use Rattle.std.proofs.lemmas.Bool.{and_parts, and_from, not-true, true≢false}
use Rattle.ws_words.specs.Outside.{IsMachineWord}
use Rattle.ws_words.specs.Digits.{is_digit, is_number}
use Rattle.src_ast.specs.declared.lexeme.Place.{Place}
use Rattle.src_ast.specs.Lexemes.{after, is_blank}
use Rattle.asm_text.proofs.Scanning.Spelt.{other}
use Rattle.asm_read.specs.Sections.{ends_line, is_line, after_line, front_of, rest_of, program_of, input_of}
use Rattle.asm_read.specs.Sections.{IsItem, IsWordText, stop, next, InputWords}
use Rattle.run_text.specs.Texts.{word_line}
use Rattle.ws_words.specs.Letters.{starts_without}
use Rattle.asm_text.proofs.Printing.Shown.{not_percent}
use Rattle.ws_words.proofs.Decimals.{decimal_digits}

-- no byte of a text is `%`, and where it ends a line begins
abbrev pub is_plain : Bool → List ℕ → Bool
is_plain at_line [] = at_line
is_plain at_line (b ∷ bytes) = not (b == 37) && is_plain (b == 10) bytes

pub plain_line : (at_line : Bool) (front : List ℕ) → list_all not_percent (front ++ codes "\n") ≡ true
    → is_plain at_line (front ++ codes "\n") ≡ true
plain_line at_line [] h = refl
plain_line at_line (b ∷ front) h =
    let parts = and_parts (not_percent b) (list_all not_percent (front ++ codes "\n")) h in
    grind (arith, and_from, not_percent, plain_line (b == 10) front parts.1)

plain_join : (at_line : Bool) (xs ys : List ℕ) → is_plain at_line xs ≡ true → is_plain true ys ≡ true
    → is_plain at_line (xs ++ ys) ≡ true
plain_join at_line (b ∷ xs) ys h k =
    let parts = and_parts (not_percent b) (is_plain (b == 10) xs) h in
    and_from (not_percent b) (is_plain (b == 10) (xs ++ ys)) parts.0 (plain_join (b == 10) xs ys parts.1 k)
plain_join at_line [] ys h k = grind (arith, true≢false)

-- a plain text, and what begins with a marker or is nothing
module _ (name : List ℕ) where
  abbrev marker : List ℕ
  marker = 37 ∷ name

  front_step : (at_line : Bool) (b : ℕ) (bytes : List ℕ) → (b == 37) ≡ false
      → front_of marker at_line (b ∷ bytes) ≡ b ∷ front_of marker (b == 10) bytes
  front_step at_line b bytes e = grind arith

  rest_step : (at_line : Bool) (b : ℕ) (bytes : List ℕ) → (b == 37) ≡ false
      → rest_of marker at_line (b ∷ bytes) ≡ rest_of marker (b == 10) bytes
  rest_step at_line b bytes e = grind arith

  pub front_end : (text : List ℕ) → is_line marker text ≡ true → front_of marker true text ≡ []
  front_end text m = grind arith

  pub rest_end : (text : List ℕ) → is_line marker text ≡ true → rest_of marker true text ≡ text
  rest_end text m = grind arith

  pub front_plain : (rest : List ℕ) → front_of marker true rest ≡ [] → (at_line : Bool) (text : List ℕ)
      → is_plain at_line text ≡ true → front_of marker at_line (text ++ rest) ≡ text
  front_plain rest e at_line [] h = ap (λ t. front_of marker t rest) h ∙ e
  front_plain rest e at_line (b ∷ bytes) h =
      let parts = and_parts (not_percent b) (is_plain (b == 10) bytes) h in
      grind (arith, front_step, not-true, front_plain rest e (b == 10) bytes parts.1)

  pub rest_plain : (rest : List ℕ) → rest_of marker true rest ≡ rest → (at_line : Bool) (text : List ℕ)
      → is_plain at_line text ≡ true → rest_of marker at_line (text ++ rest) ≡ rest
  rest_plain rest e at_line [] h = ap (λ t. rest_of marker t rest) h ∙ e
  rest_plain rest e at_line (b ∷ bytes) h =
      let parts = and_parts (not_percent b) (is_plain (b == 10) bytes) h in
      grind (arith, rest_step, not-true, rest_plain rest e (b == 10) bytes parts.1)

pub line_ends : (text : List ℕ) → ends_line (10 ∷ text) ≡ true
line_ends text = grind arith

-- a plain program section, by itself and in front of an input section
module _ (program : List ℕ) (plain : is_plain true program ≡ true) where
  pub lone_program : program_of program ≡ program
  lone_program = ap program_of (sym (append-nil program)) ∙ front_plain (codes "input") [] refl true program
      plain

  pub no_input : input_of program ≡ []
  no_input = ap input_of (sym (append-nil program))
      ∙ ap after_line (rest_plain (codes "input") [] refl true program plain)

  module _ (input : List ℕ) where
    marked : is_line (codes "%input") (codes "%input\n" ++ input) ≡ true
    marked = line_ends input

    pub program_is : program_of (program ++ codes "%input\n" ++ input) ≡ program
    program_is = grind (arith, append_assoc, front_plain, front_end, marked)

    pub input_is : input_of (program ++ codes "%input\n" ++ input) ≡ input
    input_is = grind (arith, append_assoc, rest_plain, rest_end, marked)

-- words in decimal are items

all_by : (p q : ℕ → Bool) → ((b : ℕ) → p b ≡ true → q b ≡ true) → (bytes : List ℕ) → list_all p bytes ≡ true
    → list_all q bytes ≡ true
all_by p q known [] h = refl
all_by p q known (b ∷ bytes) h = let parts = and_parts (p b) (list_all p bytes) h in
    grind (arith, and_from, all_by p q known bytes parts.1)

abbrev is_dense : ℕ → Bool
is_dense b = not (is_blank b)

digit_dense : (b : ℕ) → is_digit b ≡ true → is_dense b ≡ true
digit_dense b h = grind (arith, other)

number_item : (bytes rest : List ℕ) → is_number bytes ≡ true → IsTrue (starts_without is_dense rest)
    → IsItem bytes rest
number_item bytes rest h s = grind (arith, true≢false, all_by, digit_dense)

module _ (w : ℕ) (is : w < 2 ^ 64) (rest : List ℕ) (blank : IsTrue (starts_without is_dense rest)) where
  pub word_item : IsItem (decimal w) rest
  word_item = number_item (decimal w) rest (decimal_digits w is).digits blank

  pub word_text : IsWordText (decimal w) w
  word_text = let d = decimal_digits w is in (d.digits, sym d.value, is)

-- words, a line each

digit_other : (b : ℕ) → is_digit b ≡ true → not_percent b ≡ true
digit_other b h = rw (other is_digit b 37 h refl) refl

digits_line : (bytes : List ℕ) → is_number bytes ≡ true → list_all not_percent (bytes ++ codes "\n") ≡ true
digits_line [] h = refl
digits_line (b ∷ bytes) h = go (b ∷ bytes) h
  where
    go : (ds : List ℕ) → list_all is_digit ds ≡ true → list_all not_percent (ds ++ codes "\n") ≡ true
    go [] k = refl
    go (d ∷ ds) k = let parts = and_parts (is_digit d) (list_all is_digit ds) k in
        grind (arith, and_from, not_percent, digit_other, go ds parts.1)

pub plain_words : (ws : List ℕ) → AllByRecursion IsMachineWord ws
    → is_plain true (flat_map word_line ws) ≡ true
plain_words [] h = refl
plain_words (w ∷ ws) h =
    grind (arith, plain_join, plain_line, digits_line, decimal_digits, plain_words ws h.1)

pub word_lines : (at : Place) (blanks : List ℕ) (ws : List ℕ) → list_all is_blank blanks ≡ true
    → AllByRecursion IsMachineWord ws → InputWords at (blanks ++ flat_map word_line ws) ws
word_lines at blanks [] b h = record { place = after at blanks; items = stop blanks refl b refl refl }
word_lines at blanks (w ∷ ws) b h =
    let further = codes "\n" ++ flat_map word_line ws in
    let more = word_lines (after (after at blanks) (decimal w)) (codes "\n") ws refl h.1 in
    record {
      place = more.place;
      items = next w blanks (decimal w) further (grind (arith, append_assoc)) b (word_item w h.0 further refl)
          (word_text w h.0 further refl) more.items;
    }
