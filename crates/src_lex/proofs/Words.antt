-- Words and numbers as the longest runs of their bytes; bytes that begin nothing.
use Rattle.std.specs.Prelude.{◌≡◌, ℕ, suc, ◌^◌, ◌≤◌, ◌<◌, ◌==◌, length, Bool, true, false, IsTrue, List, []}
use Rattle.std.specs.Prelude.{◌∷◌, ◌++◌, refl}
use Rattle.std.specs.List.{list_all, prefix_len}
use Rattle.std.proofs.Common.{take, drop, arith, sym, ap, ◌∙◌, get_or, append_assoc}
use Rattle.std.proofs.lemmas.Bool.{or_parts, and_from, and_parts}
use Rattle.std.proofs.lemmas.List.{take-append-drop, length-take-le}
use Rattle.std.proofs.lemmas.List.Sums.{prefix_len-le-length}
use Rattle.ws_words.specs.Digits.{is_digit, is_number, value_of}
use Rattle.src_ast.specs.declared.lexeme.Mark.{Mark}
use Rattle.src_ast.specs.declared.lexeme.Shape.TheVariants as shape
use Rattle.src_ast.specs.declared.fault.RefusalKind.TheVariants.{Byte, Wide, Limit}
use Rattle.src_ast.specs.declared.fault.Quantity.TheVariants.{NameBytes}
use Rattle.src_ast.specs.Lexemes.{is_blank, spelling, Spells}
use Rattle.src_ast.specs.LexFaults.{Wrong}
use Rattle.src_lex.specs.Reads.{Reads, begins_gap}
use Rattle.src_lex.proofs.Runs.{number_from}
use Rattle.ws_words.specs.Letters.{is_letter, is_word_byte, is_word, starts_without}
use Rattle.ws_words.proofs.Runs.{prefix_all, prefix_stops}
use Rattle.ws_words.proofs.Decimals.{letter_byte}

-- a first byte that passes a test, and the longest run of bytes that pass another
pub record RunAt (first inner : ℕ → Bool) (count : ℕ) (text : List ℕ) : Type 0 where
  pub within : count ≤ length text
  pub some : 0 < count
  pub begins : IsTrue (first (get_or (take count text) 0 0))
  pub all : IsTrue (list_all inner (take count text))
  pub stops : IsTrue (starts_without inner (drop count text))

pub run_at : (first inner : ℕ → Bool) (text : List ℕ) → ((b : ℕ) → first b ≡ true → inner b ≡ true)
    → 0 < length text → first (get_or text 0 0) ≡ true
    → RunAt first inner (prefix_len inner text) text
run_at first inner [] up h k = absurd (omega arith)
run_at first inner (b ∷ text) up h k =
    let n = prefix_len inner text in
    let e : prefix_len inner (b ∷ text) ≡ suc n = rw (up b k) (omega arith) in
    let made : RunAt first inner (suc n) (b ∷ text) = record {
      within = let h = prefix_len-le-length inner text in omega arith;
      some = omega arith;
      begins = k;
      all = rw (up b k) (prefix_all inner text);
      stops = prefix_stops inner text;
    } in rw e made

pub word_run : (text : List ℕ) → 0 < length text → is_letter (get_or text 0 0) ≡ true
    → RunAt is_letter is_word_byte (prefix_len is_word_byte text) text
word_run text h k = run_at is_letter is_word_byte text letter_byte h k

pub number_run : (text : List ℕ) → 0 < length text → is_digit (get_or text 0 0) ≡ true
    → RunAt is_digit is_digit (prefix_len is_digit text) text
number_run text h k = run_at is_digit is_digit text (λ b e. e) h k

taken_length : {first inner : ℕ → Bool} {n : ℕ} {text : List ℕ} → RunAt first inner n text
    → length (take n text) ≡ n
taken_length {n = n} {text = text} r = length-take-le n text r.within

word_is : (xs : List ℕ) → 0 < length xs → is_letter (get_or xs 0 0) ≡ true → list_all is_word_byte xs ≡ true
    → is_word xs ≡ true
word_is xs h k a = grind (arith, and_from, and_parts)

run_word : {n : ℕ} {text : List ℕ} → RunAt is_letter is_word_byte n text → is_word (take n text) ≡ true
run_word r = grind (arith, word_is, taken_length, r.begins)

run_number : {n : ℕ} {text : List ℕ} → RunAt is_digit is_digit n text → is_number (take n text) ≡ true
run_number r = grind (arith, number_from, taken_length)

-- a run of at most so many bytes from a letter on is a word
pub word_read : (text : List ℕ) (n : ℕ) (name : List ℕ) → 0 < length text → is_letter (get_or text 0 0) ≡ true
    → n ≡ prefix_len is_word_byte text → name ≡ take n text
    → Reads (shape.Word name) n text
word_read text n name h k e t =
    let made : RunAt is_letter is_word_byte n text = rw e (word_run text h k) in
    rw t (record { within = made.within; some = made.some; spells = Spells.word (run_word made) made.stops })

-- a longer one is beyond the limit
pub word_long : (text : List ℕ) (n : ℕ) → 0 < length text → is_letter (get_or text 0 0) ≡ true
    → n ≡ prefix_len is_word_byte text → 64 < n
    → (open' row : ℕ) → Wrong open' row text (Limit NameBytes)
word_long text n h k e l open' row =
    let made : RunAt is_letter is_word_byte n text = rw e (word_run text h k) in
    Wrong.long (take n text) (drop n text) (sym (take-append-drop n text)) (run_word made) made.stops
    (let q = taken_length made in omega arith)

-- a run of digits whose value is a word is a number
pub number_read : (text : List ℕ) (n v : ℕ) → 0 < length text → is_digit (get_or text 0 0) ≡ true
    → n ≡ prefix_len is_digit text → value_of (take n text) ≡ v → v < 2 ^ 64
    → Reads (shape.Number v) n text
number_read text n v h k e t l =
    let made : RunAt is_digit is_digit n text = rw e (number_run text h k) in
    record {
      within = made.within;
      some = made.some;
      spells = Spells.number v (run_number made) made.stops
          (sym t) l;
    }

-- one of a greater value is wide
pub number_wide : (text : List ℕ) (n : ℕ) → 0 < length text → is_digit (get_or text 0 0) ≡ true
    → n ≡ prefix_len is_digit text → (is_number (take n text) ≡ true → 2 ^ 64 ≤ value_of (take n text))
    → (open' row : ℕ) → Wrong open' row text Wide
number_wide text n h k e l open' row =
    let made : RunAt is_digit is_digit n text = rw e (number_run text h k) in
    Wrong.wide (take n text) (drop n text) (sym (take-append-drop n text)) (run_number made) made.stops
    (l (run_number made))

-- a byte that begins no gap, word, number or mark is wrong
pub byte_wrong : (text : List ℕ) → 0 < length text → begins_gap (get_or text 0 0) ≡ false
    → is_letter (get_or text 0 0) ≡ false → is_digit (get_or text 0 0) ≡ false
    → ((m : Mark) (more : List ℕ) → text ≡ spelling m ++ more → ⊥) → (open' row : ℕ)
    → Wrong open' row text Byte
byte_wrong [] h g l d m open' row = absurd (omega arith)
byte_wrong (b ∷ text) h g l d m open' row =
    let parts = or_parts (is_blank b) (b == 35) g in
    Wrong.byte b text refl (record {
      blank = parts.0;
      comment = parts.1;
      letter = l;
      digit = d;
      mark = λ k more e. m k (more ++ text) (ap (λ x. x ++ text) e ∙ append_assoc (spelling k) more text);
    })

pub ruleset words = (word_read, word_long, number_read, number_wide, byte_wrong)
