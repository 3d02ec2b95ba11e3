-- What stands in front of a text is one: the longest gap, the longest run of bytes, the longest lexeme.
use Rattle.std.specs.Prelude.{◌≡◌, ℕ, ◌==◌, not, cond, Bool, true, false, ◌||◌, ◌&&◌, List, [], ◌∷◌}
use Rattle.std.specs.Prelude.{◌++◌, refl}
use Rattle.std.specs.List.{list_all}
use Rattle.std.proofs.Common.{arith, sym, ap, ◌∙◌}
use Rattle.std.proofs.lemmas.Bool.{both_ways, and_parts, not-true, eqb-true, or_left, and_from}
use Rattle.ws_words.specs.Digits.{is_digit, is_number, value_of}
use Rattle.src_ast.specs.declared.lexeme.Mark.{Mark}
use Rattle.src_ast.specs.declared.lexeme.Shape.{Shape}
use Rattle.src_ast.specs.declared.lexeme.Shape.TheVariants as shape
use Rattle.src_ast.specs.Lexemes.{is_blank, is_gap, is_comment, spelling, Spells}
use Rattle.src_lex.specs.Reads.{begins_gap, ends_gap}
use Rattle.src_lex.proofs.Marks.{one_mark}
use Rattle.src_lex.proofs.Runs.{number_all}
use Rattle.ws_words.specs.Letters.{is_letter, is_word_byte, is_word, starts_without}
use Rattle.ws_words.proofs.Decimals.{no_letter}

-- two ways to take a text apart that are one
pub record Same (a b c d : List ℕ) : Type 0 where
  pub front : a ≡ c
  pub back : b ≡ d

same_more : (x y : ℕ) (a b c d : List ℕ) → x ≡ y → Same a b c d → Same (x ∷ a) b (y ∷ c) d
same_more x y a b c d e s = let f = s.front in record { front = cc; back = s.back }

-- a comment that ends has its line feed
comment_ends : (g r : List ℕ) → is_comment g ≡ true → list_all (λ c. not (c == 10)) (g ++ r) ≡ true → ⊥
comment_ends [] r h k = both_ways false refl h
comment_ends (b ∷ g) r h k =
    (elim (b == 10) as (λ t. cond t (is_gap g) (is_comment g) ≡ true
    → (not t && list_all (λ c. not (c == 10)) (g ++ r)) ≡ true → ⊥) [
      | true ↦ λ h k. both_ways false refl k
      | false ↦ λ h k. comment_ends g r h k
    ]) h k

both_kinds : (blank hash gap comment open' : Bool) → (hash ≡ true → blank ≡ false)
    → (comment ≡ true → open' ≡ true → ⊥)
    → cond blank gap (hash && comment) ≡ true → ((hash && open') || not (blank || hash)) ≡ true → ⊥
both_kinds blank hash gap comment open' n f h k = grind (arith, both_ways)

hash_no_blank : (b : ℕ) → (b == 35) ≡ true → is_blank b ≡ false
hash_no_blank b h = rw (eqb-true b 35 h) refl

-- after a whole gap no gap begins
no_gap_more : (b : ℕ) (g r : List ℕ) → is_gap (b ∷ g) ≡ true → ends_gap (b ∷ (g ++ r)) ≡ true → ⊥
no_gap_more b g r h k = grind (arith, both_kinds, hash_no_blank, comment_ends)

tails : (b d : ℕ) (x y : List ℕ) → b ∷ x ≡ d ∷ y → (b ≡ d) × (x ≡ y)
tails b d x y e = (cc, cc)

mutual
  -- the longest gap in front of a text is one
  pub gap_same : (a c b d : List ℕ) → is_gap a ≡ true → is_gap c ≡ true → ends_gap b ≡ true
      → ends_gap d ≡ true → a ++ b ≡ c ++ d → Same a b c d
  gap_same [] [] b d h k p q e = record { front = refl; back = e }
  gap_same [] (y ∷ c) b d h k p q e = absurd (no_gap_more y c d k (rw e at p))
  gap_same (x ∷ a) [] b d h k p q e = absurd (no_gap_more x a b h (rw (sym e) at q))
  gap_same (x ∷ a) (y ∷ c) b d h k p q e =
      let t = tails x y (a ++ b) (c ++ d) e in
      let k' : is_gap (x ∷ c) ≡ true = rw t.0 k in
      same_more x y a b c d t.0
      ((elim (is_blank x) as (λ t. cond t (is_gap a) ((x == 35) && is_comment a) ≡ true
      → cond t (is_gap c) ((x == 35) && is_comment c) ≡ true → Same a b c d) [
        | true ↦ λ h k. gap_same a c b d h k p q t.1
        | false ↦ λ h k. comment_same a c b d ((and_parts (x == 35) (is_comment a) h).1)
            ((and_parts (x == 35) (is_comment c) k).1) p q t.1
      ]) h k')

  pub comment_same : (a c b d : List ℕ) → is_comment a ≡ true → is_comment c ≡ true → ends_gap b ≡ true
      → ends_gap d ≡ true → a ++ b ≡ c ++ d → Same a b c d
  comment_same [] c b d h k p q e = absurd (both_ways false refl h)
  comment_same (x ∷ a) [] b d h k p q e = absurd (both_ways false refl k)
  comment_same (x ∷ a) (y ∷ c) b d h k p q e =
      let t = tails x y (a ++ b) (c ++ d) e in
      let k' : is_comment (x ∷ c) ≡ true = rw t.0 k in
      same_more x y a b c d t.0
      ((elim (x == 10) as (λ t. cond t (is_gap a) (is_comment a) ≡ true
      → cond t (is_gap c) (is_comment c) ≡ true → Same a b c d) [
        | true ↦ λ h k. gap_same a c b d h k p q t.1
        | false ↦ λ h k. comment_same a c b d h k p q t.1
      ]) h k')

-- the longest run of bytes that pass a test
pub run_same : (test : ℕ → Bool) (a c b d : List ℕ) → list_all test a ≡ true → list_all test c ≡ true
    → starts_without test b ≡ true → starts_without test d ≡ true → a ++ b ≡ c ++ d → Same a b c d
run_same test [] [] b d h k p q e = record { front = refl; back = e }
run_same test [] (y ∷ c) b d h k p q e =
    absurd (both_ways (test y) (not-true (test y) (rw e at p)) ((and_parts (test y) (list_all test c) k).0))
run_same test (x ∷ a) [] b d h k p q e =
    absurd (both_ways (test x) (not-true (test x) (rw (sym e) at q))
    ((and_parts (test x) (list_all test a) h).0))
run_same test (x ∷ a) (y ∷ c) b d h k p q e =
    let t = tails x y (a ++ b) (c ++ d) e in
    same_more x y a b c d t.0 (run_same test a c b d ((and_parts (test x) (list_all test a) h).1)
    ((and_parts (test y) (list_all test c) k).1) p q t.1)

-- what a byte begins: a gap, a word, a number, or a mark if anything
abbrev pub kind : ℕ → ℕ
kind b = cond (begins_gap b) 0 (cond (is_letter b) 1 (cond (is_digit b) 2 3))

-- what the first byte begins
abbrev pub head_kind : List ℕ → ℕ
head_kind [] = 0
head_kind (b ∷ bytes) = kind b

not_gap : (test : ℕ → Bool) → test 32 ≡ false → test 9 ≡ false → test 13 ≡ false → test 10 ≡ false
    → test 35 ≡ false → (b : ℕ) → test b ≡ true → begins_gap b ≡ false
not_gap test p q r s t b h = grind (arith, both_ways)

pub letter_kind : (b : ℕ) → is_letter b ≡ true → kind b ≡ 1
letter_kind b h = rw (not_gap is_letter refl refl refl refl refl b h, h) refl

pub digit_kind : (b : ℕ) → is_digit b ≡ true → kind b ≡ 2
digit_kind b h = rw (not_gap is_digit refl refl refl refl refl b h, no_letter b h, h) refl

pub mark_kind : (m : Mark) (more : List ℕ) → head_kind (spelling m ++ more) ≡ 3
mark_kind m more = grind arith

abbrev pub shape_kind : Shape → ℕ
shape_kind (shape.Word w) = 1
shape_kind (shape.Number n) = 2
shape_kind (shape.Mark m) = 3

-- a word begins with a letter
pub word_kind : (bytes rest : List ℕ) → is_word bytes ≡ true → head_kind (bytes ++ rest) ≡ 1
word_kind bytes rest h = grind (arith, both_ways, letter_kind, and_parts)

-- a number begins with a digit
pub number_kind : (bytes rest : List ℕ) → is_number bytes ≡ true → head_kind (bytes ++ rest) ≡ 2
number_kind bytes rest h = grind (arith, both_ways, digit_kind, and_parts)

-- a lexeme begins as its shape does
pub spelled_kind : (s : Shape) (bytes rest : List ℕ) → Spells s bytes rest
    → head_kind (bytes ++ rest) ≡ shape_kind s
spelled_kind s bytes rest (Spells.word w stops) = word_kind bytes rest w
spelled_kind s bytes rest (Spells.number n d stops e l) = number_kind bytes rest d
spelled_kind s bytes rest (Spells.mark m e l) = rw e (mark_kind m rest)

pub word_all : (bytes : List ℕ) → is_word bytes ≡ true → list_all is_word_byte bytes ≡ true
word_all bytes h = grind (arith, and_parts, and_from, or_left)

same_kind : (s t : Shape) (a b c d : List ℕ) → Spells s a b → Spells t c d → a ++ b ≡ c ++ d
    → shape_kind s ≡ shape_kind t
same_kind s t a b c d p q e = sym (spelled_kind s a b p) ∙ (ap head_kind e ∙ spelled_kind t c d q)

-- a text begins with one lexeme at most
pub spelled_same : (s t : Shape) (a b c d : List ℕ) → Spells s a b → Spells t c d → a ++ b ≡ c ++ d
    → (s ≡ t) × Same a b c d
spelled_same s t a b c d (Spells.word w stops) (Spells.word v ends) e =
    let r = run_same is_word_byte a c b d (word_all a w) (word_all c v) stops ends e in
    (ap shape.Word r.front, r)
spelled_same s t a b c d (Spells.number n w stops is l) (Spells.number m v ends is_too k) e =
    let r = run_same is_digit a c b d (number_all a w) (number_all c v) stops ends e in
    (ap shape.Number (is ∙ (ap value_of r.front ∙ sym is_too)), r)
spelled_same s t a b c d (Spells.mark m is longest) (Spells.mark n is_too longest_too) e =
    grind (arith, one_mark)
spelled_same s t a b c d p q e = let k = same_kind s t a b c d p q e in absurd (omega arith)
