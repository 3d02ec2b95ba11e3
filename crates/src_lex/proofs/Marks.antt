-- A mark and its bytes.
use Rattle.std.specs.Prelude.{◌≡◌, ℕ, ◌≤◌, ◌==◌, cond, nat_le, length, false, IsTrue, ◌&&◌, List, []}
use Rattle.std.specs.Prelude.{◌∷◌, ◌++◌, Option, Some, None, refl}
use Rattle.std.proofs.Common.{arith, sym, ap, ◌∙◌}
use Rattle.std.proofs.lemmas.Bool.{eqb-true, both_ways, and_parts, leb-true}
use Rattle.src_ast.specs.declared.lexeme.Mark.{Mark}
use Rattle.src_ast.specs.declared.lexeme.Shape.TheVariants as shape
use Rattle.src_ast.specs.Lexemes.{spelling, Spells}
use Rattle.src_lex.specs.Marks.{mark_of_one, mark_of_two, mark_of_front}
use Rattle.src_lex.specs.Reads.{Reads}

-- the mark that is spelled so
abbrev pub mark_of : List ℕ → Option Mark
mark_of [] = None
mark_of (b ∷ []) = mark_of_one b
mark_of (b ∷ c ∷ []) = mark_of_two b c
mark_of (b ∷ c ∷ d ∷ more) = None

pub mark_of_spelling : (m : Mark) → mark_of (spelling m) ≡ Some m
mark_of_spelling m = grind arith

-- a mark is known by its bytes
pub one_mark : (m n : Mark) → spelling m ≡ spelling n → m ≡ n
one_mark m n e = grind (arith, mark_of_spelling)

-- one byte or two
pub data OneOrTwo : List ℕ → Type 0 where
  one : (x : ℕ) → OneOrTwo (x ∷ [])
  two : (x y : ℕ) → OneOrTwo (x ∷ y ∷ [])

one_or_two : (xs : List ℕ) → IsTrue (nat_le 1 (length xs) && nat_le (length xs) 2) → OneOrTwo xs
one_or_two [] h = absurd (both_ways false refl h)
one_or_two (x ∷ []) h = one x
one_or_two (x ∷ y ∷ []) h = two x y
one_or_two (x ∷ y ∷ z ∷ xs) h = grind (arith, leb-true, and_parts)

is_short : (m : Mark) → IsTrue (nat_le 1 (length (spelling m)) && nat_le (length (spelling m)) 2)
is_short m = grind arith

pub one_or_two_bytes : (m : Mark) → OneOrTwo (spelling m)
one_or_two_bytes m = one_or_two (spelling m) (is_short m)

-- a table of marks answers only with a mark that is spelled so
abbrev Sound : List ℕ → Option Mark → Type 0
Sound bytes o = (m : Mark) → o ≡ Some m → spelling m ≡ bytes

none_sound : (bytes : List ℕ) → Sound bytes None
none_sound bytes m e = cc

some_sound : (bytes : List ℕ) (m : Mark) → spelling m ≡ bytes → Sound bytes (Some m)
some_sound bytes m h n e = let same : m ≡ n = cc in rw (← same) h

choice : (f : ℕ → List ℕ) (b k : ℕ) (yes_mark no_mark : Option Mark) → Sound (f k) yes_mark
    → Sound (f b) no_mark → Sound (f b) (cond (b == k) yes_mark no_mark)
choice f b k m o h g = grind (arith, eqb-true)

one_choice : (b k : ℕ) (m : Mark) (o : Option Mark) → spelling m ≡ k ∷ [] → Sound (b ∷ []) o
    → Sound (b ∷ []) (cond (b == k) (Some m) o)
one_choice b k m o h g = choice (λ x. x ∷ []) b k (Some m) o (some_sound (k ∷ []) m h) g

pub one_sound : (b : ℕ) → Sound (b ∷ []) (mark_of_one b)
one_sound b =
    one_choice b 40 _ _ refl (one_choice b 41 _ _ refl (one_choice b 123 _ _ refl (one_choice b 125 _ _ refl (
    one_choice b 91 _ _ refl (one_choice b 93 _ _ refl (one_choice b 44 _ _ refl (one_choice b 59 _ _ refl (
    one_choice b 61 _ _ refl (one_choice b 43 _ _ refl (one_choice b 45 _ _ refl (one_choice b 42 _ _ refl (
    one_choice b 47 _ _ refl (one_choice b 37 _ _ refl (one_choice b 38 _ _ refl (one_choice b 124 _ _ refl (
    one_choice b 94 _ _ refl (one_choice b 126 _ _ refl (one_choice b 33 _ _ refl (one_choice b 60 _ _ refl (
    one_choice b 62 _ _ refl (none_sound (b ∷ []))))))))))))))))))))))

first_choice : (b c k : ℕ) (m : Mark) (o : Option Mark) → spelling m ≡ k ∷ c ∷ [] → Sound (b ∷ c ∷ []) o
    → Sound (b ∷ c ∷ []) (cond (b == k) (Some m) o)
first_choice b c k m o h g = choice (λ x. x ∷ c ∷ []) b k (Some m) o (some_sound (k ∷ c ∷ []) m h) g

twice : (c k : ℕ) (m : Mark) → spelling m ≡ k ∷ k ∷ [] → Sound (k ∷ c ∷ []) (cond (c == k) (Some m) None)
twice c k m h = grind (arith, choice, some_sound, none_sound)

pub two_sound : (b c : ℕ) → Sound (b ∷ c ∷ []) (mark_of_two b c)
two_sound b c =
    choice (λ x. b ∷ x ∷ []) c 61 _ _ (
    first_choice b 61 60 _ _ refl
    (first_choice b 61 62 _ _ refl
    (first_choice b 61 61 _ _ refl (first_choice b 61 33 _ _ refl (none_sound (b ∷ 61 ∷ []))))))
    (choice (λ x. x ∷ c ∷ []) b 60 _ _ (twice c 60 _ refl)
    (choice (λ x. x ∷ c ∷ []) b 62 _ _ (twice c 62 _ refl) (none_sound (b ∷ c ∷ []))))

pub front_is : (m : Mark) (x y : ℕ) (more : List ℕ) → spelling m ≡ x ∷ y ∷ []
    → mark_of_front (x ∷ y ∷ more) ≡ Some m
front_is m x y more e = ap mark_of (sym e) ∙ mark_of_spelling m

most_two : (xs : List ℕ) → OneOrTwo xs → length xs ≤ 2
most_two xs h = grind arith

-- where no mark of two bytes begins the text, one byte is the longest mark
longest_one : (m : Mark) (xs : List ℕ) → OneOrTwo xs → spelling m ≡ xs → (text more : List ℕ)
    → mark_of_front text ≡ None → text ≡ xs ++ more → length xs ≤ 1
longest_one m xs i e text more h k = grind (arith, front_is)

-- the mark of the first two bytes is the longest there
pub reads_two : (text : List ℕ) (m : Mark) → mark_of_front text ≡ Some m → Reads (shape.Mark m) 2 text
reads_two [] m e = cc
reads_two (b ∷ []) m e = cc
reads_two (b ∷ c ∷ more) m e =
    record {
      within = omega arith;
      some = omega arith;
      spells = Spells.mark m (sym (two_sound b c m e)) (λ other following k.
          most_two (spelling other) (one_or_two_bytes other));
    }

-- where the first two bytes are no mark, the mark of the first is the longest
pub reads_one : (text : List ℕ) (b : ℕ) (rest : List ℕ) (m : Mark) → text ≡ b ∷ rest
    → mark_of_front text ≡ None → mark_of_one b ≡ Some m → Reads (shape.Mark m) 1 text
reads_one text b rest m t h e =
    let made : Reads (shape.Mark m) 1 (b ∷ rest) = record {
      within = omega arith;
      some = omega arith;
      spells = Spells.mark m (sym (one_sound b m e)) (λ other following k. longest_one other (spelling other)
          (one_or_two_bytes other) refl text following h (t ∙ k));
    } in rw t made

no_mark_of : (m : Mark) (xs : List ℕ) → OneOrTwo xs → spelling m ≡ xs
    → (text : List ℕ) (b : ℕ) (rest more : List ℕ) → text ≡ b ∷ rest → mark_of_front text ≡ None
    → mark_of_one b ≡ None → text ≡ xs ++ more → ⊥
no_mark_of m xs i e text b rest more t h k q = grind (arith, mark_of_spelling, front_is)

-- where neither is one, no mark begins the text
pub no_mark : (text : List ℕ) (b : ℕ) (rest : List ℕ) → text ≡ b ∷ rest → mark_of_front text ≡ None
    → mark_of_one b ≡ None → (m : Mark) (more : List ℕ) → text ≡ spelling m ++ more → ⊥
no_mark text b rest t h k m more q = grind (arith, no_mark_of, one_or_two_bytes)

pub ruleset marks = (reads_two, reads_one, no_mark)
