-- Single lexemes: the tests that a reader makes, and what they say.
use Rattle.std.proofs.Common.{arith, ◌∙◌, ap, get_or, eq-eqb}
use Rattle.std.specs.Prelude.{◌≡◌, List, [], ◌∷◌, ◌++◌, Some, Bool, true, false, refl}
use Rattle.std.proofs.lemmas.Bool.{eqb-true}
use Rattle.ws_words.specs.declared.alu.Alu.{Alu}
use Rattle.src_ast.specs.declared.lexeme.Lexeme.{Lexeme}
use Rattle.src_ast.specs.declared.lexeme.Shape.{Shape}
use Rattle.src_ast.specs.declared.lexeme.Shape.TheVariants as shape
use Rattle.src_ast.specs.declared.lexeme.Mark.{Mark}
use Rattle.src_ast.specs.declared.lexeme.Mark.TheVariants as mark
use Rattle.src_ast.specs.Grammar.{mark_of, Is}
use Rattle.src_parse.specs.Expressions.{operator_of, operator_in}
use Rattle.src_parse.specs.Reading.{Reader, Done, ◌|>◌, number_of, is_mark, expect}
use Rattle.src_parse.proofs.Exact.{Exact, exact_stuck_end, exact_stuck, exact_shift, exact_always, exact_bind}

abbrev marks : List Mark
marks = mark.LParen ∷ mark.RParen ∷ mark.LBrace ∷ mark.RBrace ∷ mark.LSquare ∷ mark.RSquare ∷ mark.Comma
    ∷ mark.Semi ∷ mark.Assign ∷ mark.Plus ∷ mark.Minus ∷ mark.Star ∷ mark.Slash ∷ mark.Percent ∷ mark.Amp
    ∷ mark.Bar ∷ mark.Caret ∷ mark.Tilde ∷ mark.Bang ∷ mark.Less ∷ mark.More ∷ mark.LessEq ∷ mark.MoreEq
    ∷ mark.Same ∷ mark.Differs ∷ mark.ShiftLeft ∷ mark.ShiftRight ∷ []

back : (m : Mark) → get_or marks (number_of m) mark.LParen ≡ m
back m = grind arith

-- a mark that passes the test is it
pub is_mark-true : (m : Mark) (s : Shape) → is_mark m s ≡ true → s ≡ shape.Mark m
is_mark-true m s e = grind (arith, back, eqb-true)

-- a mark passes its own test
pub is_mark-same : (m : Mark) (s : Shape) → s ≡ shape.Mark m → is_mark m s ≡ true
is_mark-same m s e = ap (is_mark m) e ∙ eq-eqb (number_of m) (number_of m) refl

operator_of-is : (m : Mark) (op : Alu) → operator_of m ≡ Some op → m ≡ mark_of op
operator_of-is m op e = grind arith

-- a mark that is an operator is that operator's
pub operator_in-is : (s : Shape) (op : Alu) → operator_in s ≡ Some op → s ≡ shape.Mark (mark_of op)
operator_in-is s op e = grind (arith, operator_of-is)

-- some lexeme with this shape
abbrev pub lexeme_with : Shape → Lexeme
lexeme_with s = record { shape = s; place = record { line = 1; column = 1 } }

-- a mark alone
pub record Alone (m : Mark) (ls : List Lexeme) (u : Unit {0}) : Type 0 where
  pub lexeme : Lexeme
  pub one : ls ≡ lexeme ∷ []
  pub mark : Is m lexeme

-- a mark
pub exact_expect : (m : Mark) (ls : List Lexeme) → Exact (Alone m) (expect m) ls
unfolding expect
exact_expect m [] = exact_stuck_end (Alone m) (expect m) (lexeme_with (shape.Mark m) ∷ []) tt refl
    (record { lexeme = lexeme_with (shape.Mark m); one = refl; mark = refl })
exact_expect m (l ∷ ls) = go (is_mark m l.shape) refl
  where
    go : (b : Bool) → is_mark m l.shape ≡ b → Exact (Alone m) (expect m) (l ∷ ls)
    go true e =
        exact_shift (Alone m) (λ ws a. ws ≡ []) (expect m) (λ x. Done tt x) l ls (λ x. rw e refl)
        (λ ws a h. record { lexeme = l; one = ap (λ w. l ∷ w) h; mark = is_mark-true m l.shape e })
        (exact_always (λ ws a. ws ≡ []) (λ x. Done tt x) tt ls (λ x. refl) refl)
    go false e = exact_stuck (Alone m) (expect m) (lexeme_with (shape.Mark m) ∷ []) tt l ls (λ x. rw e refl)
        (record { lexeme = lexeme_with (shape.Mark m); one = refl; mark = refl })

-- A phrase with a mark after it, and what is made of it.
pub exact_closed : {A B : Type 0} (m : Mark) (f : A → B) (L : List Lexeme → A → Type 0) (N : List Lexeme → B
    → Type 0) (P : Reader A) (input : List Lexeme)
    → ((us : List Lexeme) (a : A) (last : Lexeme) → L us a → Is m last → N (us ++ last ∷ []) (f a))
    → Exact L P input
    → Exact N (λ i. P i |> λ a rest. (expect m rest |> λ _ rest. Done (f a) rest)) input
exact_closed {A} {B} m f L N P input join g =
    let M : A → List Lexeme → B → Type 0 = λ a vs b. (last : Lexeme) × (vs ≡ last ∷ []) × Is m last
    × (b ≡ f a) in
    exact_bind L M N P (λ a rest. (expect m rest |> λ _ rest. Done (f a) rest)) input
    (grind arith)
    (λ us a h. (lexeme_with (shape.Mark m) ∷ [], f a, join us a (lexeme_with (shape.Mark m)) h refl))
    g
    (grind (arith, exact_bind, expect, exact_expect, exact_always))
