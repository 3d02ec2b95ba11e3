-- How a parser goes over lexemes: it reads some and answers, or stops in front of the first that
-- doesn't fit.
use Rattle.std.specs.Prelude.{ℕ, ◌==◌, nat_eq, List, [], ◌∷◌, ◌++◌, Option, Some, None, Bool, false}
use Rattle.std.specs.Prelude.{if◌then◌else◌}
use lib.Pointwise.{pointwise}
use Rattle.src_ast.specs.declared.lexeme.Place.{Place}
use Rattle.src_ast.specs.declared.lexeme.Name.{Name}
use Rattle.src_ast.specs.declared.lexeme.Lexeme.{Lexeme}
use Rattle.src_ast.specs.declared.lexeme.Shape.{Shape}
use Rattle.src_ast.specs.declared.lexeme.Shape.TheVariants as shape
use Rattle.src_ast.specs.declared.lexeme.Mark.{Mark}
use Rattle.src_ast.specs.declared.lexeme.Mark.TheVariants as mark
use Rattle.src_ast.specs.Grammar.{is_reserved}

-- What was read and the lexemes after it, or the lexemes from the first one on that doesn't fit.
pub data Reading (A : Type 0) : Type 0 where
  Done : (a : A) (rest : List Lexeme) → Reading A
  Stuck : (rest : List Lexeme) → Reading A

abbrev pub Reader : Type 0 → Type 0
Reader A = List Lexeme → Reading A

infixl 10 ◌|>◌
abbrev pub ◌|>◌ : {A B : Type 0} → Reading A → (A → Reader B) → Reading B
(Done a rest) |> f = f a rest
(Stuck rest) |> f = Stuck rest

abbrev pub number_of : Mark → ℕ
number_of mark.LParen = 0
number_of mark.RParen = 1
number_of mark.LBrace = 2
number_of mark.RBrace = 3
number_of mark.LSquare = 4
number_of mark.RSquare = 5
number_of mark.Comma = 6
number_of mark.Semi = 7
number_of mark.Assign = 8
number_of mark.Plus = 9
number_of mark.Minus = 10
number_of mark.Star = 11
number_of mark.Slash = 12
number_of mark.Percent = 13
number_of mark.Amp = 14
number_of mark.Bar = 15
number_of mark.Caret = 16
number_of mark.Tilde = 17
number_of mark.Bang = 18
number_of mark.Less = 19
number_of mark.More = 20
number_of mark.LessEq = 21
number_of mark.MoreEq = 22
number_of mark.Same = 23
number_of mark.Differs = 24
number_of mark.ShiftLeft = 25
number_of mark.ShiftRight = 26

abbrev pub is_mark : Mark → Shape → Bool
is_mark m (shape.Word w) = false
is_mark m (shape.Number n) = false
is_mark m (shape.Mark k) = number_of k == number_of m

-- this mark
unfoldable pub expect : Mark → Reader (Unit {0})
expect m [] = Stuck []
expect m (l ∷ ls) = if is_mark m l.shape then Done tt ls else Stuck (l ∷ ls)

-- this word
abbrev pub is_word : List ℕ → Shape → Bool
is_word v (shape.Word w) = pointwise nat_eq w v
is_word v (shape.Number n) = false
is_word v (shape.Mark m) = false

abbrev pub name_in : Shape → Lexeme → Option Name
name_in (shape.Word w) l =
    if is_reserved w then None else Some (record { text = w; place = l.place })
name_in (shape.Number n) l = None
name_in (shape.Mark m) l = None

abbrev pub name_by : Option Name → Lexeme → Reader Name
name_by None l ls = Stuck (l ∷ ls)
name_by (Some x) l ls = Done x ls

unfoldable pub name_at : Reader Name
name_at [] = Stuck []
name_at (l ∷ ls) = name_by (name_in l.shape l) l ls

-- a number where it stands
pub record Count : Type 0 where
  pub number : ℕ
  pub place : Place

abbrev pub count_by : Shape → Lexeme → Reader Count
count_by (shape.Number n) l ls = Done (record { number = n; place = l.place }) ls
count_by (shape.Word w) l ls = Stuck (l ∷ ls)
count_by (shape.Mark m) l ls = Stuck (l ∷ ls)

unfoldable pub count_at : Reader Count
count_at [] = Stuck []
count_at (l ∷ ls) = count_by l.shape l ls

-- what was read before, in front of what is read
abbrev pub before : {A : Type 0} → List A → Reading (List A) → Reading (List A)
before a (Done b r) = Done (a ++ b) r
before a (Stuck r) = Stuck r
