-- How a parser goes over expressions.
use Rattle.std.specs.Prelude.{ℕ, zero, suc, length, ◌+◌, nat_lt, List, [], ◌∷◌, Option, Some, None}
use Rattle.std.specs.Prelude.{if◌then◌else◌}
use Rattle.ws_words.specs.declared.alu.Alu.{Alu}
use Rattle.ws_words.specs.declared.alu.Alu.TheVariants.{Add, Sub, Mul, Div, Rem, And, Or, Xor, Shl, Shr, Eq}
use Rattle.ws_words.specs.declared.alu.Alu.TheVariants.{Ne, Lt, Le, Gt, Ge}
use Rattle.src_ast.specs.declared.lexeme.Name.{Name}
use Rattle.src_ast.specs.declared.lexeme.Lexeme.{Lexeme}
use Rattle.src_ast.specs.declared.lexeme.Shape.{Shape}
use Rattle.src_ast.specs.declared.lexeme.Shape.TheVariants as shape
use Rattle.src_ast.specs.declared.lexeme.Mark.{Mark}
use Rattle.src_ast.specs.declared.lexeme.Mark.TheVariants as mark
use Rattle.src_ast.specs.declared.tree.Unary.TheVariants.{Flip, Not, Neg}
use Rattle.src_ast.specs.Syntax.{Expression, Number, Variable, Cell, Signed, Binary}
use Rattle.src_ast.specs.Grammar.{level_of, is_reserved}
use Rattle.src_parse.specs.Reading.{Reader, Done, Stuck, ◌|>◌, is_mark, expect}

abbrev pub operator_of : Mark → Option Alu
operator_of mark.Bar = Some Or
operator_of mark.Caret = Some Xor
operator_of mark.Amp = Some And
operator_of mark.Same = Some Eq
operator_of mark.Differs = Some Ne
operator_of mark.Less = Some Lt
operator_of mark.LessEq = Some Le
operator_of mark.More = Some Gt
operator_of mark.MoreEq = Some Ge
operator_of mark.ShiftLeft = Some Shl
operator_of mark.ShiftRight = Some Shr
operator_of mark.Plus = Some Add
operator_of mark.Minus = Some Sub
operator_of mark.Star = Some Mul
operator_of mark.Slash = Some Div
operator_of mark.Percent = Some Rem
operator_of _ = None

abbrev pub operator_in : Shape → Option Alu
operator_in (shape.Word w) = None
operator_in (shape.Number n) = None
operator_in (shape.Mark m) = operator_of m

abbrev pub operator_at : List Lexeme → Option Alu
operator_at [] = None
operator_at (l ∷ ls) = operator_in l.shape

-- after a name: an index in brackets, or nothing
unfoldable pub named : Reader Expression → Name → Reader Expression
named whole x [] = Done (Variable x) []
named whole x (l ∷ ls) =
    if is_mark mark.LSquare l.shape
    then (whole ls |> λ e rest. (expect mark.RSquare rest |> λ _ rest. Done (Cell x e) rest))
    else Done (Variable x) (l ∷ ls)

unfoldable pub operand_mark : Reader Expression → Reader Expression → Mark → Lexeme
    → Reader Expression
operand_mark part whole mark.LParen l ls =
    whole ls |> λ e rest. (expect mark.RParen rest |> λ _ rest. Done e rest)
operand_mark part whole mark.Tilde l ls = part ls |> λ e rest. Done (Signed Flip e) rest
operand_mark part whole mark.Bang l ls = part ls |> λ e rest. Done (Signed Not e) rest
operand_mark part whole mark.Minus l ls = part ls |> λ e rest. Done (Signed Neg e) rest
operand_mark part whole _ l ls = Stuck (l ∷ ls)

unfoldable pub operand_shape : Reader Expression → Reader Expression → Shape → Lexeme
    → Reader Expression
operand_shape part whole (shape.Number n) l ls = Done (Number n) ls
operand_shape part whole (shape.Word w) l ls =
    if is_reserved w then Stuck (l ∷ ls) else named whole (record { text = w; place = l.place }) ls
operand_shape part whole (shape.Mark m) l ls = operand_mark part whole m l ls

-- an operand with its signs, where part reads one and whole reads an expression
unfoldable pub operand : Reader Expression → Reader Expression → Reader Expression
operand part whole [] = Stuck []
operand part whole (l ∷ ls) = operand_shape part whole l.shape l ls

-- after the left operand, in front of a lexeme that may be an operator
unfoldable pub further : (ℕ → Reader Expression) → (Expression → Reader Expression) → ℕ
    → Expression → Option Alu → Lexeme → Reader Expression
further whole again min left None l ls = Done left (l ∷ ls)
further whole again min left (Some op) l ls =
    if nat_lt (level_of op) min
    then Done left (l ∷ ls)
    else (whole (level_of op + 1) ls |> λ right. again (Binary op left right))

unfoldable pub operators : (ℕ → Reader Expression) → (Expression → Reader Expression) → ℕ
    → Expression → Reader Expression
operators whole again min left [] = Done left []
operators whole again min left (l ∷ ls) = further whole again min left (operator_in l.shape) l ls

-- the first number bounds how deep the reading goes
unfoldable mutual
  pub operand_in : ℕ → Reader Expression
  operand_in zero ls = Stuck ls
  operand_in (suc k) ls = operand (operand_in k) (λ r. operand_in k r |> operators_in k 0) ls

  pub operators_in : ℕ → ℕ → Expression → Reader Expression
  operators_in zero min left ls = Stuck ls
  operators_in (suc k) min left ls =
      operators (λ n r. operand_in k r |> operators_in k n) (λ e. operators_in k min e) min left ls

unfoldable pub expression_in : ℕ → ℕ → Reader Expression
expression_in k min ls = operand_in k ls |> operators_in k min

-- The bound is one more than the lexemes, and never met.
unfoldable pub operand_at : Reader Expression
operand_at ls = operand_in (suc (length ls)) ls

unfoldable pub operators_at : ℕ → Expression → Reader Expression
operators_at min left ls = operators_in (suc (length ls)) min left ls

-- an expression whose operators are of this level or tighter
unfoldable pub expression_at : ℕ → Reader Expression
expression_at min ls = operand_at ls |> operators_at min
