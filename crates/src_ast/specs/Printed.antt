-- The printed form of a program.
use Rattle.std.specs.Prelude.{ℕ, zero, suc, nat_lt, nat_le, Bool, true, false, List, [], ◌∷◌, ◌++◌, Option}
use Rattle.std.specs.Prelude.{Some, None, codes, decimal, if◌then◌else◌}
use Rattle.src_ast.specs.declared.lexeme.Name.{Name}
use Rattle.src_ast.specs.Lexemes.{spelling}
use Rattle.src_ast.specs.Grammar.{level_of, mark_of, sign_mark}
use Rattle.src_ast.specs.Syntax.{Expression, Number, Variable, Cell, Signed, Binary, Statement, Assign, Store}
use Rattle.src_ast.specs.Syntax.{Print, Read, Give, Take, Call, If, While, Statements, Nothing, Then, Last}
use Rattle.src_ast.specs.Syntax.{Part, Array, Proc}

-- parentheses where they are needed
abbrev pub round : Bool → List ℕ → List ℕ
round needed text = if needed then codes "(" ++ text ++ codes ")" else text

-- a left operand of a looser level is in parentheses
abbrev pub is_looser : Expression → ℕ → Bool
is_looser (Binary op a b) level = nat_lt (level_of op) level
is_looser _ level = false

-- so is a right operand of a looser or equal level
abbrev pub is_no_tighter : Expression → ℕ → Bool
is_no_tighter (Binary op a b) level = nat_le (level_of op) level
is_no_tighter _ level = false

-- and a binary operand of a sign
abbrev pub is_binary : Expression → Bool
is_binary (Binary op a b) = true
is_binary _ = false

-- binary operators have a space on each side, signs none
abbrev pub expression_text : Expression → List ℕ
expression_text (Number n) = decimal n
expression_text (Variable x) = x.text
expression_text (Cell a e) = a.text ++ codes "[" ++ expression_text e ++ codes "]"
expression_text (Signed s e) = spelling (sign_mark s) ++ round (is_binary e) (expression_text e)
expression_text (Binary op a b) =
    round (is_looser a (level_of op)) (expression_text a) ++ codes " " ++ spelling (mark_of op)
    ++ codes " "
    ++ round (is_no_tighter b (level_of op)) (expression_text b)

-- with a comma and a space between them
abbrev pub separated_text : List (List ℕ) → List ℕ
separated_text [] = []
separated_text (t ∷ []) = t
separated_text (t ∷ u ∷ ts) = t ++ codes ", " ++ separated_text (u ∷ ts)

abbrev pub argument_texts : List Expression → List (List ℕ)
argument_texts [] = []
argument_texts (e ∷ es) = expression_text e ∷ argument_texts es

abbrev pub name_texts : List Name → List (List ℕ)
name_texts [] = []
name_texts (x ∷ xs) = x.text ∷ name_texts xs

abbrev pub call_text : Name → List Expression → List ℕ
call_text f es = f.text ++ codes "(" ++ separated_text (argument_texts es) ++ codes ")"

-- a level is two spaces
abbrev pub indent : ℕ → List ℕ
indent zero = []
indent (suc n) = codes "  " ++ indent n

-- a line at a level
abbrev pub line : ℕ → List ℕ → List ℕ
line n text = indent n ++ text ++ codes "\n"

-- the statements of a second arm, which is left out where it is empty
abbrev pub else_lines : ℕ → Statements → List ℕ → List ℕ
else_lines n Nothing text = line n (codes "}")
else_lines n (Then s rest) text = line n (codes "} else {") ++ text ++ line n (codes "}")

-- statements at a level
abbrev mutual
  pub statement_lines : ℕ → Statement → List ℕ
  statement_lines n (Assign at x e) =
      line n (x.text ++ codes " = " ++ expression_text e ++ codes ";")
  statement_lines n (Store at a i e) =
      line n (a.text ++ codes "[" ++ expression_text i ++ codes "] = " ++ expression_text e
      ++ codes ";")
  statement_lines n (Print at e) = line n (codes "print " ++ expression_text e ++ codes ";")
  statement_lines n (Read at x) = line n (codes "read " ++ x.text ++ codes ";")
  statement_lines n (Give at port p x) =
      line n (codes "give " ++ decimal port ++ codes ", " ++ x.text ++ codes ";")
  statement_lines n (Take at port p e) =
      line n (codes "take " ++ decimal port ++ codes ", " ++ expression_text e ++ codes ";")
  statement_lines n (Call at None f es) = line n (call_text f es ++ codes ";")
  statement_lines n (Call at (Some x) f es) =
      line n (x.text ++ codes " = " ++ call_text f es ++ codes ";")
  statement_lines n (If at e a b) =
      line n (codes "if (" ++ expression_text e ++ codes ") {") ++ body_lines (suc n) a
      ++ else_lines n b (body_lines (suc n) b)
  statement_lines n (While at e body) =
      line n (codes "while (" ++ expression_text e ++ codes ") {") ++ body_lines (suc n) body
      ++ line n (codes "}")

  pub body_lines : ℕ → Statements → List ℕ
  body_lines n Nothing = []
  body_lines n (Then s rest) = statement_lines n s ++ body_lines n rest

abbrev pub variable_lines : List Name → List ℕ
variable_lines [] = []
variable_lines (x ∷ xs) = line 1 (codes "var " ++ separated_text (name_texts (x ∷ xs)) ++ codes ";")

abbrev pub ending_lines : Option Last → List ℕ
ending_lines None = []
ending_lines (Some last) = line 1 (codes "return " ++ expression_text last.value ++ codes ";")

abbrev pub part_lines : Part → List ℕ
part_lines (Array x n at) =
    line 0 (codes "array " ++ x.text ++ codes "[" ++ decimal n ++ codes "];")
part_lines (Proc p) =
    line 0 (codes "proc " ++ p.name.text
    ++ codes "(" ++ separated_text (name_texts p.params) ++ codes ") {")
    ++ variable_lines p.vars ++ body_lines 1 p.body ++ ending_lines p.ending ++ line 0 (codes "}")

-- the printed form
abbrev pub printed_form : List Part → List ℕ
printed_form [] = []
printed_form (p ∷ parts) = part_lines p ++ printed_form parts
