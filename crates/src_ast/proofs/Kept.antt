-- The printed form keeps the limits.
use Rattle.std.proofs.Common.{◌≡◌, ℕ, suc, ◌+◌, ◌≤◌, Bool, true, false, length, List, ◌∷◌, Option, codes, []}
use Rattle.std.proofs.Common.{refl, arith}
use Rattle.ws_words.specs.declared.alu.Alu.{Alu}
use Rattle.src_ast.specs.declared.lexeme.Name.{Name}
use Rattle.src_ast.specs.declared.lexeme.Shape.TheVariants.{Word, Mark}
use Rattle.src_ast.specs.declared.lexeme.Shape.TheVariants as shape
use Rattle.src_ast.specs.declared.lexeme.Mark.{Mark as AnyMark}
use Rattle.src_ast.specs.declared.lexeme.Mark.TheVariants as mark
use Rattle.src_ast.specs.declared.lexeme.Mark.TheVariants.{LParen, RParen, LBrace, RBrace, LSquare, RSquare}
use Rattle.src_ast.specs.declared.lexeme.Mark.TheVariants.{Semi}
use Rattle.src_ast.specs.declared.tree.Unary.{Unary}
use Rattle.src_ast.specs.Grammar.{level_of, mark_of, sign_mark}
use Rattle.src_ast.specs.Syntax.{Expression, Cell, Signed, Binary, Statement, If, While, Statements, Nothing}
use Rattle.src_ast.specs.Syntax.{Then, Last, Part, Array, Proc}
use Rattle.src_ast.specs.Printed.{is_looser, is_no_tighter, indent}
use Rattle.src_ast.specs.Written.{IsWrittenName, AreWrittenNames, IsWrittenExpression, AreWrittenExpressions}
use Rattle.src_ast.specs.Written.{rounded, width, list_width, names_width, IsWrittenStatement}
use Rattle.src_ast.specs.Written.{AreWrittenStatements, IsWrittenEnding, IsWrittenPart, IsWritten}
use Rattle.src_ast.proofs.Pieces.{Piece, gap, lexeme, Keep, over, after_gap, following}
use Rattle.src_ast.proofs.Printing.{space, newline, wrapped, expression, arguments, names, finish, call}
use Rattle.src_ast.proofs.Printing.{closing, test, second_arm, statement, body, variables, ending, part}
use Rattle.src_ast.proofs.Printing.{parts}

-- marks in the middle of a row
abbrev pub is_inner : AnyMark → Bool
is_inner Semi = false
is_inner LBrace = false
is_inner RBrace = false
is_inner m = true

-- operators stand in the middle of a row
pub op_inner : (op : Alu) → is_inner (mark_of op) ≡ true
op_inner op = grind arith

-- so do signs
pub sign_inner : (s : Unary) → is_inner (sign_mark s) ≡ true
sign_inner s = grind arith

-- one more lexeme in a row
inner : (m : AnyMark) (braces row next : ℕ) (ps : List Piece) → is_inner m ≡ true → braces ≤ 32
    → row + 1 ≡ next → next ≤ 256
    → Keep braces next ps → Keep braces row (lexeme (Mark m) ∷ ps)
inner m braces row next ps h d e w k = grind (arith, following, Keep)

word_in : (w : List ℕ) (braces row next : ℕ) (ps : List Piece) → length w ≤ 64 → braces ≤ 32 → row + 1 ≡ next
    → next ≤ 256
    → Keep braces next ps → Keep braces row (lexeme (Word w) ∷ ps)
word_in w braces row next ps h d e l k = grind (arith, following, Keep)

number_in : (v : ℕ) (braces row next : ℕ) (ps : List Piece) → braces ≤ 32 → row + 1 ≡ next → next ≤ 256
    → Keep braces next ps → Keep braces row (lexeme (shape.Number v) ∷ ps)
number_in v braces row next ps d e l k = grind (arith, following, Keep)

wrapped_kept : (braces : ℕ) (needed : Bool) (f : List Piece → List Piece) (n : ℕ) → braces ≤ 32
    → ((row next : ℕ) (qs : List Piece) → row + n ≡ next → next ≤ 256 → Keep braces next qs
    → Keep braces row (f qs))
    → (row next : ℕ) (ps : List Piece) → row + rounded needed n ≡ next → next ≤ 256 → Keep braces next ps
    → Keep braces row (wrapped needed f ps)
wrapped_kept braces needed f n d h row next ps e l k = grind (arith, inner, lexeme)

expression_kept : (braces : ℕ) → braces ≤ 32 → (e : Expression) → IsWrittenExpression e
    → (row next : ℕ) (ps : List Piece) → row + width e ≡ next → next ≤ 256 → Keep braces next ps
    → Keep braces row (expression e ps)
expression_kept braces d (Cell a i) g row next ps e l k =
    word_in a.text braces row (row + 1) _ g.0.short d refl (omega arith)
    (inner LSquare braces (row + 1) (row + 2) _ refl d (omega arith) (omega arith)
    (expression_kept braces d i g.1 (row + 2) (row + 2 + width i) _ refl (omega arith)
    (inner RSquare braces (row + 2 + width i) next ps refl d (omega arith) l k)))
expression_kept braces d (Signed s a) g row next ps e l k =
    grind (arith, inner, sign_inner, wrapped_kept, expression, expression_kept braces d a g)
expression_kept braces d (Binary op a b) g row next ps e l k =
    let left = rounded (is_looser a (level_of op)) (width a) in
    wrapped_kept braces (is_looser a (level_of op)) (expression a) (width a) d
    (expression_kept braces d a g.0) row (row + left) _ refl (omega arith)
    (after_gap space (inner (mark_of op) braces (row + left) (row + left + 1) _ (op_inner op) d refl
    (omega arith)
    (after_gap space (wrapped_kept braces (is_no_tighter b (level_of op)) (expression b) (width b) d
    (expression_kept braces d b g.1) (row + left + 1) next ps (omega arith) l k))))
expression_kept braces d e g row next ps h l k = grind (arith, number_in, word_in)

arguments_kept : (braces : ℕ) → braces ≤ 32 → (es : List Expression) → AreWrittenExpressions es
    → (row next : ℕ) (ps : List Piece) → row + list_width es ≡ next → next ≤ 256 → Keep braces next ps
    → Keep braces row (arguments es ps)
arguments_kept braces d (x ∷ y ∷ xs) g row next ps e l k =
    let ih1 = arguments_kept braces d (y ∷ xs) g.1 (row + width x + 1) next ps (omega arith) l k in
    grind (arith, expression_kept, inner, after_gap, space)
arguments_kept braces d es g row next ps e l k = grind (arith, expression_kept)

names_kept : (braces : ℕ) → braces ≤ 32 → (xs : List Name) → AreWrittenNames xs
    → (row next : ℕ) (ps : List Piece) → row + names_width xs ≡ next → next ≤ 256 → Keep braces next ps
    → Keep braces row (names xs ps)
names_kept braces d (x ∷ y ∷ xs) g row next ps e l k =
    let ih1 = names_kept braces d (y ∷ xs) g.1 (row + 2) next ps (omega arith) l k in
    grind (arith, word_in, inner, after_gap, space)
names_kept braces d xs g row next ps e l k = grind (arith, word_in)

finish_kept : (braces row : ℕ) (ps : List Piece) → braces ≤ 32 → Keep braces 0 ps
    → Keep braces row (finish ps)
finish_kept braces row ps d k = following (Mark Semi) tt d (omega arith) (after_gap newline k)

-- an expression at the end of a statement
last_kept : (braces row : ℕ) (ps : List Piece) → braces ≤ 32 → (e : Expression) → IsWrittenExpression e
    → row + width e ≤ 256 → Keep braces 0 ps
    → Keep braces row (expression e (finish ps))
last_kept braces row ps d e g l k = grind (arith, expression_kept, finish, finish_kept)

call_kept : (braces row : ℕ) (ps : List Piece) → braces ≤ 32 → (f : Name) (es : List Expression)
    → IsWrittenName f.text → AreWrittenExpressions es → row + list_width es + 3 ≤ 256
    → Keep braces 0 ps → Keep braces row (call f es ps)
call_kept braces row ps d f es h g l k = grind (arith, word_in, inner, arguments_kept, finish_kept)

opens : (braces row : ℕ) (ps : List Piece) → suc braces ≤ 32 → Keep (suc braces) 0 ps
    → Keep braces row (gap space ∷ lexeme (Mark LBrace) ∷ gap newline ∷ ps)
opens braces row ps d k = after_gap space (following (Mark LBrace) tt d (omega arith) (after_gap newline k))

closing_kept : (n braces row : ℕ) (ps : List Piece) → braces ≤ 32 → Keep braces 0 ps
    → Keep (suc braces) row (closing n ps)
closing_kept n braces row ps d k = grind (arith, after_gap, following, newline)

test_kept : (braces : ℕ) (ps : List Piece) → suc braces ≤ 32 → (word : List ℕ) (e : Expression)
    → length word ≤ 64 → IsWrittenExpression e → width e + 3 ≤ 256
    → Keep (suc braces) 0 ps → Keep braces 0 (test word e ps)
test_kept braces ps d word e w g l k = grind (arith, word_in, after_gap, space, inner, expression_kept, opens)

second_arm_kept : (n braces : ℕ) (b : Statements) (f : List Piece → List Piece) → suc braces ≤ 32
    → ((qs : List Piece) → Keep (suc braces) 0 qs → Keep (suc braces) 0 (f qs))
    → (ps : List Piece) → Keep braces 0 ps → Keep (suc braces) 0 (second_arm n b f ps)
second_arm_kept n braces b f d h ps k =
    grind (arith, closing_kept, after_gap, following, space, word_in, opens)

ruleset gaps = (after_gap, word_in, space)

mutual
  pub statement_kept : (n braces : ℕ) → braces ≤ 32 → (s : Statement) → IsWrittenStatement braces s
      → (ps : List Piece) → Keep braces 0 ps → Keep braces 0 (statement n s ps)
  statement_kept n braces d (If at e a b) h ps k =
      after_gap (indent n) (test_kept braces _ h.2 (codes "if") e (omega arith) h.0 h.1
      (body_kept (suc n) (suc braces) h.2 a h.3 _
      (second_arm_kept n braces b (body (suc n) b) h.2 (body_kept (suc n) (suc braces) h.2 b h.4) ps k)))
  statement_kept n braces d (While at e a) h ps k =
      after_gap (indent n) (test_kept braces _ h.2 (codes "while") e (omega arith) h.0 h.1
      (body_kept (suc n) (suc braces) h.2 a h.3 _ (closing_kept n braces 0 ps d k)))
  statement_kept v0 v1 v2 v3 v4 v5 v6 =
      grind (arith, gaps, inner, last_kept, expression_kept, finish_kept, number_in, call_kept)

  pub body_kept : (n braces : ℕ) → braces ≤ 32 → (b : Statements) → AreWrittenStatements braces b
      → (ps : List Piece) → Keep braces 0 ps → Keep braces 0 (body n b ps)
  body_kept n braces d Nothing h ps k = k
  body_kept n braces d (Then s rest) h ps k = statement_kept n braces d s h.0 _
      (body_kept n braces d rest h.1 ps k)

variables_kept : (braces : ℕ) → braces ≤ 32 → (xs : List Name) → AreWrittenNames xs → names_width xs + 1 ≤ 256
    → (ps : List Piece) → Keep braces 0 ps → Keep braces 0 (variables xs ps)
variables_kept braces d [] g l ps k = k
variables_kept braces d (x ∷ xs) g l ps k =
    after_gap (indent 1) (word_in (codes "var") braces 0 1 _ (omega arith) d refl (omega arith)
    (after_gap space
    (names_kept braces d (x ∷ xs) g 1 (1 + names_width (x ∷ xs)) _ refl (omega arith)
    (finish_kept braces _ ps d k))))

ending_kept : (braces : ℕ) → braces ≤ 32 → (e : Option Last) → IsWrittenEnding e → (ps : List Piece)
    → Keep braces 0 ps → Keep braces 0 (ending e ps)
ending_kept braces d e h ps k = grind (arith, after_gap, word_in, space, last_kept)

part_kept : (p : Part) → IsWrittenPart p → (ps : List Piece) → Keep 0 0 ps → Keep 0 0 (part p ps)
part_kept (Array x n at) h ps k = grind (arith, word_in, after_gap, space, inner, number_in, finish_kept)
part_kept (Proc p) h ps k =
    let d : 0 ≤ 32 = omega arith in
    let one : 1 ≤ 32 = omega arith in
    let row = h.params_row in
    word_in (codes "proc") 0 0 1 _ (omega arith) d refl (omega arith) (after_gap space
    (word_in p.name.text 0 1 2 _ h.name.short d refl (omega arith)
    (inner LParen 0 2 3 _ refl d refl (omega arith)
    (names_kept 0 d p.params h.params 3 (3 + names_width p.params) _ refl (omega (arith, row))
    (inner RParen 0 (3 + names_width p.params) (4 + names_width p.params) _ refl d (omega arith)
    (omega (arith, row))
    (opens 0 _ _ one
    (variables_kept 1 one p.vars h.vars h.vars_row _
    (body_kept 1 1 one p.body h.body _
    (ending_kept 1 one p.ending h.ending _ (closing_kept 0 0 0 ps d k))))))))))

-- the pieces of a written program keep the limits
pub parts_kept : (all : List Part) → IsWritten all → Keep 0 0 (parts all)
parts_kept [] h = over
parts_kept (p ∷ all) h = part_kept p h.0 (parts all) (parts_kept all h.1)
