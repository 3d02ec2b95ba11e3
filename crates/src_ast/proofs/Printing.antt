-- The printed form as gaps and lexemes. Each function gives the pieces of what it prints, in front of others.
use Rattle.std.proofs.Common.{arith, ◌≡◌, ℕ, suc, Bool, true, false, List, ◌∷◌, ◌++◌, Option, Some, None, []}
use Rattle.std.proofs.Common.{codes, refl, ap, ◌∙◌, append_assoc}
use Rattle.src_ast.specs.declared.lexeme.Name.{Name}
use Rattle.src_ast.specs.declared.lexeme.Shape.TheVariants.{Word, Mark}
use Rattle.src_ast.specs.declared.lexeme.Shape.TheVariants as shape
use Rattle.src_ast.specs.declared.lexeme.Mark.TheVariants as mark
use Rattle.src_ast.specs.declared.lexeme.Mark.TheVariants.{LParen, RParen, LBrace, RBrace, LSquare, RSquare}
use Rattle.src_ast.specs.declared.lexeme.Mark.TheVariants.{Comma, Semi}
use Rattle.src_ast.specs.Lexemes.{spelling}
use Rattle.src_ast.specs.Grammar.{level_of, mark_of, sign_mark}
use Rattle.src_ast.specs.Syntax.{Expression, Number, Variable, Cell, Signed, Binary, Statement, Assign, Store}
use Rattle.src_ast.specs.Syntax.{Print, Read, Give, Take, Call, If, While, Statements, Nothing, Then, Last}
use Rattle.src_ast.specs.Syntax.{Procedure, Part, Array, Proc}
use Rattle.src_ast.specs.Printed.{round, is_looser, is_no_tighter, is_binary, expression_text, separated_text}
use Rattle.src_ast.specs.Printed.{argument_texts, name_texts, call_text, indent, line, else_lines}
use Rattle.src_ast.specs.Printed.{statement_lines, body_lines, variable_lines, ending_lines, part_lines}
use Rattle.src_ast.specs.Printed.{printed_form}
use Rattle.src_ast.proofs.Pieces.{Piece, gap, lexeme, text_of}

-- a space
abbrev pub space : List ℕ
space = codes " "

-- the end of a line
abbrev pub newline : List ℕ
newline = codes "\n"

-- parentheses where they are needed, before others
abbrev pub wrapped : Bool → (List Piece → List Piece) → List Piece → List Piece
wrapped true f ps = lexeme (Mark LParen) ∷ f (lexeme (Mark RParen) ∷ ps)
wrapped false f ps = f ps

-- the pieces of an expression, before others
abbrev pub expression : Expression → List Piece → List Piece
expression (Number n) ps = lexeme (shape.Number n) ∷ ps
expression (Variable x) ps = lexeme (Word x.text) ∷ ps
expression (Cell a e) ps = lexeme (Word a.text) ∷ lexeme (Mark LSquare) ∷ expression e
    (lexeme (Mark RSquare) ∷ ps)
expression (Signed s e) ps = lexeme (Mark (sign_mark s)) ∷ wrapped (is_binary e) (expression e) ps
expression (Binary op a b) ps =
    wrapped (is_looser a (level_of op)) (expression a)
    (gap space ∷ lexeme (Mark (mark_of op)) ∷ gap space ∷ wrapped (is_no_tighter b (level_of op))
    (expression b) ps)

-- those of arguments
abbrev pub arguments : List Expression → List Piece → List Piece
arguments [] ps = ps
arguments (e ∷ []) ps = expression e ps
arguments (e ∷ f ∷ es) ps = expression e (lexeme (Mark Comma) ∷ gap space ∷ arguments (f ∷ es) ps)

-- those of names
abbrev pub names : List Name → List Piece → List Piece
names [] ps = ps
names (x ∷ []) ps = lexeme (Word x.text) ∷ ps
names (x ∷ y ∷ xs) ps = lexeme (Word x.text) ∷ lexeme (Mark Comma) ∷ gap space ∷ names (y ∷ xs) ps

-- a semicolon and the line's end
abbrev pub finish : List Piece → List Piece
finish ps = lexeme (Mark Semi) ∷ gap newline ∷ ps

-- those of a call, to the end of its line
abbrev pub call : Name → List Expression → List Piece → List Piece
call f es ps = lexeme (Word f.text) ∷ lexeme (Mark LParen) ∷ arguments es (lexeme (Mark RParen) ∷ finish ps)

-- a line with a brace that closes a block
abbrev pub closing : ℕ → List Piece → List Piece
closing n ps = gap (indent n) ∷ lexeme (Mark RBrace) ∷ gap newline ∷ ps

-- the first line of an `if` or a `while`
abbrev pub test : List ℕ → Expression → List Piece → List Piece
test word e ps =
    lexeme (Word word) ∷ gap space ∷ lexeme (Mark LParen) ∷ expression e
    (lexeme (Mark RParen) ∷ gap space ∷ lexeme (Mark LBrace) ∷ gap newline ∷ ps)

-- what follows the first arm
abbrev pub second_arm : ℕ → Statements → (List Piece → List Piece) → List Piece → List Piece
second_arm n Nothing f ps = closing n ps
second_arm n (Then s rest) f ps =
    gap (indent n) ∷ lexeme (Mark RBrace) ∷ gap space ∷ lexeme (Word (codes "else")) ∷ gap space ∷ lexeme
    (Mark LBrace) ∷ gap newline
    ∷ f (closing n ps)

abbrev mutual
  -- those of a statement
  pub statement : ℕ → Statement → List Piece → List Piece
  statement n (Assign at x e) ps = gap (indent n) ∷ lexeme (Word x.text) ∷ gap space ∷ lexeme
      (Mark mark.Assign) ∷ gap space ∷ expression e (finish ps)
  statement n (Store at a i e) ps =
      gap (indent n) ∷ lexeme (Word a.text) ∷ lexeme (Mark LSquare)
      ∷ expression i (lexeme (Mark RSquare) ∷ gap space ∷ lexeme (Mark mark.Assign) ∷ gap space ∷ expression e
      (finish ps))
  statement n (Print at e) ps = gap (indent n) ∷ lexeme (Word (codes "print")) ∷ gap space ∷ expression e
      (finish ps)
  statement n (Read at x) ps = gap (indent n) ∷ lexeme (Word (codes "read")) ∷ gap space ∷ lexeme
      (Word x.text) ∷ finish ps
  statement n (Give at port p x) ps =
      gap (indent n) ∷ lexeme (Word (codes "give")) ∷ gap space ∷ lexeme (shape.Number port) ∷ lexeme
      (Mark Comma) ∷ gap space ∷ lexeme (Word x.text) ∷ finish ps
  statement n (Take at port p e) ps =
      gap (indent n) ∷ lexeme (Word (codes "take")) ∷ gap space ∷ lexeme (shape.Number port) ∷ lexeme
      (Mark Comma) ∷ gap space ∷ expression e (finish ps)
  statement n (Call at None f es) ps = gap (indent n) ∷ call f es ps
  statement n (Call at (Some x) f es) ps = gap (indent n) ∷ lexeme (Word x.text) ∷ gap space ∷ lexeme
      (Mark mark.Assign) ∷ gap space ∷ call f es ps
  statement n (If at e a b) ps = gap (indent n) ∷ test (codes "if") e
      (body (suc n) a (second_arm n b (body (suc n) b) ps))
  statement n (While at e a) ps = gap (indent n) ∷ test (codes "while") e (body (suc n) a (closing n ps))

  -- those of statements
  pub body : ℕ → Statements → List Piece → List Piece
  body n Nothing ps = ps
  body n (Then s rest) ps = statement n s (body n rest ps)

-- those of the line of variables
abbrev pub variables : List Name → List Piece → List Piece
variables [] ps = ps
variables (x ∷ xs) ps = gap (indent 1) ∷ lexeme (Word (codes "var")) ∷ gap space ∷ names (x ∷ xs) (finish ps)

-- those of the line of `return`
abbrev pub ending : Option Last → List Piece → List Piece
ending None ps = ps
ending (Some last) ps = gap (indent 1) ∷ lexeme (Word (codes "return")) ∷ gap space ∷ expression last.value
    (finish ps)

-- those of an array or a procedure
abbrev pub part : Part → List Piece → List Piece
part (Array x n at) ps =
    lexeme (Word (codes "array")) ∷ gap space ∷ lexeme (Word x.text) ∷ lexeme (Mark LSquare) ∷ lexeme
    (shape.Number n) ∷ lexeme (Mark RSquare) ∷ finish ps
part (Proc p) ps =
    lexeme (Word (codes "proc")) ∷ gap space ∷ lexeme (Word p.name.text) ∷ lexeme (Mark LParen)
    ∷ names p.params (lexeme (Mark RParen) ∷ gap space ∷ lexeme (Mark LBrace) ∷ gap newline
    ∷ variables p.vars (body 1 p.body (ending p.ending (closing 0 ps))))

-- the pieces of a program
abbrev pub parts : List Part → List Piece
parts [] = []
parts (p ∷ all) = part p (parts all)

wrapped_text : (needed : Bool) (f : List Piece → List Piece) (text : List ℕ)
    → ((ps : List Piece) → text_of (f ps) ≡ text ++ text_of ps)
    → (ps : List Piece) → text_of (wrapped needed f ps) ≡ round needed text ++ text_of ps
wrapped_text needed f text h ps = grind (arith, append_assoc)

pub expression_is : (e : Expression) (ps : List Piece) → text_of (expression e ps) ≡ expression_text e
    ++ text_of ps
expression_is (Cell a e) ps = ap (λ t. a.text ++ (codes "[" ++ t))
    (expression_is e (lexeme (Mark RSquare) ∷ ps)) ∙ simp append_assoc
expression_is (Signed s e) ps = grind (arith, wrapped_text, append_assoc, expression_is e)
expression_is (Binary op a b) ps =
    let right = wrapped_text (is_no_tighter b (level_of op)) (expression b) (expression_text b)
    (expression_is b) ps in
    wrapped_text (is_looser a (level_of op)) (expression a) (expression_text a) (expression_is a) _
    ∙ ap (λ t. round (is_looser a (level_of op)) (expression_text a) ++
    (codes " " ++ (spelling (mark_of op) ++ (codes " " ++ t)))) right
    ∙ simp append_assoc
expression_is e ps = grind arith

pub arguments_is : (es : List Expression) (ps : List Piece) → text_of (arguments es ps) ≡ separated_text
    (argument_texts es) ++ text_of ps
arguments_is (e ∷ f ∷ es) ps = grind (arith, expression_is, append_assoc, arguments_is (f ∷ es) ps)
arguments_is es ps = grind (arith, expression_is)

pub names_is : (xs : List Name) (ps : List Piece) → text_of (names xs ps) ≡ separated_text (name_texts xs)
    ++ text_of ps
names_is (x ∷ y ∷ xs) ps = ap (λ t. x.text ++ (codes ", " ++ t)) (names_is (y ∷ xs) ps) ∙ simp append_assoc
names_is xs ps = grind arith

call_is : (f : Name) (es : List Expression) (ps : List Piece) → text_of (call f es ps) ≡ call_text f es
    ++ (codes ";" ++ (codes "\n" ++ text_of ps))
call_is f es ps = ap (λ t. f.text ++ (codes "(" ++ t)) (arguments_is es _) ∙ simp append_assoc

test_is : (word : List ℕ) (e : Expression) (ps : List Piece) → text_of (test word e ps)
    ≡ word ++ (codes " (" ++ (expression_text e ++ (codes ") {\n" ++ text_of ps)))
test_is word e ps = ap (λ t. word ++ (codes " (" ++ t)) (expression_is e _)

closing_is : (n : ℕ) (ps : List Piece) → text_of (closing n ps) ≡ line n (codes "}") ++ text_of ps
closing_is n ps = simp append_assoc

second_arm_is : (n : ℕ) (b : Statements) (f : List Piece → List Piece) (text : List ℕ)
    → ((ps : List Piece) → text_of (f ps) ≡ text ++ text_of ps)
    → (ps : List Piece) → text_of (second_arm n b f ps) ≡ else_lines n b text ++ text_of ps
second_arm_is n b f text h ps = grind (arith, closing_is, append_assoc)

mutual
  pub statement_is : (n : ℕ) (s : Statement) (ps : List Piece) → text_of (statement n s ps) ≡ statement_lines
      n s ++ text_of ps
  statement_is n (If at e a b) ps =
      ap (λ t. indent n ++ t)
      (test_is (codes "if") e _ ∙ ap (λ t. codes "if (" ++ (expression_text e ++ (codes ") {\n" ++ t)))
      (body_is (suc n) a _ ∙ ap (λ t. body_lines (suc n) a ++ t)
      (second_arm_is n b (body (suc n) b) (body_lines (suc n) b) (body_is (suc n) b) ps)))
      ∙ simp append_assoc
  statement_is n (While at e a) ps =
      ap (λ t. indent n ++ t)
      (test_is (codes "while") e _ ∙ ap (λ t. codes "while (" ++ (expression_text e ++ (codes ") {\n" ++ t)))
      (body_is (suc n) a _ ∙ ap (λ t. body_lines (suc n) a ++ t) (closing_is n ps)))
      ∙ simp append_assoc
  statement_is v0 v1 v2 = grind (arith, expression_is, append_assoc, call_is)

  pub body_is : (n : ℕ) (b : Statements) (ps : List Piece) → text_of (body n b ps) ≡ body_lines n b ++ text_of
      ps
  body_is n Nothing ps = refl
  body_is n (Then s rest) ps = statement_is n s _ ∙ ap (λ t. statement_lines n s ++ t) (body_is n rest ps)
      ∙ simp append_assoc

variables_is : (xs : List Name) (ps : List Piece) → text_of (variables xs ps) ≡ variable_lines xs ++ text_of
    ps
variables_is xs ps = grind (arith, names_is, append_assoc)

ending_is : (e : Option Last) (ps : List Piece) → text_of (ending e ps) ≡ ending_lines e ++ text_of ps
ending_is e ps = grind (arith, expression_is, append_assoc)

head_is : (p : Procedure) (text : List ℕ)
    → codes "proc "
    ++ (p.name.text ++ (codes "(" ++ (separated_text (name_texts p.params) ++ (codes ") {\n" ++ text))))
    ≡ line 0 (codes "proc " ++ p.name.text ++ codes "(" ++ separated_text (name_texts p.params) ++ codes
    ") {") ++ text
head_is p text = simp append_assoc

five : (h v b e c text : List ℕ) → h ++ (v ++ (b ++ (e ++ (c ++ text)))) ≡ (h ++ v ++ b ++ e ++ c) ++ text
five h v b e c text = simp append_assoc

part_is : (p : Part) (ps : List Piece) → text_of (part p ps) ≡ part_lines p ++ text_of ps
part_is (Array x n at) ps = simp append_assoc
part_is (Proc p) ps =
    ap (λ t. codes "proc " ++ (p.name.text ++ (codes "(" ++ t))) (names_is p.params _)
    ∙ head_is p _
    ∙ ap (λ t. line 0 (codes "proc " ++ p.name.text ++ codes "(" ++ separated_text (name_texts p.params)
    ++ codes ") {") ++ t)
    (grind (arith, variables_is, body_is, ending_is, closing_is))
    ∙ five (line 0 (codes "proc " ++ p.name.text ++ codes "(" ++ separated_text (name_texts p.params) ++ codes
    ") {")) (variable_lines p.vars) (body_lines 1 p.body) (ending_lines p.ending) (line 0 (codes "}"))
    (text_of ps)

-- the pieces of a program are its printed form
pub printed_is : (all : List Part) → text_of (parts all) ≡ printed_form all
printed_is [] = refl
printed_is (p ∷ all) = grind (arith, part_is, printed_is all)
