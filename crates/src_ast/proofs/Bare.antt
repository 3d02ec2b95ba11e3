-- What does not see the places of a program: how it is written and how it is printed.
use Rattle.std.proofs.Common.{arith, ◌≡◌, ℕ, suc, ◌+◌, ◌≤◌, List, ◌∷◌, ◌++◌, Option, Some, None, codes, refl}
use Rattle.std.proofs.Common.{sym, ap, ◌∙◌, subst, []}
use Rattle.src_ast.specs.declared.lexeme.Name.{Name}
use Rattle.src_ast.specs.LanguageLimits.{most_braces}
use Rattle.src_ast.specs.Lexemes.{spelling}
use Rattle.src_ast.specs.Grammar.{level_of, mark_of, sign_mark}
use Rattle.src_ast.specs.Printed.{round, is_looser, is_no_tighter, is_binary, expression_text, separated_text}
use Rattle.src_ast.specs.Printed.{argument_texts, name_texts, call_text, line, else_lines, statement_lines}
use Rattle.src_ast.specs.Printed.{body_lines, variable_lines, ending_lines, part_lines, printed_form}
use Rattle.src_ast.specs.Same.{bare, bare_names, bare_expression, bare_expressions, bare_statement}
use Rattle.src_ast.specs.Same.{bare_statements, bare_ending, bare_part, bare_parts, Same}
use Rattle.src_ast.specs.Syntax.{Expression, Cell, Signed, Binary, Statement, Assign, Store}
use Rattle.src_ast.specs.Syntax.{Print, Read, Give, Take, Call, If, While, Statements, Nothing, Then, Last}
use Rattle.src_ast.specs.Syntax.{Part, Array, Proc}
use Rattle.src_ast.specs.Written.{IsWrittenName, AreWrittenNames, IsWrittenNumber, IsWrittenExpression}
use Rattle.src_ast.specs.Written.{AreWrittenExpressions, rounded, width, list_width, names_width, FitsRow}
use Rattle.src_ast.specs.Written.{IsWrittenStatement, AreWrittenStatements, IsWrittenEnding}
use Rattle.src_ast.proofs.Nearly.{AreNearlyWritten}

binary_bare : (e : Expression) → is_binary (bare_expression e) ≡ is_binary e
binary_bare e = grind arith

looser_bare : (e : Expression) (level : ℕ) → is_looser (bare_expression e) level ≡ is_looser e level
looser_bare e level = grind arith

tighter_bare : (e : Expression) (level : ℕ) → is_no_tighter (bare_expression e) level ≡ is_no_tighter e level
tighter_bare e level = grind arith

width_bare : (e : Expression) → width (bare_expression e) ≡ width e
width_bare (Cell a e) = ap (λ n. n + 3) (width_bare e)
width_bare (Signed s e) = λ i. rounded (binary_bare e i) (width_bare e i) + 1
width_bare (Binary op a b) =
    λ i. rounded (looser_bare a (level_of op) i) (width_bare a i) + 1 + rounded
    (tighter_bare b (level_of op) i) (width_bare b i)
width_bare e = grind arith

list_width_bare : (es : List Expression) → list_width (bare_expressions es) ≡ list_width es
list_width_bare (e ∷ f ∷ es) = λ i. width_bare e i + 1 + list_width_bare (f ∷ es) i
list_width_bare es = grind (arith, width_bare)

-- as many lexemes
pub names_width_bare : (xs : List Name) → names_width (bare_names xs) ≡ names_width xs
names_width_bare (x ∷ y ∷ xs) = ap (λ n. 2 + n) (names_width_bare (y ∷ xs))
names_width_bare xs = grind arith

names_written : (xs : List Name) → AreWrittenNames (bare_names xs) ≡ AreWrittenNames xs
names_written [] = refl
names_written (x ∷ xs) = ap (λ T. IsWrittenName x.text × T) (names_written xs)

expression_written : (e : Expression) → IsWrittenExpression (bare_expression e) ≡ IsWrittenExpression e
expression_written (Cell a e) = ap (λ T. IsWrittenName a.text × T) (expression_written e)
expression_written (Signed s e) = expression_written e
expression_written (Binary op a b) = λ i. expression_written a i × expression_written b i
expression_written e = grind arith

expressions_written : (es : List Expression) → AreWrittenExpressions (bare_expressions es)
    ≡ AreWrittenExpressions es
expressions_written [] = refl
expressions_written (e ∷ es) = λ i. expression_written e i × expressions_written es i

mutual
  statement_written : (n : ℕ) (s : Statement) → IsWrittenStatement n (bare_statement s) ≡ IsWrittenStatement n
      s
  statement_written n (Assign at x e) = λ i. IsWrittenName x.text × expression_written e i
      × FitsRow (width_bare e i + 2)
  statement_written n (Store at a j e) =
      λ i. IsWrittenName a.text × expression_written j i × expression_written e i
      × FitsRow (width_bare j i + width_bare e i + 4)
  statement_written n (Print at e) = λ i. expression_written e i × FitsRow (width_bare e i + 1)
  statement_written n (Read at x) = refl
  statement_written n (Give at port p x) = refl
  statement_written n (Take at port p e) = λ i. IsWrittenNumber port × expression_written e i
      × FitsRow (width_bare e i + 3)
  statement_written n (Call at None f es) = λ i. IsWrittenName f.text × expressions_written es i
      × FitsRow (list_width_bare es i + 3)
  statement_written n (Call at (Some x) f es) =
      λ i. IsWrittenName x.text × IsWrittenName f.text × expressions_written es i
      × FitsRow (list_width_bare es i + 5)
  statement_written n (If at e a b) =
      λ i. expression_written e i × FitsRow (width_bare e i + 3) × (suc n ≤ most_braces)
      × body_written (suc n) a i × body_written (suc n) b i
  statement_written n (While at e body) =
      λ i. expression_written e i × FitsRow (width_bare e i + 3) × (suc n ≤ most_braces)
      × body_written (suc n) body i

  body_written : (n : ℕ) (b : Statements) → AreWrittenStatements n (bare_statements b) ≡ AreWrittenStatements
      n b
  body_written n Nothing = refl
  body_written n (Then s rest) = λ i. statement_written n s i × body_written n rest i

ending_written : (e : Option Last) → IsWrittenEnding (bare_ending e) ≡ IsWrittenEnding e
ending_written None = refl
ending_written (Some last) = λ i. expression_written last.value i × FitsRow (width_bare last.value i + 1)

cast : {S T : Type 0} → S ≡ T → S → T
cast e h = rw e at h

without_places : (all : List Part) → AreNearlyWritten all → AreNearlyWritten (bare_parts all)
without_places [] h = tt
without_places (Array x n at ∷ all) h = (h.0, without_places all h.1)
without_places (Proc p ∷ all) h =
    grind (arith, cast, names_written, names_width_bare, body_written, ending_written, without_places all h.1)

with_places : (all : List Part) → AreNearlyWritten (bare_parts all) → AreNearlyWritten all
with_places [] h = tt
with_places (Array x n at ∷ all) h = (h.0, with_places all h.1)
with_places (Proc p ∷ all) h =
    grind (arith, cast, names_written, names_width_bare, body_written, ending_written, with_places all h.1)

-- the same programs are alike nearly written
pub same_nearly : (a b : List Part) → Same a b → AreNearlyWritten b → AreNearlyWritten a
same_nearly a b e h = with_places a (subst AreNearlyWritten (sym e) (without_places b h))

text_bare : (e : Expression) → expression_text (bare_expression e) ≡ expression_text e
text_bare (Cell a e) = grind (arith, text_bare e)
text_bare (Signed s e) = λ i. spelling (sign_mark s) ++ round (binary_bare e i) (text_bare e i)
text_bare (Binary op a b) =
    λ i. round (looser_bare a (level_of op) i) (text_bare a i) ++ codes " " ++ spelling (mark_of op) ++ codes
    " "
    ++ round (tighter_bare b (level_of op) i) (text_bare b i)
text_bare e = grind arith

argument_texts_bare : (es : List Expression) → argument_texts (bare_expressions es) ≡ argument_texts es
argument_texts_bare [] = refl
argument_texts_bare (e ∷ es) = λ i. text_bare e i ∷ argument_texts_bare es i

name_texts_bare : (xs : List Name) → name_texts (bare_names xs) ≡ name_texts xs
name_texts_bare [] = refl
name_texts_bare (x ∷ xs) = ap (λ ts. x.text ∷ ts) (name_texts_bare xs)

call_bare : (f : Name) (es : List Expression) → call_text (bare f) (bare_expressions es) ≡ call_text f es
call_bare f es = ap (λ ts. f.text ++ codes "(" ++ separated_text ts ++ codes ")") (argument_texts_bare es)

else_bare : (n : ℕ) (b : Statements) (text : List ℕ) → else_lines n (bare_statements b) text ≡ else_lines n b
    text
else_bare n b text = grind arith

mutual
  statement_bare : (n : ℕ) (s : Statement) → statement_lines n (bare_statement s) ≡ statement_lines n s
  statement_bare n (If at e a b) =
      (λ i. line n (codes "if (" ++ text_bare e i ++ codes ") {") ++ body_bare (suc n) a i ++ else_lines n
      (bare_statements b) (body_bare (suc n) b i))
      ∙ ap (λ t. line n (codes "if (" ++ expression_text e ++ codes ") {") ++ body_lines (suc n) a ++ t)
      (else_bare n b (body_lines (suc n) b))
  statement_bare n (While at e body) =
      λ i. line n (codes "while (" ++ text_bare e i ++ codes ") {") ++ body_bare (suc n) body i ++ line n
      (codes "}")
  statement_bare v0 v1 = grind (arith, text_bare, call_bare)

  body_bare : (n : ℕ) (b : Statements) → body_lines n (bare_statements b) ≡ body_lines n b
  body_bare n Nothing = refl
  body_bare n (Then s rest) = λ i. statement_bare n s i ++ body_bare n rest i

variables_bare : (xs : List Name) → variable_lines (bare_names xs) ≡ variable_lines xs
variables_bare xs = grind (arith, name_texts_bare)

ending_bare : (e : Option Last) → ending_lines (bare_ending e) ≡ ending_lines e
ending_bare e = grind (arith, text_bare)

part_bare : (p : Part) → part_lines (bare_part p) ≡ part_lines p
part_bare v0 = grind (arith, name_texts_bare, variables_bare, body_bare, ending_bare)

printed_bare : (all : List Part) → printed_form (bare_parts all) ≡ printed_form all
printed_bare [] = refl
printed_bare (p ∷ all) = λ i. part_bare p i ++ printed_bare all i

-- the same programs have one printed form
pub printed_alike : (a b : List Part) → Same a b → printed_form a ≡ printed_form b
printed_alike a b e = sym (printed_bare a) ∙ ap printed_form e ∙ printed_bare b
