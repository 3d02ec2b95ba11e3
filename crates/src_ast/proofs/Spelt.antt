-- Each lexeme of the printed form is spelled as far as it goes.
use Rattle.std.proofs.Common.{arith, ℕ, zero, suc, Bool, IsTrue, List, ◌∷◌, Option, codes, refl, []}
use Rattle.std.specs.List.{list_all}
use Rattle.src_ast.specs.declared.lexeme.Name.{Name}
use Rattle.src_ast.specs.declared.lexeme.Shape.TheVariants.{Mark}
use Rattle.src_ast.specs.declared.lexeme.Mark.TheVariants as mark
use Rattle.src_ast.specs.declared.lexeme.Mark.TheVariants.{RBrace, RSquare, Semi}
use Rattle.src_ast.specs.Lexemes.{is_blank}
use Rattle.src_ast.specs.Grammar.{level_of}
use Rattle.src_ast.specs.Syntax.{Expression, Cell, Signed, Binary, Statement, If, While, Statements, Nothing}
use Rattle.src_ast.specs.Syntax.{Then, Last, Part}
use Rattle.src_ast.specs.Printed.{is_looser, indent}
use Rattle.src_ast.specs.Written.{IsWrittenName, AreWrittenNames, IsWrittenExpression, AreWrittenExpressions}
use Rattle.src_ast.specs.Written.{IsWrittenStatement, AreWrittenStatements, IsWrittenEnding}
use Rattle.src_ast.proofs.Nearly.{IsNearlyPart, AreNearlyWritten}
use Rattle.src_ast.proofs.Pieces.{Piece, lexeme, text_of, AreSpelled}
use Rattle.src_ast.proofs.Spelling.{is_second, Breaks, spells_mark, spells_word, spells_number, word_starts}
use Rattle.src_ast.proofs.Spelling.{decimal_starts}
use Rattle.src_ast.proofs.Printing.{wrapped, expression, arguments, names, finish, call, closing, test}
use Rattle.src_ast.proofs.Printing.{second_arm, statement, body, variables, ending, part, parts}
use Rattle.ws_words.specs.Letters.{is_word, starts_without}

-- no mark goes on into an expression
starts_wrapped : (needed : Bool) (f : List Piece → List Piece) (ps : List Piece)
    → IsTrue (starts_without is_second (text_of (f ps)))
    → IsTrue (starts_without is_second (text_of (wrapped needed f ps)))
starts_wrapped needed f ps h = grind arith

starts : (e : Expression) → IsWrittenExpression e → (ps : List Piece)
    → IsTrue (starts_without is_second (text_of (expression e ps)))
starts (Binary op a b) h ps = starts_wrapped (is_looser a (level_of op)) (expression a) _ (starts a h.0 _)
starts e h ps = grind (arith, decimal_starts, word_starts)

wrapped_spelt : (needed : Bool) (f : List Piece → List Piece)
    → ((qs : List Piece) → IsTrue (starts_without is_second (text_of (f qs))))
    → ((qs : List Piece) → Breaks (text_of qs) → AreSpelled qs → AreSpelled (f qs))
    → (ps : List Piece) → Breaks (text_of ps) → AreSpelled ps → AreSpelled (wrapped needed f ps)
wrapped_spelt needed f s h ps b k = grind (arith, spells_mark)

expression_spelt : (e : Expression) → IsWrittenExpression e → (ps : List Piece) → Breaks (text_of ps)
    → AreSpelled ps → AreSpelled (expression e ps)
expression_spelt (Cell a e) h ps b k =
    let ih = expression_spelt e h.1 (lexeme (Mark RSquare) ∷ ps) (record { word = refl; mark = refl })
    (spells_mark RSquare _ b.mark, k) in grind (arith, spells_word, spells_mark, starts)
expression_spelt (Signed s e) h ps b k =
    grind (arith, spells_mark, starts_wrapped, expression, starts, wrapped_spelt, expression_spelt e h)
expression_spelt (Binary op a b) h ps br k =
    let ih1 = expression_spelt a h.0 in
    grind (arith, wrapped_spelt, expression, starts, spells_mark, expression_spelt b h.1)
expression_spelt e h ps b k = grind (arith, spells_number, spells_word)

finish_spelt : (ps : List Piece) → AreSpelled ps → AreSpelled (finish ps)
finish_spelt ps k = (spells_mark Semi _ refl, (refl, k))

arguments_spelt : (es : List Expression) → AreWrittenExpressions es → (ps : List Piece) → Breaks (text_of ps)
    → AreSpelled ps → AreSpelled (arguments es ps)
arguments_spelt (e ∷ f ∷ es) h ps b k =
    grind (arith, expression_spelt, spells_mark, arguments_spelt (f ∷ es) h.1 ps b k)
arguments_spelt es h ps b k = grind (arith, expression_spelt)

arguments_start : (es : List Expression) → AreWrittenExpressions es → (ps : List Piece)
    → IsTrue (starts_without is_second (text_of ps))
    → IsTrue (starts_without is_second (text_of (arguments es ps)))
arguments_start [] h ps b = b
arguments_start (e ∷ []) h ps b = starts e h.0 ps
arguments_start (e ∷ f ∷ es) h ps b = starts e h.0 _

names_spelt : (xs : List Name) → AreWrittenNames xs → (ps : List Piece) → Breaks (text_of ps) → AreSpelled ps
    → AreSpelled (names xs ps)
names_spelt (x ∷ y ∷ xs) h ps b k = grind (arith, spells_word, spells_mark, names_spelt (y ∷ xs) h.1 ps b k)
names_spelt xs h ps b k = grind (arith, spells_word)

names_start : (xs : List Name) → AreWrittenNames xs → (ps : List Piece)
    → IsTrue (starts_without is_second (text_of ps))
    → IsTrue (starts_without is_second (text_of (names xs ps)))
names_start [] h ps b = b
names_start (x ∷ []) h ps b = word_starts x.text (text_of ps) h.0.word
names_start (x ∷ y ∷ xs) h ps b = word_starts x.text _ h.0.word

indent_blank : (n : ℕ) → IsTrue (list_all is_blank (indent n))
indent_blank zero = refl
indent_blank (suc n) = indent_blank n

call_spelt : (f : Name) (es : List Expression) → IsWrittenName f.text → AreWrittenExpressions es
    → (ps : List Piece) → AreSpelled ps → AreSpelled (call f es ps)
call_spelt f es h g ps k =
    grind (arith, spells_word, spells_mark, arguments_start, arguments_spelt, finish_spelt)

closing_spelt : (n : ℕ) (ps : List Piece) → AreSpelled ps → AreSpelled (closing n ps)
closing_spelt n ps k = (indent_blank n, (spells_mark RBrace _ refl, (refl, k)))

-- an expression at the end of a statement
last_spelt : (e : Expression) → IsWrittenExpression e → (ps : List Piece) → AreSpelled ps
    → AreSpelled (expression e (finish ps))
last_spelt e h ps k = grind (arith, expression_spelt, finish_spelt)

test_spelt : (word : List ℕ) (e : Expression) → IsTrue (is_word word) → IsWrittenExpression e
    → (ps : List Piece) → AreSpelled ps → AreSpelled (test word e ps)
test_spelt word e w h ps k = grind (arith, spells_word, spells_mark, starts, expression_spelt)

second_arm_spelt : (n : ℕ) (b : Statements) (f : List Piece → List Piece)
    → ((qs : List Piece) → AreSpelled qs → AreSpelled (f qs))
    → (ps : List Piece) → AreSpelled ps → AreSpelled (second_arm n b f ps)
second_arm_spelt n b f h ps k = grind (arith, closing_spelt, indent_blank, spells_mark, spells_word)

ruleset spells = (spells_word, spells_mark, spells_number, finish_spelt)

mutual
  pub statement_spelt : (n braces : ℕ) (s : Statement) → IsWrittenStatement braces s → (ps : List Piece)
      → AreSpelled ps → AreSpelled (statement n s ps)
  statement_spelt n braces (If at e a b) h ps k =
      let x = body_spelt (suc n) _ b h.4 in
      let y = body_spelt (suc n) _ a h.3 _ (second_arm_spelt n b _ x ps k) in
      (indent_blank n, test_spelt (codes "if") e refl h.0 _ y)
  statement_spelt n braces (While at e a) h ps k = (
    indent_blank n,
    test_spelt (codes "while") e refl h.0 _
        (body_spelt (suc n) _ a h.3 _ (closing_spelt n ps k)),
  )
  statement_spelt v0 v1 v2 v3 v4 v5 =
      grind (arith, spells, indent_blank, last_spelt, starts, expression_spelt, call_spelt)

  pub body_spelt : (n braces : ℕ) (b : Statements) → AreWrittenStatements braces b → (ps : List Piece)
      → AreSpelled ps → AreSpelled (body n b ps)
  body_spelt n braces Nothing h ps k = k
  body_spelt n braces (Then s rest) h ps k = statement_spelt n braces s h.0 _
      (body_spelt n braces rest h.1 ps k)

variables_spelt : (xs : List Name) → AreWrittenNames xs → (ps : List Piece) → AreSpelled ps
    → AreSpelled (variables xs ps)
variables_spelt [] h ps k = k
variables_spelt (x ∷ xs) h ps k = (
  refl,
  (
    spells_word (codes "var") _ refl refl,
    (refl, names_spelt (x ∷ xs) h _ (record { word = refl; mark = refl }) (finish_spelt ps k)),
  ),
)

ending_spelt : (e : Option Last) → IsWrittenEnding e → (ps : List Piece) → AreSpelled ps
    → AreSpelled (ending e ps)
ending_spelt e h ps k = grind (arith, spells_word, last_spelt)

ruleset lists_spelt = (names_spelt, variables_spelt)

part_spelt : (p : Part) → IsNearlyPart p → (ps : List Piece) → AreSpelled ps → AreSpelled (part p ps)
part_spelt v0 v1 v2 v3 =
    grind (arith, spells, decimal_starts, names_start, lists_spelt, body_spelt, ending_spelt, closing_spelt)

-- the pieces of a program are spelled
pub parts_spelt : (all : List Part) → AreNearlyWritten all → AreSpelled (parts all)
parts_spelt [] h = tt
parts_spelt (p ∷ all) h = part_spelt p h.0 (parts all) (parts_spelt all h.1)
