-- What a program is whose printed form can be read: its names are names, its numbers are words, and
-- its lines and blocks keep the limits.
use Rattle.std.specs.Prelude.{◌≡◌, ℕ, suc, ◌+◌, ◌^◌, ◌<◌, ◌≤◌, Bool, false, IsTrue, length, List, [], ◌∷◌}
use Rattle.std.specs.Prelude.{Option, Some, None, if◌then◌else◌}
use Rattle.src_ast.specs.declared.lexeme.Name.{Name}
use Rattle.src_ast.specs.declared.lexeme.Lexeme.{Lexeme}
use Rattle.src_ast.specs.declared.lexeme.Place.{Place}
use Rattle.src_ast.specs.LanguageLimits.{most_name_bytes, most_braces, most_in_row}
use Rattle.src_ast.specs.Lexemes.{Lex, KeepLimits}
use Rattle.src_ast.specs.Grammar.{level_of, is_reserved, Tree}
use Rattle.src_ast.specs.Printed.{is_looser, is_no_tighter, is_binary, printed_form}
use Rattle.src_ast.specs.Same.{Same}
use Rattle.src_ast.specs.Syntax.{Expression, Number, Variable, Cell, Signed, Binary, Statement, Assign, Store}
use Rattle.src_ast.specs.Syntax.{Print, Read, Give, Take, Call, If, While, Statements, Nothing, Then, Last}
use Rattle.src_ast.specs.Syntax.{Procedure, Part, Array, Proc}
use Rattle.ws_words.specs.Letters.{is_word}

-- these bytes can stand in a text as a name
pub record IsWrittenName (text : List ℕ) : Type 0 where
  pub word : IsTrue (is_word text)
  pub free : is_reserved text ≡ false
  pub short : length text ≤ most_name_bytes

abbrev pub AreWrittenNames : List Name → Type 0
AreWrittenNames [] = Unit {0}
AreWrittenNames (x ∷ xs) = IsWrittenName x.text × AreWrittenNames xs

-- a number is a word
abbrev pub IsWrittenNumber : ℕ → Type 0
IsWrittenNumber n = n < 2 ^ 64

-- its names can stand in a text, and its numbers are words
abbrev pub IsWrittenExpression : Expression → Type 0
IsWrittenExpression (Number n) = IsWrittenNumber n
IsWrittenExpression (Variable x) = IsWrittenName x.text
IsWrittenExpression (Cell a e) = IsWrittenName a.text × IsWrittenExpression e
IsWrittenExpression (Signed s e) = IsWrittenExpression e
IsWrittenExpression (Binary op a b) = IsWrittenExpression a × IsWrittenExpression b

abbrev pub AreWrittenExpressions : List Expression → Type 0
AreWrittenExpressions [] = Unit {0}
AreWrittenExpressions (e ∷ es) = IsWrittenExpression e × AreWrittenExpressions es

-- parentheses are two lexemes
abbrev pub rounded : Bool → ℕ → ℕ
rounded needed n = if needed then n + 2 else n

-- how many lexemes the printed form of an expression has
abbrev pub width : Expression → ℕ
width (Number n) = 1
width (Variable x) = 1
width (Cell a e) = width e + 3
width (Signed s e) = rounded (is_binary e) (width e) + 1
width (Binary op a b) =
    rounded (is_looser a (level_of op)) (width a) + 1
    + rounded (is_no_tighter b (level_of op)) (width b)

-- those of arguments, with commas between them
abbrev pub list_width : List Expression → ℕ
list_width [] = 0
list_width (e ∷ []) = width e
list_width (e ∷ f ∷ es) = width e + 1 + list_width (f ∷ es)

-- those of names, with commas between them
abbrev pub names_width : List Name → ℕ
names_width [] = 0
names_width (x ∷ []) = 1
names_width (x ∷ y ∷ xs) = 2 + names_width (y ∷ xs)

-- so many lexemes may stand in a row
abbrev pub FitsRow : ℕ → Type 0
FitsRow n = n ≤ most_in_row

-- A statement inside this many open braces: its rows and blocks keep the limits.
abbrev mutual
  pub IsWrittenStatement : ℕ → Statement → Type 0
  IsWrittenStatement braces (Assign at x e) =
      IsWrittenName x.text × IsWrittenExpression e × FitsRow (width e + 2)
  IsWrittenStatement braces (Store at a i e) =
      IsWrittenName a.text × IsWrittenExpression i × IsWrittenExpression e
      × FitsRow (width i + width e + 4)
  IsWrittenStatement braces (Print at e) = IsWrittenExpression e × FitsRow (width e + 1)
  IsWrittenStatement braces (Read at x) = IsWrittenName x.text
  IsWrittenStatement braces (Give at n p x) = IsWrittenNumber n × IsWrittenName x.text
  IsWrittenStatement braces (Take at n p e) =
      IsWrittenNumber n × IsWrittenExpression e × FitsRow (width e + 3)
  IsWrittenStatement braces (Call at None f es) =
      IsWrittenName f.text × AreWrittenExpressions es × FitsRow (list_width es + 3)
  IsWrittenStatement braces (Call at (Some x) f es) =
      IsWrittenName x.text × IsWrittenName f.text × AreWrittenExpressions es
      × FitsRow (list_width es + 5)
  IsWrittenStatement braces (If at e a b) =
      IsWrittenExpression e × FitsRow (width e + 3) × (suc braces ≤ most_braces)
      × AreWrittenStatements (suc braces) a × AreWrittenStatements (suc braces) b
  IsWrittenStatement braces (While at e body) =
      IsWrittenExpression e × FitsRow (width e + 3) × (suc braces ≤ most_braces)
      × AreWrittenStatements (suc braces) body

  pub AreWrittenStatements : ℕ → Statements → Type 0
  AreWrittenStatements braces Nothing = Unit {0}
  AreWrittenStatements braces (Then s rest) =
      IsWrittenStatement braces s × AreWrittenStatements braces rest

abbrev pub IsWrittenEnding : Option Last → Type 0
IsWrittenEnding None = Unit {0}
IsWrittenEnding (Some last) = IsWrittenExpression last.value × FitsRow (width last.value + 1)

pub record IsWrittenProcedure (p : Procedure) : Type 0 where
  pub name : IsWrittenName p.name.text
  pub params : AreWrittenNames p.params
  pub params_row : FitsRow (names_width p.params + 4)
  pub vars : AreWrittenNames p.vars
  pub vars_row : FitsRow (names_width p.vars + 1)
  pub body : AreWrittenStatements 1 p.body
  pub ending : IsWrittenEnding p.ending

abbrev pub IsWrittenPart : Part → Type 0
IsWrittenPart (Array x n at) = IsWrittenName x.text × IsWrittenNumber n
IsWrittenPart (Proc p) = IsWrittenProcedure p

-- the printed form of these arrays and procedures can be read
abbrev pub IsWritten : List Part → Type 0
IsWritten [] = Unit {0}
IsWritten (p ∷ parts) = IsWrittenPart p × IsWritten parts

-- The printed form has lexemes that keep the limits, and they have a tree, which is the same
-- program.
pub record ReadsTheSame (parts : List Part) : Type 0 where
  pub ls : List Lexeme
  pub finish : Place
  pub again : List Part
  pub lex : Lex (printed_form parts) ls finish
  pub kept : KeepLimits 0 0 ls
  pub tree : Tree ls again
  pub same : Same parts again

-- The printed form has lexemes, and where they keep the limits, the program is written.
pub record HasPrintedLexemes (parts : List Part) : Type 0 where
  pub ls : List Lexeme
  pub finish : Place
  pub lex : Lex (printed_form parts) ls finish
  pub written : KeepLimits 0 0 ls → IsWritten parts
