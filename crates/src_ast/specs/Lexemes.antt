-- The lexemes of a text: gap, lexeme, gap, lexeme, and so on, and a gap or an open comment at the
-- end.
use Rattle.std.specs.Prelude.{◌≡◌, ℕ, zero, suc, ◌+◌, ◌^◌, ◌<◌, ◌≤◌, not, length, ◌==◌, ◌&&◌, ◌||◌, Bool}
use Rattle.std.specs.Prelude.{true, false, IsTrue, List, [], ◌∷◌, ◌++◌, codes, if◌then◌else◌}
use Rattle.std.specs.List.{list_all}
use Rattle.ws_words.specs.Digits.{is_digit, is_number, value_of}
use Rattle.src_ast.specs.LanguageLimits.{most_name_bytes, most_braces, most_in_row}
use Rattle.src_ast.specs.declared.lexeme.Place.{Place}
use Rattle.src_ast.specs.declared.lexeme.Lexeme.{Lexeme}
use Rattle.src_ast.specs.declared.lexeme.Shape.{Shape}
use Rattle.src_ast.specs.declared.lexeme.Shape.TheVariants as shape
use Rattle.src_ast.specs.declared.lexeme.Mark.{Mark}
use Rattle.src_ast.specs.declared.lexeme.Mark.TheVariants.{LParen, RParen, LBrace, RBrace, LSquare, RSquare}
use Rattle.src_ast.specs.declared.lexeme.Mark.TheVariants.{Comma, Semi, Assign, Plus, Minus, Star, Slash}
use Rattle.src_ast.specs.declared.lexeme.Mark.TheVariants.{Percent, Amp, Bar, Caret, Tilde, Bang, Less, More}
use Rattle.src_ast.specs.declared.lexeme.Mark.TheVariants.{LessEq, MoreEq, Same, Differs, ShiftLeft}
use Rattle.src_ast.specs.declared.lexeme.Mark.TheVariants.{ShiftRight}
use Rattle.ws_words.specs.Letters.{is_word_byte, is_word, starts_without}

-- the bytes of a mark
abbrev pub spelling : Mark → List ℕ
spelling LParen = codes "("
spelling RParen = codes ")"
spelling LBrace = codes "{"
spelling RBrace = codes "}"
spelling LSquare = codes "["
spelling RSquare = codes "]"
spelling Comma = codes ","
spelling Semi = codes ";"
spelling Assign = codes "="
spelling Plus = codes "+"
spelling Minus = codes "-"
spelling Star = codes "*"
spelling Slash = codes "/"
spelling Percent = codes "%"
spelling Amp = codes "&"
spelling Bar = codes "|"
spelling Caret = codes "^"
spelling Tilde = codes "~"
spelling Bang = codes "!"
spelling Less = codes "<"
spelling More = codes ">"
spelling LessEq = codes "<="
spelling MoreEq = codes ">="
spelling Same = codes "=="
spelling Differs = codes "!="
spelling ShiftLeft = codes "<<"
spelling ShiftRight = codes ">>"

abbrev pub start : Place
start = record { line = 1; column = 1 }

-- where the byte after this one stands
abbrev pub past : Place → ℕ → Place
past at byte =
    if byte == 10 then record { line = at.line + 1; column = 1 }
    else record { line = at.line; column = at.column + 1 }

-- where what stands after these bytes begins
abbrev pub after : Place → List ℕ → Place
after at [] = at
after at (byte ∷ bytes) = after (past at byte) bytes

-- space, tab, carriage return and line feed
abbrev pub is_blank : ℕ → Bool
is_blank b = (b == 32) || (b == 9) || (b == 13) || (b == 10)

-- blanks and comments, each comment with its line feed
abbrev mutual
  pub is_gap : List ℕ → Bool
  is_gap [] = true
  is_gap (b ∷ bytes) = if is_blank b then is_gap bytes else ((b == 35) && is_comment bytes)

  pub is_comment : List ℕ → Bool
  is_comment [] = false
  is_comment (b ∷ bytes) = if b == 10 then is_gap bytes else is_comment bytes

-- nothing, or a comment that the text's end closes
abbrev pub is_end : List ℕ → Bool
is_end [] = true
is_end (b ∷ bytes) = (b == 35) && list_all (λ c. not (c == 10)) bytes

-- no longer mark begins this text
abbrev pub IsLongest : List ℕ → List ℕ → Type 0
IsLongest bytes text =
    (other : Mark) (more : List ℕ) → text ≡ spelling other ++ more
    → length (spelling other) ≤ length bytes

-- These bytes, in front of this rest, are the longest spelling of the shape.
pub data Spells : Shape → List ℕ → List ℕ → Type 0 where
  word : {bytes rest : List ℕ} → IsTrue (is_word bytes) → IsTrue (starts_without is_word_byte rest)
      → Spells (shape.Word bytes) bytes rest
  number : {bytes rest : List ℕ} (n : ℕ) → IsTrue (is_number bytes)
      → IsTrue (starts_without is_digit rest) → n ≡ value_of bytes → n < 2 ^ 64
      → Spells (shape.Number n) bytes rest
  mark : {bytes rest : List ℕ} (m : Mark) → bytes ≡ spelling m → IsLongest bytes (bytes ++ rest)
      → Spells (shape.Mark m) bytes rest

-- From this place on the text begins with these lexemes, each after a gap; after them and a gap
-- stands this rest, at its place.
pub data LexesTo : Place → List ℕ → List Lexeme → Place → List ℕ → Type 0 where
  stop : {at place : Place} {text rest : List ℕ} (gap : List ℕ) → text ≡ gap ++ rest
      → IsTrue (is_gap gap) → place ≡ after at gap
      → LexesTo at text [] place rest
  next : {at place : Place} {text rest : List ℕ} {ls : List Lexeme} (l : Lexeme)
      (gap bytes following : List ℕ)
      → text ≡ gap ++ (bytes ++ following) → IsTrue (is_gap gap) → l.place ≡ after at gap
      → Spells l.shape bytes following
      → LexesTo (after l.place bytes) following ls place rest → LexesTo at text (l ∷ ls) place rest

-- the text has these lexemes, and its end stands at this place
pub record Lex (text : List ℕ) (ls : List Lexeme) (finish : Place) : Type 0 where
  pub place : Place
  pub rest : List ℕ
  pub leads : LexesTo start text ls place rest
  pub over : IsTrue (is_end rest)
  pub finish_is : finish ≡ after start text

-- how many braces are open after a lexeme; a `}` where none is open leaves none
abbrev pub open_past : ℕ → Shape → ℕ
open_past open' (shape.Word w) = open'
open_past open' (shape.Number n) = open'
open_past open' (shape.Mark LBrace) = suc open'
open_past zero (shape.Mark RBrace) = zero
open_past (suc open') (shape.Mark RBrace) = open'
open_past open' (shape.Mark _) = open'

-- how many lexemes stand in a row after a lexeme, none of which is `;`, `{` or `}`
abbrev pub row_past : ℕ → Shape → ℕ
row_past row (shape.Word w) = suc row
row_past row (shape.Number n) = suc row
row_past row (shape.Mark Semi) = 0
row_past row (shape.Mark LBrace) = 0
row_past row (shape.Mark RBrace) = 0
row_past row (shape.Mark _) = suc row

abbrev pub IsShort : Shape → Type 0
IsShort (shape.Word w) = length w ≤ most_name_bytes
IsShort (shape.Number n) = Unit {0}
IsShort (shape.Mark m) = Unit {0}

-- After this many open braces and this many lexemes in a row, these keep the limits.
abbrev pub KeepLimits : ℕ → ℕ → List Lexeme → Type 0
KeepLimits open' row [] = Unit {0}
KeepLimits open' row (l ∷ ls) =
    IsShort l.shape × (open_past open' l.shape ≤ most_braces) × (row_past row l.shape ≤ most_in_row)
    × KeepLimits (open_past open' l.shape) (row_past row l.shape) ls

-- the braces that are open, and the lexemes in a row, after these
abbrev pub open_after : ℕ → List Lexeme → ℕ
open_after open' [] = open'
open_after open' (l ∷ ls) = open_after (open_past open' l.shape) ls

abbrev pub row_after : ℕ → List Lexeme → ℕ
row_after row [] = row
row_after row (l ∷ ls) = row_after (row_past row l.shape) ls
