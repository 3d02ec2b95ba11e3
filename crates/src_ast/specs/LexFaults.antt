-- Where a text's lexemes are wrong: the first fault, from the left.
use Rattle.std.specs.Prelude.{◌≡◌, ℕ, ◌^◌, ◌<◌, ◌≤◌, length, ◌==◌, false, IsTrue, List, [], ◌∷◌, ◌++◌, Result}
use Rattle.std.specs.Prelude.{Ok, Err}
use Rattle.ws_words.specs.Digits.{is_digit, is_number, value_of}
use Rattle.src_ast.specs.LanguageLimits.{most_name_bytes, most_braces, most_in_row}
use Rattle.src_ast.specs.declared.lexeme.Place.{Place}
use Rattle.src_ast.specs.declared.lexeme.Lexeme.{Lexeme}
use Rattle.src_ast.specs.declared.lexeme.Lexemes as lexemes
use Rattle.src_ast.specs.declared.lexeme.Shape.{Shape}
use Rattle.src_ast.specs.declared.lexeme.Mark.{Mark}
use Rattle.src_ast.specs.declared.fault.Refusal.{Refusal}
use Rattle.src_ast.specs.declared.fault.RefusalKind.{RefusalKind}
use Rattle.src_ast.specs.declared.fault.RefusalKind.TheVariants.{Byte, Wide, Limit}
use Rattle.src_ast.specs.declared.fault.Quantity.TheVariants.{NameBytes, Depth, Lexemes}
use Rattle.src_ast.specs.declared.fault.TextFault.{TextFault}
use Rattle.src_ast.specs.declared.fault.TextFault.TheVariants.{Refused, NoMemory}
use Rattle.src_ast.specs.Lexemes.{start, is_blank, spelling, Spells, LexesTo, IsShort, open_past, row_past}
use Rattle.src_ast.specs.Lexemes.{Lex, KeepLimits, open_after, row_after}
use Rattle.ws_words.specs.Letters.{is_letter, is_word_byte, is_word, starts_without}

-- no lexeme and no gap begins with this byte
pub record BeginsNothing (b : ℕ) : Type 0 where
  pub blank : is_blank b ≡ false
  pub comment : (b == 35) ≡ false
  pub letter : is_letter b ≡ false
  pub digit : is_digit b ≡ false
  pub mark : (m : Mark) (more : List ℕ) → b ∷ [] ≡ spelling m ++ more → ⊥

-- What is wrong at this rest of a text, after this many open braces and this many lexemes in a row.
pub data Wrong (open' row : ℕ) : List ℕ → RefusalKind → Type 0 where
  byte : {rest : List ℕ} (b : ℕ) (bytes : List ℕ) → rest ≡ b ∷ bytes → BeginsNothing b
      → Wrong open' row rest Byte
  wide : {rest : List ℕ} (digits following : List ℕ) → rest ≡ digits ++ following
      → IsTrue (is_number digits) → IsTrue (starts_without is_digit following)
      → 2 ^ 64 ≤ value_of digits → Wrong open' row rest Wide
  long : {rest : List ℕ} (bytes following : List ℕ) → rest ≡ bytes ++ following → IsTrue (is_word bytes)
      → IsTrue (starts_without is_word_byte following)
      → most_name_bytes < length bytes → Wrong open' row rest (Limit NameBytes)
  deep : {rest : List ℕ} (s : Shape) (bytes following : List ℕ) → rest ≡ bytes ++ following
      → Spells s bytes following
      → most_braces < open_past open' s → Wrong open' row rest (Limit Depth)
  crowded : {rest : List ℕ} (s : Shape) (bytes following : List ℕ) → rest ≡ bytes ++ following
      → Spells s bytes following → IsShort s
      → most_in_row < row_past row s → Wrong open' row rest (Limit Lexemes)

-- The first fault of a text: the lexemes before its place are the text's and keep the limits, and
-- this is wrong there.
pub record LexFault (text : List ℕ) (refusal : Refusal) : Type 0 where
  pub ls : List Lexeme
  pub rest : List ℕ
  pub leads : LexesTo start text ls refusal.place rest
  pub kept : KeepLimits 0 0 ls
  pub wrong : Wrong (open_after 0 ls) (row_after 0 ls) rest refusal.kind

-- why a text has no lexemes: memory, or its first fault
abbrev pub IsLexFault : List ℕ → TextFault → Type 0
IsLexFault text NoMemory = Unit {0}
IsLexFault text (Refused r) = LexFault text r

-- These lexemes and this end are answered, unless memory runs out.
abbrev pub AnswersLexemes : Result lexemes.Lexemes TextFault → List Lexeme → Place → Type 0
AnswersLexemes (Ok l) ls finish = (l.items.items ≡ ls) × (l.finish ≡ finish)
AnswersLexemes (Err NoMemory) ls finish = Unit {0}
AnswersLexemes (Err (Refused r)) ls finish = ⊥

-- the result of a text: its lexemes within the limits and the place of its end, or its first fault
abbrev pub IsLexAnswer : List ℕ → Result (List Lexeme × Place) Refusal → Type 0
IsLexAnswer text (Ok l) = Lex text l.0 l.1 × KeepLimits 0 0 l.0
IsLexAnswer text (Err r) = LexFault text r
