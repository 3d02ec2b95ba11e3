-- What the parts of the lexer read from the start of a text.
use Rattle.std.specs.Prelude.{◌≡◌, ℕ, ◌≤◌, ◌<◌, length, ◌==◌, ◌||◌, Bool, List, ◌++◌}
use Rattle.std.proofs.Common.{take, drop}
use Rattle.src_ast.specs.declared.lexeme.Shape.{Shape}
use Rattle.src_ast.specs.declared.lexeme.Place.{Place}
use Rattle.src_ast.specs.declared.fault.TextFault.{TextFault}
use Rattle.src_ast.specs.declared.fault.TextFault.TheVariants.{Refused, NoMemory}
use Rattle.src_ast.specs.Lexemes.{is_blank, is_end, Spells, IsShort}
use Rattle.src_ast.specs.LexFaults.{Wrong}
use Rattle.ws_words.specs.Letters.{starts_without}

-- a blank, or the `#` of a comment
abbrev pub begins_gap : ℕ → Bool
begins_gap b = is_blank b || (b == 35)

-- the text begins with no gap: it is at its end, or a byte stands there that begins none
abbrev pub ends_gap : List ℕ → Bool
ends_gap text = is_end text || starts_without begins_gap text

-- the first this many bytes are the longest spelling of the shape
pub record Reads (s : Shape) (count : ℕ) (text : List ℕ) : Type 0 where
  pub within : count ≤ length text
  pub some : 0 < count
  pub spells : Spells s (take count text) (drop count text)

-- why no lexeme is read here, whatever stood before it
abbrev pub IsWrongHere : List ℕ → Place → TextFault → Type 0
IsWrongHere text place NoMemory = Unit {0}
IsWrongHere text place (Refused r) =
    (r.place ≡ place) × ((open' row : ℕ) → Wrong open' row text r.kind)

-- why a lexeme stands beyond a limit here
abbrev pub Exceeds : ℕ → ℕ → Shape → Place → TextFault → Type 0
Exceeds open' row s place NoMemory = ⊥
Exceeds open' row s place (Refused r) =
    (r.place ≡ place)
    × ((bytes following : List ℕ) → Spells s bytes following → IsShort s
    → Wrong open' row (bytes ++ following) r.kind)
