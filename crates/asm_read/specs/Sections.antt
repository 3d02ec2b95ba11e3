-- The sections of a text: the program or assembly, after the first line `%input` the words that it
-- reads, and after a line `%trace` that follows it the events of a trace.
use Rattle.std.specs.Prelude.{◌≡◌, ℕ, ◌+◌, ◌-◌, ◌^◌, ◌<◌, ◌==◌, Bool, true, false, not, ◌&&◌, ◌||◌, IsTrue}
use Rattle.std.specs.Prelude.{List, [], ◌∷◌, ◌++◌, codes, length, take, if◌then◌else◌, Result, Ok, Err}
use Rattle.std.specs.List.{list_all}
use Rattle.ws_words.specs.Digits.{is_number, value_of}
use Rattle.src_ast.specs.declared.lexeme.Place.{Place}
use Rattle.src_ast.specs.declared.fault.RefusalKind.TheVariants.{Input}
use Rattle.src_ast.specs.declared.fault.TextFault.{TextFault}
use Rattle.src_ast.specs.declared.fault.TextFault.TheVariants.{Refused, NoMemory}
use Rattle.src_ast.specs.Lexemes.{start, after, is_blank}
use Rattle.ws_words.specs.Letters.{starts_without}

-- a line ends here: at the text's end, at a line feed, or at a carriage return before one of these
abbrev pub ends_line : List ℕ → Bool
ends_line [] = true
ends_line (b ∷ []) = (b == 10) || (b == 13)
ends_line (b ∷ c ∷ bytes) = (b == 10) || ((b == 13) && (c == 10))

-- the text begins with these bytes, and then its line ends
abbrev pub is_line : List ℕ → List ℕ → Bool
is_line [] text = ends_line text
is_line (m ∷ ms) [] = false
is_line (m ∷ ms) (b ∷ text) = (b == m) && is_line ms text

-- what stands after the first line feed
abbrev pub after_line : List ℕ → List ℕ
after_line [] = []
after_line (b ∷ bytes) = if b == 10 then bytes else after_line bytes

-- The bytes before the first line that is exactly this one, or all; the flag says that a line begins
-- here.
abbrev pub front_of : List ℕ → Bool → List ℕ → List ℕ
front_of marker at_line [] = []
front_of marker at_line (b ∷ bytes) =
    if at_line && is_line marker (b ∷ bytes) then [] else b ∷ front_of marker (b == 10) bytes

-- that line and what stands after it, or nothing
abbrev pub rest_of : List ℕ → Bool → List ℕ → List ℕ
rest_of marker at_line [] = []
rest_of marker at_line (b ∷ bytes) =
    if at_line && is_line marker (b ∷ bytes) then b ∷ bytes else rest_of marker (b == 10) bytes

abbrev pub program_of : List ℕ → List ℕ
program_of text = front_of (codes "%input") true text

-- the input section without its marker
abbrev pub input_of : List ℕ → List ℕ
input_of text = after_line (rest_of (codes "%input") true text)

-- the trace section, which stands in the input section: its marker `%trace` and what stands after
-- it, or nothing
abbrev pub trace_section : List ℕ → List ℕ
trace_section text = rest_of (codes "%trace") true (input_of text)

-- what stands before it
abbrev pub before_trace : List ℕ → List ℕ
before_trace text = take (length text - length (trace_section text)) text

-- the events without the marker, and the number of their first line
abbrev pub trace_of : List ℕ → List ℕ
trace_of text = after_line (trace_section text)

abbrev pub trace_line : List ℕ → ℕ
trace_line text = (after start (before_trace text)).line + 1

-- the number of the line at the text's end
abbrev pub last_line : List ℕ → ℕ
last_line text = (after start text).line

-- the place where the input section behind these bytes and its marker begins
abbrev pub place_below : List ℕ → Place
place_below section = record { line = (after start section).line + 1; column = 1 }

-- the place where that of a text begins
abbrev pub input_place : List ℕ → Place
input_place text = place_below (program_of text)

-- an item of the input section: bytes that are no blanks, as long as possible
pub record IsItem (bytes rest : List ℕ) : Type 0 where
  pub some : bytes ≡ [] → ⊥
  pub dense : IsTrue (list_all (λ b. not (is_blank b)) bytes)
  pub longest : IsTrue (starts_without (λ b. not (is_blank b)) rest)

-- decimal digits whose value is a word
abbrev pub IsWordText : List ℕ → ℕ → Type 0
IsWordText bytes word = IsTrue (is_number bytes) × (value_of bytes ≡ word) × (word < 2 ^ 64)

-- From this place on the text begins with items that are these words, blanks before each;
-- after them and blanks stands this rest, at its place.
pub data InputItems : Place → List ℕ → List ℕ → Place → List ℕ → Type 0 where
  stop : {at place : Place} {text rest : List ℕ} (blanks : List ℕ) → text ≡ blanks ++ rest
      → IsTrue (list_all is_blank blanks) → IsTrue (starts_without is_blank rest)
      → place ≡ after at blanks → InputItems at text [] place rest
  next : {at place : Place} {text rest words : List ℕ} (word : ℕ) (blanks bytes further : List ℕ)
      → text ≡ blanks ++ (bytes ++ further) → IsTrue (list_all is_blank blanks)
      → IsItem bytes further → IsWordText bytes word
      → InputItems (after (after at blanks) bytes) further words place rest
      → InputItems at text (word ∷ words) place rest

-- the words of an input section that begins at this place
pub record InputWords (at : Place) (text words : List ℕ) : Type 0 where
  pub place : Place
  pub items : InputItems at text words place []

-- its first item that is no word stands at this place
pub record InputFault (at : Place) (text : List ℕ) (place : Place) : Type 0 where
  pub words : List ℕ
  pub bytes : List ℕ
  pub further : List ℕ
  pub items : InputItems at text words place (bytes ++ further)
  pub item : IsItem bytes further
  pub wrong : (word : ℕ) → IsWordText bytes word → ⊥

-- the result of an input section: its words, or the place of its first item that is no word
abbrev pub IsInputAnswer : Place → List ℕ → Result (List ℕ) Place → Type 0
IsInputAnswer at text (Ok words) = InputWords at text words
IsInputAnswer at text (Err place) = InputFault at text place

-- why an input section has no words: memory, or its first item that is none
abbrev pub IsInputFault : Place → List ℕ → TextFault → Type 0
IsInputFault at text NoMemory = Unit {0}
IsInputFault at text (Refused r) = (r.kind ≡ Input) × InputFault at text r.place

-- these words are answered, unless memory runs out
abbrev pub AnswersWords : Result (List ℕ) TextFault → List ℕ → Type 0
AnswersWords (Ok found) words = found ≡ words
AnswersWords (Err NoMemory) words = Unit {0}
AnswersWords (Err (Refused r)) words = ⊥
