-- The events of a text, or its first faulty line.
use Rattle.std.specs.Prelude.{ℕ, ◌+◌, ◌^◌, ◌<◌, Bool, List, [], ◌∷◌, ◌++◌, codes, flat_map, Option, Some}
use Rattle.std.specs.Prelude.{None, Result, Ok, Err, if◌then◌else◌}
use Rattle.asm_text.specs.declared.fault.AsmKind.TheVariants.{Line, Number as Numbers}
use Rattle.asm_text.specs.declared.lexeme.Lexeme.{Lexeme}
use Rattle.asm_text.specs.declared.lexeme.Lexeme.TheVariants.{Word, Number}
use Rattle.asm_text.specs.Building.{◌>>=◌, Maybe}
use Rattle.asm_text.specs.Lexing.{Lexed, lexed}
use Rattle.asm_text.specs.Words.{is, in_byte, in_word}
use Rattle.asm_text.specs.Printed.{line_text}
use Rattle.asm_text.specs.Reading.{Fault, lines_of, on_line}
use Rattle.df_core.specs.declared.engine.Event.{Event}
use Rattle.df_core.specs.declared.engine.Event.TheVariants.{Match, Issue}
use Rattle.trace_check.specs.declared.events.Lined.{Lined}

-- The event that lexemes spell. A number too large for its field is kept as the field's largest
-- value, which no instruction and no port has.
unfoldable pub event_of : List Lexeme → Option Event
event_of (Word w ∷ Number wave ∷ Number i ∷ Number p ∷ []) =
    if is w (codes "match") then Some (Match wave (in_word i) (in_byte p)) else None
event_of (Word w ∷ Number wave ∷ Number i ∷ []) =
    if is w (codes "issue") then Some (Issue wave (in_word i)) else None
event_of _ = None

-- What a line says: an event, nothing, or what is wrong with it: its form, or else a number.
abbrev pub spelled : Bool → Option Event → Maybe (Option Event)
spelled wide None = Err Line
spelled wide (Some event) = if wide then Err Numbers else Ok (Some event)

abbrev pub of_lexemes : Bool → List Lexeme → Maybe (Option Event)
of_lexemes wide [] = Ok None
of_lexemes wide (l ∷ ls) = spelled wide (event_of (l ∷ ls))

abbrev pub of_lexed : Option Lexed → Maybe (Option Event)
of_lexed None = Err Line
of_lexed (Some l) = of_lexemes l.wide l.items

unfoldable pub said : List ℕ → Maybe (Option Event)
said line = of_lexed (lexed line)

abbrev pub at_line : ℕ → Option Event → List Lined
at_line n None = []
at_line n (Some event) = record { event = event; line = n } ∷ []

-- the events of lines, of which the first has this number, or the first faulty one
unfoldable pub events_from : ℕ → List (List ℕ) → Result (List Lined) Fault
events_from n [] = Ok []
events_from n (line ∷ lines) =
    on_line n (said line) >>= λ event.
    events_from (n + 1) lines >>= λ more.
    Ok (at_line n event ++ more)

-- the events of a text
unfoldable pub events_in : ℕ → List ℕ → Result (List Lined) Fault
events_in first text = events_from first (lines_of text)

-- behind others
abbrev pub behind : List Lined → Result (List Lined) Fault → Result (List Lined) Fault
behind events more = more >>= λ ls. Ok (events ++ ls)

-- The text of events: a line for each.

unfoldable pub lexemes_of : Event → List Lexeme
lexemes_of (Match wave i p) = Word (codes "match") ∷ Number wave ∷ Number i ∷ Number p ∷ []
lexemes_of (Issue wave i) = Word (codes "issue") ∷ Number wave ∷ Number i ∷ []

abbrev pub event_line : Event → List ℕ
event_line event = line_text (lexemes_of event)

abbrev pub events_text : List Event → List ℕ
events_text events = flat_map event_line events

-- the events of lines that follow one another, the first of which has this number
abbrev pub numbered : ℕ → List Event → List Lined
numbered n [] = []
numbered n (event ∷ events) = record { event = event; line = n } ∷ numbered (n + 1) events

-- the numbers of an event are within its fields
abbrev pub Fits : Event → Type 0
Fits (Match wave i p) = (wave < 2 ^ 64) × (i < 2 ^ 32) × (p < 256)
Fits (Issue wave i) = (wave < 2 ^ 64) × (i < 2 ^ 32)

abbrev pub AllFit : List Event → Type 0
AllFit [] = Unit {0}
AllFit (event ∷ events) = Fits event × AllFit events
