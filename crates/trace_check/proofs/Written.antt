-- The text of events is read as those events.
use Rattle.std.proofs.Common.{◌≡◌, ℕ, ◌+◌, ◌^◌, ◌<◌, false, List, [], ◌∷◌, ◌++◌, map, flat_map, Some, None}
use Rattle.std.proofs.Common.{Ok, refl, sym, ap, ◌∙◌, subst, min, length, take, get_or, arith}
use Rattle.std.proofs.lemmas.List.{take_more, flat_map_more}
use Rattle.asm_text.specs.declared.lexeme.Lexeme.{Lexeme}
use Rattle.asm_text.specs.Lexing.{lexed, scan}
use Rattle.asm_text.specs.Printed.{start, text_of, line_text}
use Rattle.asm_text.specs.Spelled.{AreLexemes, AllLexemes, texts}
use Rattle.asm_text.specs.Reading.{lines_of}
use Rattle.df_core.specs.Core as law
use Rattle.df_core.specs.declared.engine.Event.{Event}
use Rattle.df_core.specs.declared.engine.Event.TheVariants.{Match, Issue}
use Rattle.df_core.specs.Cores as cores
use Rattle.trace_check.specs.Traces.{event_of, of_lexed, said, events_from, events_in, lexemes_of, event_line}
use Rattle.trace_check.specs.Traces.{events_text, numbered, Fits, AllFit}
use Rattle.trace_check.specs.Replays.{events_of}

word_fits : (n : ℕ) → n < 2 ^ 32 → min n 4294967295 ≡ n
word_fits n h = omega arith

byte_fits : (n : ℕ) → n < 256 → min n 255 ≡ n
byte_fits n h = omega arith

are_lexemes : (event : Event) → Fits event → AreLexemes (lexemes_of event)
unfolding lexemes_of
are_lexemes (Match wave i p) h =
    (refl, (h.0, ((let a = h.1 in omega arith), ((let b = h.2 in omega arith), tt))))
are_lexemes (Issue wave i) h = (refl, (h.0, ((let a = h.1 in omega arith), tt)))

all_lexemes : (events : List Event) → AllFit events → AllLexemes (map lexemes_of events)
all_lexemes [] h = tt
all_lexemes (event ∷ events) h = (are_lexemes event h.0, all_lexemes events h.1)

lines_text : (events : List Event) → events_text events ≡ flat_map line_text (map lexemes_of events)
lines_text [] = refl
lines_text (event ∷ events) = ap (λ (xs : List ℕ). event_line event ++ xs) (lines_text events)

said_none : said [] ≡ Ok None
unfolding said lexed scan
said_none = refl

said_by : (event : Event) → Fits event → of_lexed (Some (record { items = lexemes_of event; wide = false }))
    ≡ Ok (Some event)
unfolding lexemes_of event_of
said_by (Match wave i p) h = rw (word_fits i h.1, byte_fits p h.2) refl
said_by (Issue wave i) h = rw (word_fits i h.1) refl

pub events_again : (n : ℕ) (events : List Event) → events_of (numbered n events) ≡ map cores.event_of events
events_again n [] = refl
events_again n (event ∷ events) = ap (λ (es : List law.Event). cores.event_of event ∷ es)
    (events_again (n + 1) events)

module _ (again : (ls : List Lexeme) → AreLexemes ls → lexed (text_of start ls)
    ≡ Some (record { items = ls; wide = false }))
    (lines : (ls : List (List Lexeme)) → AllLexemes ls → lines_of (flat_map line_text ls) ≡ texts ls) where
  said_event : (event : Event) → Fits event → said (text_of start (lexemes_of event)) ≡ Ok (Some event)
  unfolding said
  said_event event h = ap of_lexed (again (lexemes_of event) (are_lexemes event h)) ∙ said_by event h

  from_again : (n : ℕ) (events : List Event) → AllFit events → events_from n (texts (map lexemes_of events))
      ≡ Ok (numbered n events)
  unfolding events_from
  from_again n [] h = rw said_none refl
  from_again n (event ∷ events) h = rw (said_event event h.0, from_again (n + 1) events h.1) refl

  pub reads_again : (n : ℕ) (events : List Event) → AllFit events → events_in n (events_text events)
      ≡ Ok (numbered n events)
  unfolding events_in
  reads_again n events h = ap (λ (text : List ℕ). events_from n (lines_of text)) (lines_text events)
      ∙ ap (events_from n) (lines (map lexemes_of events) (all_lexemes events h)) ∙ from_again n events h

-- events within their fields, and one behind them

fit_behind : (events : List Event) (event : Event) → AllFit events → Fits event
    → AllFit (events ++ event ∷ [])
fit_behind [] event h f = (f, tt)
fit_behind (e ∷ events) event h f = (h.0, fit_behind events event h.1 f)

pub fit_more : (events : List Event) (i : ℕ) (d : Event) → i < length events → AllFit (take i events)
    → Fits (get_or events i d) → AllFit (take (i + 1) events)
fit_more events i d lt h f = subst AllFit (sym (take_more events i d lt))
    (fit_behind (take i events) (get_or events i d) h f)

-- the text of one event more
pub text_more : (events : List Event) (i : ℕ) (d : Event) (initial old new : List ℕ) → i < length events
    → old ≡ initial ++ flat_map event_line (take i events)
    → new ≡ old ++ event_line (get_or events i d) → new ≡ initial ++ flat_map event_line (take (i + 1) events)
text_more events i d initial old new lt h e =
    e ∙ ap (λ t. t ++ event_line (get_or events i d)) h ∙ flat_map_more event_line initial (take i events)
    (get_or events i d)
    ∙ ap (λ (xs : List Event). initial ++ flat_map event_line xs) (sym (take_more events i d lt))
