-- Behind all lines of a text the state and what is built hold together.
use Rattle.std.proofs.Common.{◌≡◌, ℕ, ◌+◌, true, IfOk, List, [], ◌∷◌, Result, Ok, arith}
use Rattle.asm_text.specs.declared.reading.Reading.{Reading}
use Rattle.asm_text.specs.declared.state.TextState.{TextState}
use Rattle.asm_text.specs.State.{opening}
use Rattle.asm_text.specs.Building.{◌>>=◌, Maybe, Built}
use Rattle.asm_text.specs.Reading.{step, add, reading, on_line, passed, made, nothing, is_ended, Fault}
use Rattle.asm_text.proofs.Scanning.FormedLines.{ReadingFits, reading_fits}
use Rattle.asm_text.proofs.Keeping.HeldSteps.{behind_ok}
use Rattle.asm_text.proofs.Keeping.HeldNames.{NamesThere}
use Rattle.asm_text.proofs.Keeping.Held.{Held}
use Rattle.asm_text.proofs.Keeping.HeldLines.{line_held}

pub nothing_held : (s : TextState) → Held s opening nothing
unfolding opening nothing
nothing_held s = grind arith

step_held : (s t : TextState) (b : Built) (r : Reading) → NamesThere s → Held s t b → ReadingFits r
    → IfOk (step t r) (λ u. IfOk (add s b r) (Held s u))
step_held s t b r names h f = grind (arith, behind_ok, line_held)

abbrev pub AtEnd : TextState → Built → Type 0
AtEnd s b = Held s s b × (is_ended s.place ≡ true)

along : (n : ℕ) (P : Built → Type 0) (s : TextState) (st : Maybe TextState) (ad : Maybe Built)
    (f : TextState → Result TextState Fault) (g : Built → Result Built Fault)
    → (H : TextState → Built → Type 0) → IfOk st (λ u. IfOk ad (H u))
    → ((u : TextState) (c : Built) → H u c → f u ≡ Ok s → IfOk (g c) P)
    → (on_line n st >>= f) ≡ Ok s → IfOk (on_line n ad >>= g) P
along n P s st ad f g H h k e = grind arith

pub lines_held : (s t : TextState) (b : Built) (n : ℕ) (lines : List (List ℕ)) → NamesThere s → Held s t b
    → passed t n lines ≡ Ok s → IfOk (made s b n lines) (AtEnd s)
unfolding passed made
lines_held s t b n [] names h e = grind arith
lines_held s t b n (line ∷ lines) names h e = along (n + 1) (AtEnd s) s (step t (reading line)) (add s b
    (reading line)) (λ u. passed u (n + 1) lines) (λ c. made s c (n + 1) lines) (Held s)
    (grind (arith, step_held, reading_fits)) (λ u c k g. lines_held s u c (n + 1) lines names k g) e
