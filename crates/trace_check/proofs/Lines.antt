-- Going over the lines of a trace, one by one.
use Rattle.std.proofs.Common.{◌≡◌, ℕ, ◌+◌, List, [], ◌++◌, Option, Some, None, Result, Ok, Err, refl, sym, ap}
use Rattle.std.proofs.Common.{append_assoc, append-nil, subst}
use Rattle.asm_text.specs.declared.fault.AsmFault.{AsmFault}
use Rattle.asm_text.specs.declared.fault.Stop as stops
use Rattle.asm_text.specs.declared.fault.Stop.TheVariants as stop
use Rattle.asm_text.specs.Building.{Makes}
use Rattle.asm_text.specs.Reading.{lines_of, Cuts, Reads, Fault, fault_of}
use Rattle.df_core.specs.declared.engine.Event.{Event}
use Rattle.trace_check.specs.declared.events.Lined.{Lined}
use Rattle.trace_check.specs.Traces.{said, at_line, events_from, behind}

regroup : (xs ys : List Lined) (r : Result (List Lined) Fault)
    → behind xs (behind ys r) ≡ behind (xs ++ ys) r
regroup xs ys (Ok zs) = ap Ok (sym (append_assoc xs ys zs))
regroup xs ys (Err e) = refl

-- a line with more behind it
pub on_more : (events : List Lined) (n : ℕ) (text line more : List ℕ) (event : Option Event)
    → Cuts text line (Some more) → said line ≡ Ok event
    → behind events (events_from n (lines_of text))
    ≡ behind (events ++ at_line n event) (events_from (n + 1) (lines_of more))
unfolding events_from
on_more events n text line more event c e =
    rw (c.0, e) (regroup events (at_line n event) (events_from (n + 1) (lines_of more)))

-- the last line
pub on_last : (events : List Lined) (n : ℕ) (text line : List ℕ) (event : Option Event)
    → Cuts text line None → said line ≡ Ok event
    → behind events (events_from n (lines_of text)) ≡ Ok (events ++ at_line n event)
unfolding events_from
on_last events n text line event c e =
    rw (c, e) (ap (λ ls. Ok (events ++ ls)) (append-nil (at_line n event)))

-- a line that is refused
pub off : (events : List Lined) (n : ℕ) (text line : List ℕ) (more : Option (List ℕ)) (e : stops.Stop)
    → Cuts text line more → Makes (λ event. event) (Err e) (said line)
    → Reads (λ ls. ls) (Err (fault_of e n)) (behind events (events_from n (lines_of text)))
unfolding events_from
off events n text line more stop.Memory c g = tt
off events n text line None (stop.Refused k) c g = rw (c, g)
off events n text line (Some more) (stop.Refused k) c g = rw (c.0, g)

pub fails_along : (f : AsmFault) (r s : Result (List Lined) Fault) → r ≡ s
    → Reads (λ ls. ls) (Err f) r → Reads (λ ls. ls) (Err f) s
fails_along f r s e h =
    let P = λ (q : Result (List Lined) Fault). Reads (λ (ls : List Lined). ls) (Err f) q in subst P e h

pub nothing_before : (r : Result (List Lined) Fault) → behind [] r ≡ r
nothing_before (Ok ls) = refl
nothing_before (Err e) = refl
