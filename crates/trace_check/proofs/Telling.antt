-- What the last state of a replayed trace tells of the walk.
use Rattle.std.proofs.Common.{◌≡◌, ℕ, ◌+◌, ◌-◌, ◌≤◌, ◌⊎◌, ◌↔◌, Bool, true, false, List, ◌++◌, length, Option}
use Rattle.std.proofs.Common.{Some, None, is_some, not, MatchOption, refl, sym, ap, ◌∙◌, subst, inl, inr}
use Rattle.std.proofs.Common.{arith, length-append}
use Rattle.std.proofs.lemmas.Bool.{true≢false}
use Rattle.ws_words.specs.Outside.{Outside, World, printed_words}
use Rattle.ws_isa.specs.Image.{Image}
use Rattle.ws_isa.specs.Walk.{Inst, mem, walk}
use Rattle.ws_isa.specs.Operations.{ops, effect_of, Effect}
use Rattle.df_core.specs.Effect.{effect_at}
use Rattle.df_core.specs.Core.{State, Run, Rest, core_opening}
use Rattle.df_core.specs.Fit.{Fit}
use Rattle.df_core.specs.Ends.{WholeRun, AtFault}
use Rattle.df_core.specs.declared.engine.Core.{Core}
use Rattle.df_core.specs.declared.engine.Event.{Event}
use Rattle.df_core.specs.Cores.{IsAt, IsAtRest, IsEnabled, event_of}
use Rattle.trace_check.specs.declared.events.Lined.{Lined}
use Rattle.trace_check.specs.declared.replaying.Replayed.{Replayed}
use Rattle.trace_check.specs.declared.replaying.ReplayFault.{ReplayFault}
use Rattle.trace_check.specs.declared.replaying.ReplayFault.TheVariants.{Illegal, NoMemory}
use Rattle.trace_check.specs.Replays.{PrintsAll, PrintsToFault, Replays, StopsAt, IsReplayFault}
use Rattle.trace_check.specs.Replays.{IsMakingFault, events_of}
use Rattle.df_core.proofs.Parts.Issuing.{printed_alike}

module _ (image : Image) (world : World) (s : State) (r : Replayed)
    (printed : printed_words s.memory.acts ≡ r.printed) where
  words_of_effect : (t : ℕ) → effect_of (mem image world t) ≡ s.memory →
      printed_words (mem image world t).acts ≡ r.printed
  words_of_effect t e = sym (printed_alike (mem image world t).acts)
      ∙ ap (λ (o : Outside). printed_words o.acts) e ∙ printed

  pub words_at : (t : ℕ) → effect_at image world t ≡ s.memory →
      printed_words (mem image world t).acts ≡ r.printed
  unfolding effect_at
  words_at t e = words_of_effect t e

  pub prints_all : length s.fired ≡ r.fired → ((t : ℕ) → length (walk image world t) ≤ length s.fired) →
      (some : (t : ℕ) × (length s.fired ≤ length (walk image world t))) →
      ((d t : ℕ) → (more : List Inst) × (walk image world (d + t) ≡ walk image world t ++ more)) →
      WholeRun image world s → PrintsAll image world r
  prints_all fired all some goes w = record {
    no_fault = w.within;
    cost = λ t. (let a : length (walk image world t) ≤ length s.fired = all t in omega arith);
    end = some.0 + w.end;
    fired = λ t l. (
        let g = goes (t - some.0) some.0 in
        let e : (t - some.0) + some.0 ≡ t = omega arith in
        let a : length (walk image world t) ≤ length s.fired = all t in
        let b : length s.fired ≤ length (walk image world some.0) = some.1 in
        let f : length (walk image world t) ≡ length (walk image world some.0 ++ g.0) =
        ap (λ (n : ℕ). length (walk image world n)) (sym e) ∙ ap length g.1 in
        let h : length (walk image world some.0 ++ g.0) ≡ length (walk image world some.0) + length g.0 =
        length-append (walk image world some.0) g.0 in
        omega arith);
    printed = λ t l. words_at t (w.memory t (omega arith));
  }

  pub prints_to_fault : ((p : ℕ) (one other : Outside) → Effect image world p one → Effect image world p other
      → one ≡ other) →
      AtFault image world s → PrintsToFault image world r
  prints_to_fault one a = record {
    time = a.time;
    fault = a.fault;
    printed =
        words_of_effect a.time (one (length (ops image world a.time)) (effect_of (mem image world a.time))
        s.memory
        (record { steps = a.time; count = refl; left = refl }) a.memory);
  }

pub rest_told : (o : Option Event) (b : Bool) (core : Core) → is_some o ≡ not b →
    MatchOption o (IsAtRest core) (λ event. IsEnabled (event_of event) core) →
    (image : Image) (world : World) (s : State) → IsAt image world core s → (b ≡ true) ↔ Rest image s
rest_told None true core e m image world s at = (λ f. m image world s at, λ f. refl)
rest_told None false core e m image world s at = absurd (true≢false (sym e))
rest_told (Some event) true core e m image world s at = absurd (true≢false e)
rest_told (Some event) false core e m image world s at =
    (λ f. absurd (true≢false (sym f)), λ rest. absurd (rest (event_of event) (m image world s at)))

pub fault_told : (image : Image) (world : World) (core : Core) (trace xs : List Lined) (fault : ReplayFault)
    → xs ≡ trace →
    IsAt image world core (core_opening image world) → IsMakingFault xs core fault
    → IsReplayFault image world trace fault
fault_told image world core trace xs NoMemory e at h = tt
fault_told image world core trace xs (Illegal line) e at h =
    subst (λ (ls : List Lined). StopsAt image (core_opening image world) ls line) e
    (h image world (core_opening image world) at)

-- what the law of the core says of states that lists of events reach
pub record Facts (image : Image) (world : World) (s : State) : Type 0 where
  pub fit : Fit image world s
  pub ends : Rest image s → WholeRun image world s ⊎ AtFault image world s
  pub all : WholeRun image world s → (t : ℕ) → length (walk image world t) ≤ length s.fired
  pub some : (t : ℕ) × (length s.fired ≤ length (walk image world t))
  pub goes : (d t : ℕ) → (more : List Inst) × (walk image world (d + t) ≡ walk image world t ++ more)
  pub one : (p : ℕ) (o u : Outside) → Effect image world p o → Effect image world p u → o ≡ u

ends_told : (image : Image) (world : World) (s : State) (r : Replayed) → Facts image world s
    → printed_words s.memory.acts ≡ r.printed → length s.fired ≡ r.fired
    → WholeRun image world s ⊎ AtFault image world s → PrintsAll image world r ⊎ PrintsToFault image world r
ends_told image world s r f printed fired (inl w) =
    inl (prints_all image world s r printed fired (f.all w) f.some f.goes w)
ends_told image world s r f printed fired (inr a) = inr (prints_to_fault image world s r printed f.one a)

pub replay_told : (image : Image) (world : World) (trace : List Lined) (r : Replayed) (s : State)
    → Run image (core_opening image world) (events_of trace) s → Facts image world s →
    length s.fired ≡ r.fired → printed_words s.memory.acts ≡ r.printed → ((r.rest ≡ true) ↔ Rest image s)
    → Replays image world trace r
replay_told image world trace r s run f fired printed rest = record {
  state = s;
  run = run;
  fired = fired;
  printed = printed;
  rest = rest;
  step = f.fit.legal.cut;
  passed = f.fit.legal.ordered.chain;
  words = words_at image world s r printed f.fit.legal.cut (sym f.fit.legal.ordered.memory);
  ends = λ e. ends_told image world s r f printed fired (f.ends (rest.0 e));
}
