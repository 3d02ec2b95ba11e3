-- What the events that a core made come to.
use Rattle.std.proofs.Common.{◌≡◌, ℕ, ◌+◌, ◌<◌, ◌≤◌, ◌⊎◌, Bool, true, false, cond, List, [], ◌∷◌, ◌++◌}
use Rattle.std.proofs.Common.{length, map, Option, Some, None, is_some, MatchOption, refl, sym, ap, ◌∙◌}
use Rattle.std.proofs.Common.{subst, inl, inr, append-nil, arith}
use Rattle.std.proofs.lemmas.Bool.{true≢false}
use Rattle.ws_words.specs.Outside.{World}
use Rattle.ws_isa.specs.Image.{Image, is_memory, ports}
use Rattle.ws_isa.specs.Walk.{walk, CostAtMost}
use Rattle.df_core.specs.Core.{State, Event, Match, Issue, Run, Step, Enabled, Rest, is_full, arrived, asks}
use Rattle.df_core.specs.Core.{tells, matched, core_opening}
use Rattle.df_core.specs.Ends.{WholeRun, AtFault}
use Rattle.df_core.specs.declared.engine.Core.{Core}
use Rattle.df_core.specs.declared.engine.Event.{Event as Made}
use Rattle.df_core.specs.Cores.{IsAt, Makes, IsEnabled, IsAtRest, event_of}
use Rattle.df_core.specs.Quiet.{IsQuiet, IsQuietly, OnlyFires}
use Rattle.trace_check.specs.declared.recording.TraceEnd.{TraceEnd}
use Rattle.trace_check.specs.declared.recording.TraceEnd.TheVariants as end
use Rattle.trace_check.specs.Recorded.{OutOfBudget, EndIs, Traces, Led, MakesEvents, IsDone, MayComeNext}
use Rattle.df_core.proofs.Telling.Saying.{no_fault_at as no_fault}
use Rattle.df_core.proofs.Keeping.Same.{same_refl}
use Rattle.df_core.proofs.Parts.Quietly.{issue_quiet}

-- an event fires one instance at most, and an issue none
fired_by : (image : Image) (s : State) (w i p v : ℕ) (a b : Bool) →
    length (cond a (cond b (asks image w i (arrived s w i p v)) (tells image w i (arrived s w i p v)))
    (arrived s w i p v)).fired ≤ length s.fired + 1
fired_by image s w i p v true true = omega arith
fired_by image s w i p v true false = omega arith
fired_by image s w i p v false b = omega arith

match_more : (image : Image) (s : State) (w i p v : ℕ) → length (matched image s w i p v).fired
    ≤ length s.fired + 1
unfolding matched
match_more image s w i p v = fired_by image s w i p v (is_full (arrived s w i p v).held w i (ports image i))
    (is_memory image i)

step_more : (image : Image) (s t : State) (e : Event) → Step image s e t → length t.fired ≤ length s.fired + 1
step_more image s t (Match w i p) st =
    let e = ap length st.becomes.fired in
    let l : length (matched image s w i p st.value).fired ≤ length s.fired + 1 =
    match_more image s w i p st.value in
    omega arith
step_more image s t (Issue w i) st = let e = ap length (issue_quiet image s w i t st) in omega arith

-- the next event
pub next_any : (core : Core) (budget fired : ℕ) (o : Option Made) → fired < budget →
    ((image : Image) (world : World) (s : State) → IsAt image world core s → length s.fired ≡ fired) →
    MatchOption o (IsAtRest core) (λ e. IsEnabled (event_of e) core) →
    MatchOption o (IsDone budget core) (λ e. MayComeNext budget (event_of e) core)
next_any core budget fired None l count m = λ image world s at. inr (inl (m image world s at))
next_any core budget fired (Some e) l count m = λ image world s at. (
  m image world s at,
  λ le t st. (let a = step_more image s t (event_of e) st in let b = count image world s at in omega arith),
)

pub next_quiet : (core : Core) (budget fired : ℕ) (o : Option Made) → budget ≤ fired →
    ((image : Image) (world : World) (s : State) → IsAt image world core s → length s.fired ≡ fired) →
    MatchOption o (OnlyFires core) (λ e. IsQuietly (event_of e) core) →
    MatchOption o (IsDone budget core) (λ e. MayComeNext budget (event_of e) core)
next_quiet core budget fired None l count m = λ image world s at.
    let b = count image world s at in
    let le : budget ≤ length s.fired = omega arith in
    inr (inr (le, m image world s at))
next_quiet core budget fired (Some e) l count m = λ image world s at. (
  (m image world s at).0,
  λ le t st. (let a = ap length ((m image world s at).1 t st) in omega arith),
)

-- events made one after the other
pub none_led : (core : Core) (budget : ℕ) → MakesEvents budget [] core core
none_led core budget image world s at le = record { state = s; run = λ es u r. r; at = at; within = le }

one_more : (events : List Made) (e : Made) (es : List Event) → map event_of events ++ event_of e ∷ es
    ≡ map event_of (events ++ e ∷ []) ++ es
one_more [] e es = refl
one_more (x ∷ events) e es = ap (λ (xs : List Event). event_of x ∷ xs) (one_more events e es)

pub one_led : (events : List Made) (e : Made) (budget : ℕ) (old core new : Core)
    → MakesEvents budget events old core → MayComeNext budget (event_of e) core → Makes (event_of e) core new
    → MakesEvents budget (events ++ e ∷ []) old new
one_led events e budget old core new leads next makes image world s at le =
    let a = leads image world s at le in
    let m = makes image world a.state a.at in
    record {
      state = m.0;
      run = λ es u r. subst (λ (xs : List Event). Run image s xs u) (one_more events e es)
          (a.run (event_of e ∷ es) u (m.0, m.1, r));
      at = m.2;
      within = (next image world a.state a.at).1 a.within m.0 m.1;
    }

pub next_enabled : (event : Event) (budget : ℕ) (core : Core) → MayComeNext budget event core
    → IsEnabled event core
next_enabled event budget core next image world s at = (next image world s at).0

-- what the law of the core says of a state that the events lead to
pub record Facts (image : Image) (world : World) (s : State) : Type 0 where
  pub ends : Rest image s → WholeRun image world s ⊎ AtFault image world s
  pub stopped : s.stopped ≡ true → AtFault image world s
  pub all : WholeRun image world s → (t : ℕ) → length (walk image world t) ≤ length s.fired
  pub way : (w i p v : ℕ) → s.way w i p ≡ Some v → (t : ℕ) × (length s.fired < length (walk image world t))

module _ (image : Image) (world : World) (budget : ℕ) (s : State) (facts : Facts image world s) where
  whole : Rest image s → s.stopped ≡ false → WholeRun image world s
  whole rest going = elim (facts.ends rest) [
    | inl w ↦ w
    | inr a ↦
        absurd (true≢false (sym a.stopped ∙ going))
  ]

  dear_by : (e : Event) → Enabled image s e → ((d : Event) → Enabled image s d → IsQuiet image s d → ⊥)
      → length s.fired ≡ budget → CostAtMost image world budget → ⊥
  dear_by (Match w i p) on fires count cost =
      let r = facts.way w i p on.0 on.1 in
      let l : length s.fired < length (walk image world r.0) = r.1 in
      let c : length (walk image world r.0) ≤ budget = cost r.0 in
      omega (arith, count)
  dear_by (Issue w i) on fires count cost = fires (Issue w i) on (issue_quiet image s w i)

  dear : OutOfBudget image budget s → CostAtMost image world budget → ⊥
  dear p = dear_by p.event p.enabled p.fires p.count

  module _ (events : List Made) (run : Run image (core_opening image world) (map event_of events) s)
      (within : length s.fired ≤ budget) where
    pub traces_so : (how : TraceEnd) → EndIs image budget how s → Traces image world budget events how
    traces_so end.Rest e =
        let w = whole e.0 e.1 in
        record {
          state = s;
          run = run;
          within = within;
          ended = e;
          rests = (
            λ f. (
              w.within,
              λ t. (let a : length (walk image world t) ≤ length s.fired = facts.all w t in
                  omega arith),
            ),
            λ f. refl,
          );
          faults = λ t f c. absurd (no_fault image world w.within t f);
          only = λ f. absurd cc;
        }
    traces_so end.Budget e = record {
      state = s;
      run = run;
      within = within;
      ended = e;
      rests = (λ f. absurd cc, λ h. absurd (dear e h.1));
      faults = λ t f c. absurd (dear e c);
      only = λ f. absurd cc;
    }
    traces_so end.Fault e =
        let a = facts.stopped e in
        record {
          state = s;
          run = run;
          within = within;
          ended = e;
          rests = (λ f. absurd cc, λ h. absurd (no_fault image world h.0 a.time a.fault));
          faults = λ t f c. refl;
          only = λ f. (a.time, a.fault);
        }

pub opened : (image : Image) (world : World) (budget : ℕ) → length (core_opening image world).fired ≤ budget
unfolding core_opening
opened image world budget = omega arith

pub led_run : (image : Image) (world : World) (s : State) (budget : ℕ) (events : List Made) (core : Core)
    (a : Led image world s budget events core) → Run image s (map event_of events) a.state
led_run image world s budget events core a =
    subst (λ (xs : List Event). Run image s xs a.state) (append-nil (map event_of events))
    (a.run [] a.state (same_refl a.state))

-- nothing was picked
pub none_picked : (o : Option Made) (b : Bool) (core : Core) → b ≡ is_some o → b ≡ false
    → MatchOption o (IsAtRest core) (λ e. IsEnabled (event_of e) core) → IsAtRest core
none_picked None b core e f m = m
none_picked (Some x) b core e f m = absurd (true≢false (sym e ∙ f))
