-- Two schedules of one grid and one world are one.
use Rattle.std.proofs.Common.{ℕ, suc, ◌≡◌, ◌<◌, ◌≤◌, ◌⊎◌, true, false, List, [], ◌∷◌, ◌++◌, length, map, Some}
use Rattle.std.proofs.Common.{None, refl, sym, ap, ◌∙◌, subst, inl, inr, arith}
use Rattle.std.proofs.lemmas.Bool.{both_ways, cases_eq, cases_lt}
use Rattle.ws_words.specs.Outside.{World}
use Rattle.ws_isa.specs.Image.{Image, ports}
use Rattle.ws_isa.specs.Formed.{Formed}
use Rattle.ws_isa.specs.Operations.{FaultsAt}
use Rattle.ws_isa.specs.Sound.{Sound, seq}
use Rattle.df_core.specs.Core.{State, Event, Match, Issue, Step, Enabled, with_at}
use Rattle.df_core.specs.Fit.{RightToken, Fit}
use Rattle.df_core.proofs.Walked.Facts.{WalkFacts}
use Rattle.df_core.proofs.Walked.FromSound.{facts_of}
use Rattle.df_core.proofs.Walked.PortsThere.{ports_there}
use Rattle.df_core.proofs.Keeping.Reachable.{step_kept}
use Rattle.df_core.proofs.Keeping.Making.{alone}
use Rattle.df_core.proofs.Keeping.Ports.{with_at_cases, full_all}
use Rattle.df_core.proofs.Keeping.Reached.{reached}
use Rattle.df_core.specs.declared.engine.Event.{Event as Made}
use Rattle.df_core.specs.declared.answer.Done.{Done}
use Rattle.df_core.specs.declared.drive.Finish.{Finish}
use Rattle.df_core.specs.declared.drive.Finish.TheVariants as finish
use Rattle.df_core.specs.Answer.{RunSo}
use Rattle.df_core.specs.Cores.{event_of}
use Rattle.df_core.specs.Finishes.{is_fault}
use Rattle.df_core.specs.Told.{run_from}
use Rattle.grid_clock.specs.declared.run.Clocked.{Clocked}
use Rattle.grid_clock.specs.Clocks.{Clocks}
use Rattle.grid_clock.specs.declared.timed.Timed.{Timed}
use Rattle.grid_clock.specs.Schedule.{Grid, Fires, FiresNothing, IsOld, NoIssue, NotAfter, NotBehind, Issues}
use Rattle.grid_clock.specs.Schedule.{no_issue, issue, Quiets, no_quiet, quiet, Turns, no_turn, idle, turn}
use Rattle.grid_clock.specs.Schedule.{Cycle, Stopping, Blocked, Cycles, blocked, stops, goes, Schedule}
use Rattle.grid_clock.specs.Schedule.{in_cycle}
use Rattle.df_core.proofs.Telling.Firsts.{same_op}
use Rattle.df_core.proofs.Keeping.States.{same_is}
use Rattle.df_core.proofs.Keeping.Same.{same_refl}
use Rattle.ws_words.proofs.Places.{nth_short}

-- of numbers in order
not_after_both : (w i a j : ℕ) → NotAfter w i a j → NotAfter a j w i → (w ≡ a) × (i ≡ j)
not_after_both w i a j x y = grind arith

port_both : (i p j q : ℕ) → (i < j) ⊎ ((i ≡ j) × (p ≤ q)) → (j < i) ⊎ ((j ≡ i) × (q ≤ p)) → (i ≡ j) × (p ≡ q)
port_both i p j q x y = grind arith

not_behind_both : (w i p a j q : ℕ) → NotBehind w i p a j q → NotBehind a j q w i p
    → (w ≡ a) × (i ≡ j) × (p ≡ q)
not_behind_both w i p a j q x y = grind (arith, port_both)

-- events
issue_is : (w i a j : ℕ) → w ≡ a → i ≡ j → Issue w i ≡ Issue a j
issue_is w i a j e f = λ k. Issue (e k) (f k)

match_is : (w i p a j q : ℕ) → w ≡ a → i ≡ j → p ≡ q → Match w i p ≡ Match a j q
match_is w i p a j q e f g = λ k. Match (e k) (f k) (g k)

cons_is : {A : Type 0} (x y : A) (xs ys : List A) → x ≡ y → xs ≡ ys → x ∷ xs ≡ y ∷ ys
cons_is x y xs ys e f = λ k. e k ∷ f k

long : {A : Type 0} (x : A) (xs : List A) → x ∷ xs ≡ [] → ⊥
long x xs e = let l : length (x ∷ xs) ≡ 0 = ap length e in omega arith

enabled_of : (image : Image) (s t : State) (w i : ℕ) → Step image s (Issue w i) t
    → Enabled image s (Issue w i)
enabled_of image s t w i x = grind arith

no_issue_stopped : (image : Image) (s : State) → s.stopped ≡ true → NoIssue image s
no_issue_stopped image s e w i on = both_ways s.stopped on.1.issuable.going e

module _ (image : Image) (world : World) (formed : Formed image) (sound : Sound image) where
  facts : WalkFacts image world
  facts = facts_of image world (ports_there image formed) sound

  step_fit : (s t : State) (e : Event) → Fit image world s → Step image s e t → Fit image world t
  step_fit s t e fit st = step_kept image world facts s t e fit st

  step_one : (s t u : State) (e : Event) → Fit image world s → Step image s e t → Step image s e u → t ≡ u
  step_one s t u e fit a b = same_is t u (alone image world facts sound.shape s fit e t u a b)

  -- of one event and of the same event
  step_same : (s t u : State) (e f : Event) → Fit image world s → e ≡ f → Step image s e t → Step image s f u
      → t ≡ u
  step_same s t u e f fit same a b = step_one s t u e fit a (rw same b)

  -- a firing match of an instance is of one port
  fires_one : (s : State) (w i p q : ℕ) → Fit image world s → Fires image s w i p → Fires image s w i q
      → p ≡ q
  fires_one s w i p q fit a b = elim (cases_eq p q) [
    | inl e ↦ e
    | inr n ↦ absurd (
        let r : RightToken image world w i q b.0 = fit.way_right w i q b.0 b.1 in
        let l : q < length r.inst.operands = nth_short r.inst.operands q b.0 r.operand in
        let m : length r.inst.operands ≡ ports image r.inst.instr = facts.filled r.time r.inst r.at.fires in
        let o : ports image r.inst.instr ≡ ports image i = ap (ports image) r.at.instr in
        let h = full_all (with_at w i p (Some a.0) s.held) w i (ports image i) a.2 q
        (omega (arith, l, m, o)) in
        elim (with_at_cases w i p (Some a.0) s.held w i q) [
          | inl k ↦ n k.0.port
          | inr k ↦ (let none : s.way w i q ≡ None = fit.one w i q h.0 (sym k.1 ∙ h.1) in
              let e : Some b.0 ≡ None = sym b.1 ∙ none in cc)
        ])
  ]

  issues_fit : (s t : State) (es : List Event) → Fit image world s → Issues image s es t → Fit image world t
  issues_fit s t es fit no_issue = fit
  issues_fit s t es fit (issue {t = m} {events = more} w i first st rest) =
      issues_fit m t more (step_fit s m (Issue w i) fit st) rest

  quiets_fit : (began s t : State) (es : List Event) → Fit image world s → Quiets image began s es t
      → Fit image world t
  quiets_fit began s t es fit no_quiet = fit
  quiets_fit began s t es fit (quiet {t = m} {events = more} w i p o f least st rest) =
      quiets_fit began m t more (step_fit s m (Match w i p) fit st) rest

  issues_one : (s t u : State) (es fs : List Event) → Fit image world s → Issues image s es t
      → NoIssue image t → Issues image s fs u → NoIssue image u → (es ≡ fs) × (t ≡ u)
  issues_one s t u es fs fit no_issue n no_issue m = (refl, refl)
  issues_one s t u es fs fit no_issue n (issue {t = b} {events = ys} a j least st rest) m =
      absurd (n a j (enabled_of image s b a j st))
  issues_one s t u es fs fit (issue {t = b} {events = xs} w i first st rest) n no_issue m =
      absurd (m w i (enabled_of image s b w i st))
  issues_one s t u es fs fit (issue {t = b} {events = xs} w i first st rest) n
      (issue {t = d} {events = ys} a j least st2 rest2) m =
      let x = enabled_of image s b w i st in
      let y = enabled_of image s d a j st2 in
      let l : seq image i ≤ seq image j = first a j y in
      let k : seq image j ≤ seq image i = least w i x in
      let wa : w ≡ a = x.1.issuable.current ∙ sym y.1.issuable.current in
      let ij : i ≡ j = same_op image world formed sound w i x.0 a j y.0 (fit.request_right w i x.0 x.1.waits)
      (fit.request_right a j y.0 y.1.waits) wa (omega (arith, l, k)) in
      let same : Issue w i ≡ Issue a j = issue_is w i a j wa ij in
      let bd : b ≡ d = step_same s b d (Issue w i) (Issue a j) fit same st st2 in
      let on : Issues image b ys u = subst (λ (z : State). Issues image z ys u) (sym bd) rest2 in
      let r = issues_one b t u xs ys (step_fit s b (Issue w i) fit st) rest n on m in
      (cons_is (Issue w i) (Issue a j) xs ys same r.0, r.1)

  quiets_one : (began s t u : State) (es fs : List Event) → Fit image world s → Quiets image began s es t
      → ((w i p : ℕ) → IsOld began w i p → FiresNothing image t w i p → ⊥) →
      Quiets image began s fs u → ((w i p : ℕ) → IsOld began w i p → FiresNothing image u w i p → ⊥)
      → (es ≡ fs) × (t ≡ u)
  quiets_one began s t u es fs fit no_quiet n no_quiet m = (refl, refl)
  quiets_one began s t u es fs fit no_quiet n (quiet a j q o f least st rest) m = absurd (n a j q o f)
  quiets_one began s t u es fs fit (quiet w i p o f first st rest) n no_quiet m = absurd (m w i p o f)
  quiets_one began s t u es fs fit (quiet {t = b} {events = xs} w i p o f first st rest) n
      (quiet {t = d} {events = ys} a j q o2 f2 least st2 rest2) m =
      let z = not_behind_both w i p a j q (first a j q o2 f2) (least w i p o f) in
      let same : Match w i p ≡ Match a j q = match_is w i p a j q z.0 z.1 z.2 in
      let bd : b ≡ d = step_same s b d (Match w i p) (Match a j q) fit same st st2 in
      let on : Quiets image began b ys u = subst (λ (z : State). Quiets image began z ys u) (sym bd) rest2 in
      let r = quiets_one began b t u xs ys (step_fit s b (Match w i p) fit st) rest n on m in
      (cons_is (Match w i p) (Match a j q) xs ys same r.0, r.1)

module _ (g : Grid) (world : World) (formed : Formed g.image) (sound : Sound g.image) where
  turns_fit : (began s t : State) (k : ℕ) (es : List Event) → Fit g.image world s → Turns g began k s es t
      → Fit g.image world t
  turns_fit began s t k es fit (no_turn e l) = fit
  turns_fit began s t k es fit (idle e l n rest) = turns_fit began s t (suc e) es fit rest
  turns_fit began s t k es fit (turn {t = m} {events = more} e w i p l may least st rest) =
      turns_fit began m t (suc e) more (step_fit g.image world formed sound s m (Match w i p) fit st) rest

  turns_one : (began s t u : State) (k : ℕ) (es fs : List Event) → Fit g.image world s
      → Turns g began k s es t → Turns g began k s fs u → (es ≡ fs) × (t ≡ u)
  turns_one began s t u k es fs fit (no_turn e l) (no_turn f m) = (refl, refl)
  turns_one began s t u k es fs fit (no_turn e l) (idle f m n rest) = absurd (omega (arith, l, m))
  turns_one began s t u k es fs fit (no_turn e l) (turn f a j q m may least st rest) = grind arith
  turns_one began s t u k es fs fit (idle e l n rest) (no_turn f m) = absurd (omega (arith, l, m))
  turns_one began s t u k es fs fit (idle e l n rest) (idle f m o rest2) =
      turns_one began s t u (suc e) es fs fit rest rest2
  turns_one began s t u k es fs fit (idle e l n rest) (turn f a j q m may least st rest2) =
      absurd (n a j q may)
  turns_one began s t u k es fs fit (turn e w i p l may first st rest) (no_turn f m) = grind arith
  turns_one began s t u k es fs fit (turn e w i p l may first st rest) (idle f m n rest2) =
      absurd (n w i p may)
  turns_one began s t u k es fs fit (turn {t = b} {events = xs} e w i p l may first st rest)
      (turn {t = d} {events = ys} f a j q m may2 least st2 rest2) =
      let z = not_after_both w i a j (first a j q may2) (least w i p may) in
      let there : Fires g.image s w i q = rw z.1 (rw z.0 may2.fires) in
      let pq : p ≡ q = fires_one g.image world formed sound s w i p q fit may.fires there in
      let same : Match w i p ≡ Match a j q = match_is w i p a j q z.0 z.1 pq in
      let bd : b ≡ d = step_same g.image world formed sound s b d (Match w i p) (Match a j q) fit same st
      st2 in
      let on : Turns g began (suc e) b ys u = rw bd rest2 in
      let r = turns_one began b t u (suc e) xs ys (step_fit g.image world formed sound s b (Match w i p) fit
      st) rest on in
      (cons_is (Match w i p) (Match a j q) xs ys same r.0, r.1)

  cycle_fit : (s t : State) (es : List Event) → Fit g.image world s → Cycle g s es t → Fit g.image world t
  cycle_fit s t es fit c = turns_fit _ _ _ _ _ (quiets_fit _ _ formed sound _ _ _ _ (issues_fit _ _ formed
      sound _ _ _ fit c.first) c.second) c.third

  cycle_one : (s t u : State) (es fs : List Event) → Fit g.image world s → Cycle g s es t → Cycle g s fs u
      → (es ≡ fs) × (t ≡ u)
  cycle_one s t u es fs fit c d =
      let fit1 = issues_fit _ _ formed sound _ _ _ fit c.first in
      let a = issues_one _ _ formed sound _ _ _ _ _ fit c.first c.no_issue d.first d.no_issue in
      let fit2 = quiets_fit _ _ formed sound _ _ _ _ fit1 c.second in
      let second : Quiets g.image s c.issued d.quiets d.settled = rw a.1 d.second in
      let b = quiets_one _ _ formed sound _ _ _ _ _ _ fit1 c.second c.no_quiet second d.no_quiet in
      let third : Turns g s 0 c.settled d.firings u = rw b.1 d.third in
      let e = turns_one _ _ _ _ _ _ _ fit2 c.third third in
      (c.parts ∙ (λ k. a.0 k ++ (b.0 k ++ e.0 k)) ∙ sym d.parts, e.1)

  stopping_one : (s t u : State) (es fs : List Event) → Fit g.image world s → Stopping g s es t
      → Stopping g s fs u → (es ≡ fs) × (t ≡ u)
  stopping_one s t u es fs fit a b = issues_one g.image world formed sound s t u es fs fit a.issues
      (no_issue_stopped g.image t a.stopped) b.issues (no_issue_stopped g.image u b.stopped)

  -- a cycle doesn't both stop and go on
  one_kind : (s t u : State) (es fs : List Event) → Fit g.image world s → Stopping g s es t → Cycle g s fs u
      → ⊥
  one_kind s t u es fs fit a c =
      let r = issues_one g.image world formed sound s t c.issued es c.issues fit a.issues
      (no_issue_stopped g.image t a.stopped) c.first c.no_issue in
      both_ways t.stopped (ap (λ (z : State). z.stopped) r.1 ∙ c.going) a.stopped

  -- where nothing is enabled nothing happens
  issues_blocked : (s t : State) (es : List Event) → NoIssue g.image s → Issues g.image s es t
      → (es ≡ []) × (t ≡ s)
  issues_blocked s t es n no_issue = (refl, refl)
  issues_blocked s t es n (issue {t = m} w i first st rest) = absurd (n w i (enabled_of g.image s m w i st))

  quiets_blocked : (began s t : State) (es : List Event) → ((w i p : ℕ) → FiresNothing g.image s w i p → ⊥)
      → Quiets g.image began s es t → (es ≡ []) × (t ≡ s)
  quiets_blocked began s t es n no_quiet = (refl, refl)
  quiets_blocked began s t es n (quiet w i p o f least st rest) = absurd (n w i p f)

  turns_blocked : (began s t : State) (k : ℕ) (es : List Event) → Blocked g s → Turns g began k s es t
      → es ≡ []
  turns_blocked began s t k es n (no_turn e l) = refl
  turns_blocked began s t k es n (idle e l o rest) = turns_blocked began s t (suc e) es n rest
  turns_blocked began s t k es n (turn e w i p l may least st rest) =
      absurd (n.no_firing w i p may.fires may.permitted)

  cycle_blocked : (s t : State) (es : List Event) → Blocked g s → Cycle g s es t → es ≡ []
  cycle_blocked s t es b c =
      let x = issues_blocked s c.issued c.issues b.no_issue c.first in
      let second : Quiets g.image s s c.quiets c.settled =
      subst (λ (z : State). Quiets g.image s z c.quiets c.settled) x.1 c.second in
      grind (arith, quiets_blocked, turns_blocked)

  stopping_blocked : (s t : State) (es : List Event) → Blocked g s → Stopping g s es t → ⊥
  stopping_blocked s t es b a = grind (arith, issues_blocked, both_ways)

-- the code's events are told apart as the law's are
event_one : (x y : Made) → event_of x ≡ event_of y → x ≡ y
event_one x y e = grind arith

head_or : {A : Type 0} → A → List A → A
head_or d [] = d
head_or d (x ∷ xs) = x

tail_of : {A : Type 0} → List A → List A
tail_of [] = []
tail_of (x ∷ xs) = xs

made_one : (xs ys : List Made) → map event_of xs ≡ map event_of ys → xs ≡ ys
unfolding head_or tail_of
made_one [] [] e = refl
made_one [] (y ∷ ys) e = absurd (long (event_of y) (map event_of ys) (sym e))
made_one (x ∷ xs) [] e = absurd (long (event_of x) (map event_of xs) e)
made_one (x ∷ xs) (y ∷ ys) e = grind (arith, cons_is, event_one, head_or, made_one xs ys (ap tail_of e))

none_made : (xs : List Made) → map event_of xs ≡ [] → xs ≡ []
none_made [] e = refl
none_made (x ∷ xs) e = absurd (long (event_of x) (map event_of xs) e)

module _ (g : Grid) (world : World) (formed : Formed g.image) (sound : Sound g.image) where
  cycles_one : (n : ℕ) (s t u : State) (xs ys : List Timed) → Fit g.image world s → Cycles g n s xs t
      → Cycles g n s ys u → (xs ≡ ys) × (t ≡ u)
  cycles_one n s t u xs ys fit (blocked k b) (blocked m d) = (refl, refl)
  cycles_one n s t u xs ys fit (blocked k b) (stops m es st) = grind (arith, stopping_blocked)
  cycles_one n s t u xs ys fit (blocked k b) (goes {t = mid} m es more some all c rest) =
      absurd (some (none_made es (cycle_blocked g world formed sound s mid (map event_of es) b c)))
  cycles_one n s t u xs ys fit (stops k es st) (blocked m b) = grind (arith, stopping_blocked)
  cycles_one n s t u xs ys fit (stops k es st) (stops m fs st2) =
      let r = stopping_one g world formed sound s t u (map event_of es) (map event_of fs) fit st st2 in
      (ap (in_cycle n) (made_one es fs r.0), r.1)
  cycles_one n s t u xs ys fit (stops k es st) (goes {t = mid} m fs more some all c rest) =
      absurd (one_kind g world formed sound s t mid (map event_of es) (map event_of fs) fit st c)
  cycles_one n s t u xs ys fit (goes {t = mid} k es more some all c rest) (blocked m b) =
      absurd (some (none_made es (cycle_blocked g world formed sound s mid (map event_of es) b c)))
  cycles_one n s t u xs ys fit (goes {t = mid} k es more some all c rest) (stops m fs st) =
      absurd (one_kind g world formed sound s u mid (map event_of fs) (map event_of es) fit st c)
  cycles_one n s t u xs ys fit (goes {t = a} k es more some all c rest)
      (goes {t = b} m fs more2 some2 all2 d rest2) =
      let r = cycle_one _ _ formed sound _ _ _ _ _ fit c d in
      let on : Cycles g (suc n) a more2 u = rw r.1 rest2 in
      let q = cycles_one _ _ _ _ _ _ (cycle_fit _ _ formed sound _ _ _ fit c) rest on in
      let ev : es ≡ fs = made_one _ _ r.0 in
      (all ∙ (λ h. in_cycle n (ev h) ++ q.0 h) ∙ sym all2, q.1)

  pub schedule_one : (xs ys : List Timed) (t u : State) → Schedule g world xs t → Schedule g world ys u
      → (xs ≡ ys) × (t ≡ u)
  schedule_one xs ys t u a b = cycles_one _ _ _ _ _ _ (reached _ _ (facts_of _ _ (ports_there _ formed) sound)
      _ ([], same_refl _)).fit a b

-- how the runs ended
fault_one : (image : Image) (world : World) (t u : ℕ) (a : FaultsAt image world t)
    (b : FaultsAt image world u) → a.inst.instr ≡ b.inst.instr
fault_one image world t u a b = grind (arith, cases_eq, cases_lt, both_ways)

finish_one : (image : Image) (world : World) (budget : ℕ) (f h : Finish) (d e : Done)
    → is_fault f ≡ is_fault h → RunSo image world budget (run_from f d)
    → RunSo image world budget (run_from h e) → f ≡ h
finish_one image world budget finish.Rest finish.Rest d e s a b = refl
finish_one image world budget finish.Rest finish.Budget d e s a b = grind (arith, both_ways)
finish_one image world budget finish.Rest (finish.Fault array) d e s a b = absurd (both_ways false refl s)
finish_one image world budget finish.Budget finish.Rest d e s a b = grind (arith, both_ways)
finish_one image world budget finish.Budget finish.Budget d e s a b = refl
finish_one image world budget finish.Budget (finish.Fault array) d e s a b = absurd (both_ways false refl s)
finish_one image world budget (finish.Fault array) finish.Rest d e s a b = grind (arith, both_ways)
finish_one image world budget (finish.Fault array) finish.Budget d e s a b = grind (arith, both_ways)
finish_one image world budget (finish.Fault m) (finish.Fault n) d e s a b = grind (arith, fault_one)

pub clocked_one : (g : Grid) (world : World) → Formed g.image → Sound g.image → (c d : Clocked)
    → Clocks g world c → Clocks g world d → c ≡ d
clocked_one g world formed sound c d a b =
    let r = schedule_one g world formed sound c.events d.events a.state b.state a.schedule b.schedule in
    let how : c.finish ≡ d.finish = finish_one g.image world g.budget c.finish d.finish
    (record { printed = c.printed; arrays = c.cells; took = a.took; fired = c.fired })
    (record { printed = d.printed; arrays = d.cells; took = b.took; fired = d.fired })
    (a.stops ∙ ap (λ (s : State). s.stopped) r.1 ∙ sym b.stops) a.run b.run in
    grind arith
