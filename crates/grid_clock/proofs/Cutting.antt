-- A schedule, cut into its cycles.
use Rattle.std.proofs.Common.{ℕ, suc, ◌≡◌, ◌<◌, ◌≤◌, ◌⊎◌, ◌==◌, nat_lt, List, [], ◌∷◌, ◌++◌, map, refl, sym}
use Rattle.std.proofs.Common.{ap, ◌∙◌, subst, inl, inr, eq-eqb, ne_eqb, append-nil, arith}
use Rattle.std.proofs.lemmas.Bool.{cases_eq, lt-ltb, le-ltb, cond-true, cond-false}
use Rattle.ws_words.specs.Outside.{World}
use Rattle.df_core.specs.Core as law
use Rattle.df_core.specs.Core.{State, Run}
use Rattle.df_core.specs.declared.engine.Event.{Event as Made}
use Rattle.df_core.specs.Cores.{event_of}
use Rattle.grid_clock.specs.declared.timed.Timed.{Timed}
use Rattle.grid_clock.specs.Clocks.{last_cycle}
use Rattle.grid_clock.specs.Schedule.{Grid, Cycle, Stopping, Cycles, blocked, stops, goes, Schedule, in_cycle}
use Rattle.grid_clock.specs.Rules.{of_cycle, before_cycle, IsCycle}
use Rattle.grid_clock.proofs.Listing.{cycle_run}
use Rattle.df_core.proofs.Keeping.Same.{same_refl}

-- the events of one cycle among those of another
of_own : (n : ℕ) (es : List Made) (more : List Timed) → of_cycle n (in_cycle n es ++ more) ≡ map event_of es
    ++ of_cycle n more
of_own n [] more = refl
of_own n (e ∷ es) more = grind (arith, cond-true, eq-eqb, of_own n es more)

of_other : (n m : ℕ) (es : List Made) (more : List Timed) → (m ≡ n → ⊥)
    → of_cycle n (in_cycle m es ++ more) ≡ of_cycle n more
of_other n m [] more ne = refl
of_other n m (e ∷ es) more ne = cond-false (m == n) _ _ (ne_eqb m n ne) ∙ of_other n m es more ne

before_own : (n m : ℕ) (es : List Made) (more : List Timed) → m < n → before_cycle n (in_cycle m es ++ more)
    ≡ map event_of es ++ before_cycle n more
before_own n m [] more l = refl
before_own n m (e ∷ es) more l = grind (arith, cond-true, lt-ltb, before_own n m es more l)

before_other : (n m : ℕ) (es : List Made) (more : List Timed) → n ≤ m → before_cycle n (in_cycle m es ++ more)
    ≡ before_cycle n more
before_other n m [] more l = refl
before_other n m (e ∷ es) more l = cond-false (nat_lt m n) _ _ (le-ltb m n l) ∙ before_other n m es more l

-- cycles from one on have no events of an earlier one
none_of : (g : Grid) (k : ℕ) (s t : State) (all : List Timed) (n : ℕ) → Cycles g k s all t → n < k
    → of_cycle n all ≡ []
none_of g k s t all n (blocked m b) l = refl
none_of g k s t all n (stops m es st) l = ap (of_cycle n) (sym (append-nil (in_cycle m es)))
    ∙ of_other n m es [] (λ e. omega (arith, l, e))
none_of g k s t all n (goes {t = mid} m es more some e c rest) l =
    grind (arith, of_other, none_of g (suc m) mid t more n rest (omega (arith, l)))

none_before : (g : Grid) (k : ℕ) (s t : State) (all : List Timed) (n : ℕ) → Cycles g k s all t → n ≤ k
    → before_cycle n all ≡ []
none_before g k s t all n (blocked m b) l = refl
none_before g k s t all n (stops m es st) l = ap (before_cycle n) (sym (append-nil (in_cycle m es)))
    ∙ before_other n m es [] l
none_before g k s t all n (goes {t = mid} m es more some e c rest) l =
    grind (arith, before_other, none_before g (suc m) mid t more n rest (omega (arith, l)))

-- the last cycle
last_own : (m : ℕ) (es : List Made) → last_cycle (in_cycle m es) ≤ m
last_own m (e ∷ f ∷ es) = last_own m (f ∷ es)
last_own m es = omega arith

last_more : (xs : List Timed) (y : Timed) (ys : List Timed) → last_cycle (xs ++ y ∷ ys) ≡ last_cycle (y ∷ ys)
last_more (x ∷ z ∷ xs) y ys = last_more (z ∷ xs) y ys
last_more xs y ys = refl

last_behind : (m : ℕ) (es : List Made) (more : List Timed) (n : ℕ) → m < n
    → n ≤ last_cycle (in_cycle m es ++ more) → last_cycle (in_cycle m es ++ more) ≡ last_cycle more
last_behind m es [] n l k = grind (arith, append-nil (in_cycle m es), last_own m es)
last_behind m es (y ∷ ys) n l k = last_more (in_cycle m es) y ys

-- the events of this number, from a state on
record Cut (g : Grid) (s : State) (all : List Timed) (n : ℕ) : Type 0 where
  began : State
  new : State
  before : Run g.image s (before_cycle n all) began
  cycle : Cycle g began (of_cycle n all) new ⊎ (Stopping g began (of_cycle n all) new × (n ≡ last_cycle all))

either_cycle : (g : Grid) (began new : State) (xs ys : List law.Event) (n a b : ℕ) → xs ≡ ys → a ≡ b
    → Cycle g began xs new ⊎ (Stopping g began xs new × (n ≡ a)) → Cycle g began ys new
    ⊎ (Stopping g began ys new × (n ≡ b))
either_cycle g began new xs ys n a b e f x = grind arith

cut : (g : Grid) (k : ℕ) (s t : State) (all : List Timed) (n : ℕ) → Cycles g k s all t → 1 ≤ n → k ≤ n
    → n ≤ last_cycle all → Cut g s all n
cut g k s t all n (blocked m b) p l q = absurd (omega (arith, p, q))
cut g k s t all n (stops m es st) p l q =
    let o : last_cycle (in_cycle m es) ≤ m = last_own m es in
    let mn : m ≡ n = omega (arith, l, q, o) in
    let own : of_cycle n (in_cycle m es) ≡ map event_of es = ap (λ (j : ℕ). of_cycle n (in_cycle j es)) mn
    ∙ ap (of_cycle n) (sym (append-nil (in_cycle n es))) ∙ of_own n es []
    ∙ append-nil (map event_of es) in
    let none : before_cycle n (in_cycle m es) ≡ [] = ap (before_cycle n) (sym (append-nil (in_cycle m es)))
    ∙ before_other n m es [] (omega (arith, mn)) in
    grind (arith, same_refl)
cut g k s t all n (goes {t = mid} m es more some e c rest) p l q = elim (cases_eq m n) [
  | inl mn ↦ (
      let own : of_cycle n all ≡ map event_of es = grind (arith, of_own, none_of, append-nil) in
      let none : before_cycle n all ≡ [] = ap (before_cycle n) e ∙ before_other n m es more
      (omega (arith, mn)) ∙ none_before g (suc m) mid t more n rest (omega (arith, mn)) in
      record {
        began = s;
        new = mid;
        before = subst (λ (xs : List law.Event). Run g.image s xs s) (sym none) (same_refl s);
        cycle = inl (subst (λ (xs : List law.Event). Cycle g s xs mid) (sym own) c);
      })
  | inr ne ↦ (
      let up : m < n = omega (arith, l, ne) in
      let last : last_cycle all ≡ last_cycle more = ap last_cycle e ∙ last_behind m es more n up
      (subst (λ (xs : List Timed). n ≤ last_cycle xs) e q) in
      let r = cut g (suc m) mid t more n rest p up (omega (arith, q, last)) in
      let here : before_cycle n all ≡ map event_of es ++ before_cycle n more = ap (before_cycle n) e
      ∙ before_own n m es more up in
      let there : of_cycle n more ≡ of_cycle n all = sym (ap (of_cycle n) e ∙ of_other n m es more ne) in
      record {
        began = r.began;
        new = r.new;
        before = subst (λ (xs : List law.Event). Run g.image s xs r.began) (sym here)
            (cycle_run g s mid (map event_of es) c (before_cycle n more) r.began r.before);
        cycle = either_cycle g r.began r.new (of_cycle n more) (of_cycle n all) n (last_cycle more)
            (last_cycle all) there (sym last) r.cycle;
      })
]

pub cut_of : (g : Grid) (world : World) (events : List Timed) (state : State) → Schedule g world events state
    → (n : ℕ) → 1 ≤ n → n ≤ last_cycle events → IsCycle g world events n
cut_of g world events state c n p q = grind (arith, cut _ _ _ _ _ _ c p p q)
