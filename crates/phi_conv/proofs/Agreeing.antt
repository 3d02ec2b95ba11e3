-- Two states that agree on the variables that matter do the same; the second has room for copies.
use Rattle.std.proofs.Common.{ℕ, suc, ◌-◌, ◌^◌, ◌≡◌, ◌<◌, ◌==◌, Bool, if◌then◌else◌, List}
use Rattle.std.proofs.Common.{[], ◌∷◌, ◌++◌, length, get_or, refl, ap, ◌∙◌, inl, inr, arith}
use Rattle.std.specs.List.{AllByRecursion}
use Rattle.std.proofs.lemmas.Bool.{cases_eq}
use Rattle.std.proofs.lemmas.List.{get_or-set_same, get_or-set_other, length-set}
use Rattle.ws_words.specs.declared.alu.Alu.TheVariants.{Sub}
use Rattle.ws_words.specs.Operators.{applied, flag}
use Rattle.ws_words.specs.Outside.{Act, Outside, ProcState, row, write, stored, printed, taken, head_or_zero}
use Rattle.cfg_core.specs.Graph.{Term, Cell, Flip, Not, Neg, Binary, Op, Assign, Store, Print}
use Rattle.cfg_core.specs.Graph.{Read, Give, Take, Choose, Tick, TickBy, Graph}
use Rattle.cfg_core.specs.Rules.{TermIn, OpIn}
use Rattle.cfg_core.specs.Walk.{value, loads_of, values, all_loads, value_of, values_of, OpsOutcome, Done}
use Rattle.cfg_core.specs.Walk.{Out, and_then, spend, run_op, run_ops}
use Rattle.live_vars.specs.Live.{Mentions, OneMentions}
use Rattle.phi_conv.specs.Joined.{more_vars}
use Rattle.live_vars.proofs.Needed.{Agree, Before, Needs}

-- two states: the second has the variables of the joined graph
pub record States (v : ℕ) (P : ℕ → Type 0) (s t : ProcState) : Type 0 where
  pub vars : Agree v P s.vars t.vars
  pub long : length s.vars ≡ v
  pub longer : length t.vars ≡ more_vars v
  pub out : s.out ≡ t.out

-- both done, with as many turns left and states that agree, or both out of turns with the same outside
abbrev pub Outcomes : ℕ → (ℕ → Type 0) → OpsOutcome → OpsOutcome → Type 0
Outcomes v P (Done s k) (Done t j) = (k ≡ j) × States v P s t
Outcomes v P (Out o) (Out p) = o ≡ p
Outcomes v P _ _ = ⊥

module _ (g : Graph) (v : ℕ) where
  module _ (vs ws : List ℕ) (cells : List (List ℕ)) where
    -- a term has the same value on variables that agree on what it mentions
    pub value_same : (t : Term) → TermIn (length g.arrays) v t → Agree v (Mentions t) vs ws
        → value t vs cells ≡ value t ws cells
    value_same (Cell a t) i h = grind (arith, value_same t i.1 h)
    value_same (Flip t) i h = ap (λ n. 2 ^ 64 - 1 - n) (value_same t i h)
    value_same (Not t) i h = ap (λ n. flag (n == 0)) (value_same t i h)
    value_same (Neg t) i h = ap (λ n. applied Sub 0 n) (value_same t i h)
    value_same (Binary op a b) i h = ap (λ n. applied op n (value b vs cells))
        (value_same a i.0 (λ x lt m. h x lt (inl m))) ∙ ap (λ n. applied op (value a ws cells) n)
        (value_same b i.1 (λ x lt m. h x lt (inr m)))
    value_same t i h = grind arith

    -- it loads the same
    pub loads_same : (t : Term) → TermIn (length g.arrays) v t → Agree v (Mentions t) vs ws
        → loads_of t vs cells ≡ loads_of t ws cells
    loads_same (Cell a t) i h = grind (arith, value_same, loads_same t i.1 h)
    loads_same (Flip t) i h = loads_same t i h
    loads_same (Not t) i h = loads_same t i h
    loads_same (Neg t) i h = loads_same t i h
    loads_same (Binary op a b) i h = ap (λ (zs : List Act). zs ++ loads_of b vs cells)
        (loads_same a i.0 (λ x lt m. h x lt (inl m))) ∙ ap (λ (zs : List Act). loads_of a ws cells ++ zs)
        (loads_same b i.1 (λ x lt m. h x lt (inr m)))
    loads_same t i h = grind arith

    -- so do terms
    pub values_same : (ts : List Term) → AllByRecursion (TermIn (length g.arrays) v) ts
        → Agree v (OneMentions ts) vs ws → values ts vs cells ≡ values ts ws cells
    values_same [] i h = refl
    values_same (t ∷ ts) i h = ap (λ n. n ∷ values ts vs cells) (value_same t i.0 (λ x lt m. h x lt (inl m)))
        ∙ ap (λ (ns : List ℕ). value t ws cells ∷ ns) (values_same ts i.1 (λ x lt m. h x lt (inr m)))

    -- and they load the same
    pub all_loads_same : (ts : List Term) → AllByRecursion (TermIn (length g.arrays) v) ts
        → Agree v (OneMentions ts) vs ws → all_loads ts vs cells ≡ all_loads ts ws cells
    all_loads_same [] i h = refl
    all_loads_same (t ∷ ts) i h = ap (λ (zs : List Act). zs ++ all_loads ts vs cells)
        (loads_same t i.0 (λ x lt m. h x lt (inl m))) ∙ ap (λ (zs : List Act). loads_of t ws cells ++ zs)
        (all_loads_same ts i.1 (λ x lt m. h x lt (inr m)))

  -- states that agree on more agree on less
  pub weaker : (P Q : ℕ → Type 0) (s t : ProcState) → ((x : ℕ) → Q x → P x) → States v P s t → States v Q s t
  weaker P Q s t to h = grind (arith, h.vars)

  -- the value of a term, and the states after its loads
  module _ (P : ℕ → Type 0) (s t : ProcState) (h : States v P s t) (term : Term)
      (i : TermIn (length g.arrays) v term) (known : (x : ℕ) → Mentions term x → P x) where
    agreed : Agree v (Mentions term) s.vars t.vars
    agreed x lt m = h.vars x lt (known x m)

    -- a term has the same value in both states
    pub term_value : (value_of term s).0 ≡ (value_of term t).0
    term_value = grind (arith, value_same, s.vars, t.vars, s.out.cells, agreed)

    -- the states still agree after its loads
    pub term_states : States v P (value_of term s).1 (value_of term t).1
    term_states = grind (arith, loads_same, s.vars, t.vars, s.out.cells, agreed)

  module _ (P : ℕ → Type 0) (s t : ProcState) (h : States v P s t) (terms : List Term)
      (i : AllByRecursion (TermIn (length g.arrays) v) terms) (known : (x : ℕ) → OneMentions terms x
      → P x) where
    all_agreed : Agree v (OneMentions terms) s.vars t.vars
    all_agreed x lt m = h.vars x lt (known x m)

    -- terms have the same values in both states
    pub terms_values : (values_of terms s).0 ≡ (values_of terms t).0
    terms_values = grind (arith, values_same, s.vars, t.vars, s.out.cells, all_agreed)

    -- the states still agree after their loads
    pub terms_states : States v P (values_of terms s).1 (values_of terms t).1
    terms_states = grind (arith, all_loads_same, s.vars, t.vars, s.out.cells, all_agreed)

  -- a variable is written
  pub written : (P : ℕ → Type 0) (s t : ProcState) (x a b : ℕ) → x < v → a ≡ b
      → ((y : ℕ) → y < v → (y ≡ x → ⊥) → P y → get_or s.vars y 0 ≡ get_or t.vars y 0) → length s.vars ≡ v
      → length t.vars ≡ more_vars v → s.out ≡ t.out → States v P (write s x a) (write t x b)
  written P s t x a b lt e others ls lt' out = grind (
    arith,
    cases_eq,
    s.vars,
    t.vars,
    get_or-set_same,
    get_or-set_other,
    length-set,
  )

  if_same : (P : ℕ → Type 0) (b c : Bool) (o o' q q' : OpsOutcome) → b ≡ c → Outcomes v P o o'
      → Outcomes v P q q' → Outcomes v P (if b then o else q) (if c then o' else q')
  if_same P b c o o' q q' e h i = grind arith

  spend_same : (P : ℕ → Type 0) (n k : ℕ) (s t : ProcState) → States v P s t
      → Outcomes v P (spend n s k) (spend n t k)
  spend_same P (suc n) (suc k) s t h = spend_same P n k s t h
  spend_same P n k s t h = grind arith

  abbrev on : Outside → ProcState
  on o = record { vars = []; out = o }

  op_same : (op : Op) (P : ℕ → Type 0) → OpIn (length g.arrays) v op → (s t : ProcState) (k : ℕ)
      → States v (Before op P) s t → Outcomes v P (run_op op s k) (run_op op t k)
  op_same (Assign x t) P i s s' k h =
      let st = term_states (Before (Assign x t) P) s s' h t i.1 (λ y m. inl m) in (
        refl,
        written P _ _ x _ _ i.0 (term_value (Before (Assign x t) P) s s' h t i.1 (λ y m. inl m))
            (λ y lt ne p. st.vars y lt (inr (ne, p))) st.long st.longer st.out,
      )
  op_same (Store a t u) P i s s' k h =
      let B : ℕ → Type 0 = Before (Store a t u) P in
      let st = term_states B s s' h t i.1 (λ y m. inl (inl m)) in
      let su = term_states B _ _ st u i.2 (λ y m. inl (inr m)) in
      let p : Outside = (value_of u (value_of t s').1).1.out in (
        refl,
        record {
          vars = λ y lt p. su.vars y lt (inr ((λ w. w), p));
          long = su.long;
          longer = su.longer;
          out = ap (λ (o : Outside). (stored (on o) a (value_of t s).0 (value_of u (value_of t s).1).0).out)
              su.out
              ∙ ap (λ n. (stored (on p) a n (value_of u (value_of t s).1).0).out)
              (term_value B s s' h t i.1 (λ y m. inl (inl m)))
              ∙ ap (λ n. (stored (on p) a (value_of t s').0 n).out)
              (term_value B _ _ st u i.2 (λ y m. inl (inr m)));
        },
      )
  op_same (Print t) P i s s' k h =
      let B : ℕ → Type 0 = Before (Print t) P in
      let st = term_states B s s' h t i (λ y m. inl m) in (
        refl,
        record {
          vars = λ y lt p. st.vars y lt (inr ((λ w. w), p));
          long = st.long;
          longer = st.longer;
          out = ap (λ (o : Outside). (printed (on o) (value_of t s).0).out) st.out
              ∙ ap (λ n. (printed (on (value_of t s').1.out) n).out) (term_value B s s' h t i (λ y m. inl m));
        },
      )
  op_same (Read x) P i s s' k h =
      let r = written P s s' x (head_or_zero s.out.input) (head_or_zero s'.out.input) i
      (ap (λ (o : Outside). head_or_zero o.input) h.out) (λ y lt ne p. h.vars y lt (inr (ne, p))) h.long
      h.longer h.out in grind arith
  op_same (Give p x) P i s s' k h =
      let r = written P s s' x (head_or_zero (row s.out.left (p - 1)))
      (head_or_zero (row s'.out.left (p - 1))) i.1
      (grind arith)
      (λ y lt ne q. h.vars y lt (inr (ne, q))) h.long h.longer h.out in grind arith
  op_same (Take p t) P i s s' k h =
      let B : ℕ → Type 0 = Before (Take p t) P in
      let st = term_states B s s' h t i.1 (λ y m. inl m) in (
        refl,
        record {
          vars = λ y lt q. st.vars y lt (inr ((λ w. w), q));
          long = st.long;
          longer = st.longer;
          out = ap (λ (o : Outside). (taken (on o) p (value_of t s).0).out) st.out
              ∙ ap (λ n. (taken (on (value_of t s').1.out) p n).out)
              (term_value B s s' h t i.1 (λ y m. inl m));
        },
      )
  op_same (Choose x t a b) P i s s' k h =
      let B : ℕ → Type 0 = Before (Choose x t a b) P in
      let st = term_states B s s' h t i.1 (λ y m. inl (inl m)) in
      let sa = term_states B _ _ st a i.2 (λ y m. inl (inr (inl m))) in
      let sb = term_states B _ _ st b i.3 (λ y m. inl (inr (inr m))) in
      if_same P _ _ _ _ _ _ (ap (λ n. n == 0) (term_value B s s' h t i.1 (λ y m. inl (inl m)))) (
        refl,
        written P _ _ x _ _ i.0 (term_value B _ _ st b i.3 (λ y m. inl (inr (inr m))))
            (λ y lt ne p. sb.vars y lt (inr (ne, p))) sb.long sb.longer sb.out,
      ) (
        refl,
        written P _ _ x _ _ i.0 (term_value B _ _ st a i.2 (λ y m. inl (inr (inl m))))
            (λ y lt ne p. sa.vars y lt (inr (ne, p))) sa.long sa.longer sa.out,
      )
  op_same (Tick n) P i s s' k h = grind (arith, spend_same, weaker)
  op_same (TickBy t n m) P i s s' k h =
      let B : ℕ → Type 0 = Before (TickBy t n m) P in
      let st = weaker B P _ _ (λ x p. inr ((λ w. w), p)) (term_states B s s' h t i (λ y q. inl q)) in
      if_same P _ _ _ _ _ _ (ap (λ n. n == 0) (term_value B s s' h t i (λ y q. inl q)))
      (spend_same P m k _ _ st) (spend_same P n k _ _ st)

  -- what follows may be compared from states that agree
  pub then_same : (P Q : ℕ → Type 0) (o p : OpsOutcome) (go to : ProcState → ℕ → OpsOutcome)
      → Outcomes v P o p → ((s t : ProcState) (k : ℕ) → States v P s t → Outcomes v Q (go s k) (to t k))
      → Outcomes v Q (and_then o go) (and_then p to)
  then_same P Q o p go to h f = grind arith

  -- operations do the same from states that agree on what they need
  pub ops_same : (ops : List Op) (P : ℕ → Type 0) → AllByRecursion (OpIn (length g.arrays) v) ops
      → (s t : ProcState) (k : ℕ) → States v (Needs ops P) s t → Outcomes v P (run_ops ops s k)
      (run_ops ops t k)
  ops_same [] P i s t k h = (refl, h)
  ops_same (op ∷ ops) P i s t k h = then_same (Needs ops P) P (run_op op s k) (run_op op t k) (run_ops ops)
      (run_ops ops) (op_same op (Needs ops P) i.0 s t k h) (λ s t k h. ops_same ops P i.1 s t k h)
