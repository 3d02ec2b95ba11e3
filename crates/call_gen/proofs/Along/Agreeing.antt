-- Two states that agree on the variables that matter do the same.
use Rattle.std.proofs.Common.{ℕ, suc, ◌-◌, ◌^◌, ◌≡◌, ◌<◌, ◌≤◌, ◌==◌, Bool, if◌then◌else◌, List, [], ◌∷◌, ◌++◌}
use Rattle.std.proofs.Common.{length, get_or, refl, sym, ap, ◌∙◌, inl, inr, arith}
use Rattle.std.specs.List.{AllByRecursion}
use Rattle.std.proofs.lemmas.Bool.{cases_eq}
use Rattle.std.proofs.lemmas.List.{get_or-set_same, get_or-set_other, length-set}
use Rattle.ws_words.specs.declared.alu.Alu.TheVariants.{Sub}
use Rattle.ws_words.specs.Operators.{applied, flag}
use Rattle.ws_words.specs.Outside.{Act, loads, stores, reads, prints, gives, takes, ProcState, row, write}
use Rattle.ws_words.specs.Outside.{stored, has_read, given, head_or_zero}
use Rattle.cfg_core.specs.Graph.{Term, Number, Var, Cell, Flip, Not, Neg, Binary, Op, Assign, Store, Print}
use Rattle.cfg_core.specs.Graph.{Read, Give, Take, Choose, Tick, TickBy, Graph}
use Rattle.cfg_core.specs.Rules.{TermIn, OpIn}
use Rattle.cfg_core.specs.Walk.{value, loads_of, values, all_loads, value_of, values_of, OpsOutcome, Done}
use Rattle.cfg_core.specs.Walk.{Out, and_then, spend, run_op, run_ops}
use Rattle.live_vars.specs.Live.{Mentions, OneMentions}
use Rattle.call_gen.proofs.Along.Visible.{Same, Seen, none_seen, seen_both, seen_load, seen_store, seen_read}
use Rattle.call_gen.proofs.Along.Visible.{seen_print, seen_give, seen_take, same_more, row_left}
use Rattle.call_gen.proofs.Along.Visible.{with_row_left}
use Rattle.cfg_core.proofs.ArraysThere.{length_with_row as with_row_count}
use Rattle.live_vars.proofs.Needed.{Agree, Before, Needs}

module _ (g : Graph) (rows size : ℕ) where
  abbrev pub arrays : ℕ
  arrays = length g.arrays

  pub seen_loads : (v : ℕ) (t : Term) (vs : List ℕ) (cells : List (List ℕ)) → TermIn (length g.arrays) v t
      → Seen arrays rows size (loads_of t vs cells)
  seen_loads v (Number n) vs cells i = none_seen arrays rows size
  seen_loads v (Var x) vs cells i = none_seen arrays rows size
  seen_loads v (Cell a t) vs cells i = seen_both arrays rows size (loads_of t vs cells)
      (loads a (value t vs cells) ∷ []) (seen_loads v t vs cells i.1)
      (seen_load arrays rows size a (value t vs cells) i.0.1)
  seen_loads v (Flip t) vs cells i = seen_loads v t vs cells i
  seen_loads v (Not t) vs cells i = seen_loads v t vs cells i
  seen_loads v (Neg t) vs cells i = seen_loads v t vs cells i
  seen_loads v (Binary op a b) vs cells i = seen_both arrays rows size (loads_of a vs cells)
      (loads_of b vs cells) (seen_loads v a vs cells i.0) (seen_loads v b vs cells i.1)

  module _ (v : ℕ) (vs ws : List ℕ) (cells hidden : List (List ℕ)) (few : length cells ≡ arrays) where
    pub value_same : (t : Term) → TermIn (length g.arrays) v t → Agree v (Mentions t) vs ws
        → value t vs cells ≡ value t ws (cells ++ hidden)
    value_same (Number n) i h = refl
    value_same (Var x) i h = h x i refl
    value_same (Cell a t) i h = grind (arith, row_left, value_same t i.1 h)
    value_same (Flip t) i h = ap (λ n. 2 ^ 64 - 1 - n) (value_same t i h)
    value_same (Not t) i h = ap (λ n. flag (n == 0)) (value_same t i h)
    value_same (Neg t) i h = ap (λ n. applied Sub 0 n) (value_same t i h)
    value_same (Binary op a b) i h = ap (λ n. applied op n (value b vs cells))
        (value_same a i.0 (λ x lt m. h x lt (inl m))) ∙ ap (λ n. applied op (value a ws (cells ++ hidden)) n)
        (value_same b i.1 (λ x lt m. h x lt (inr m)))

    pub loads_same : (t : Term) → TermIn (length g.arrays) v t → Agree v (Mentions t) vs ws
        → loads_of t vs cells ≡ loads_of t ws (cells ++ hidden)
    loads_same (Number n) i h = refl
    loads_same (Var x) i h = refl
    loads_same (Cell a t) i h = grind (arith, value_same, loads_same t i.1 h)
    loads_same (Flip t) i h = loads_same t i h
    loads_same (Not t) i h = loads_same t i h
    loads_same (Neg t) i h = loads_same t i h
    loads_same (Binary op a b) i h = ap (λ (zs : List Act). zs ++ loads_of b vs cells)
        (loads_same a i.0 (λ x lt m. h x lt (inl m)))
        ∙ ap (λ (zs : List Act). loads_of a ws (cells ++ hidden) ++ zs)
        (loads_same b i.1 (λ x lt m. h x lt (inr m)))

    pub values_same : (ts : List Term) → AllByRecursion (TermIn (length g.arrays) v) ts
        → Agree v (OneMentions ts) vs ws → values ts vs cells ≡ values ts ws (cells ++ hidden)
    values_same [] i h = refl
    values_same (t ∷ ts) i h = grind (arith, value_same, values_same ts i.1 (λ x lt m. h x lt (inr m)))

    pub all_loads_same : (ts : List Term) → AllByRecursion (TermIn (length g.arrays) v) ts
        → Agree v (OneMentions ts) vs ws → all_loads ts vs cells ≡ all_loads ts ws (cells ++ hidden)
    all_loads_same [] i h = refl
    all_loads_same (t ∷ ts) i h = grind (arith, loads_same, all_loads_same ts i.1 (λ x lt m. h x lt (inr m)))

  pub seen_all : (v : ℕ) (ts : List Term) (vs : List ℕ) (cells : List (List ℕ))
      → AllByRecursion (TermIn (length g.arrays) v) ts → Seen arrays rows size (all_loads ts vs cells)
  seen_all v [] vs cells i = none_seen arrays rows size
  seen_all v (t ∷ ts) vs cells i = seen_both arrays rows size (loads_of t vs cells) (all_loads ts vs cells)
      (seen_loads v t vs cells i.0) (seen_all v ts vs cells i.1)

  -- Two states. The second has one variable more, with this value.
  pub record States (v extra : ℕ) (hidden : List (List ℕ)) (P : ℕ → Type 0) (s t : ProcState) : Type 0 where
    pub vars : Agree v P s.vars t.vars
    pub long : length s.vars ≡ v
    pub longer : length t.vars ≡ suc v
    pub more : get_or t.vars v 0 ≡ extra
    pub out : Same arrays rows size hidden s.out t.out

  abbrev pub Outcomes : ℕ → ℕ → List (List ℕ) → (ℕ → Type 0) → OpsOutcome → OpsOutcome → Type 0
  Outcomes v extra hidden P (Done s k) (Done t j) = (k ≡ j) × States v extra hidden P s t
  Outcomes v extra hidden P (Out o) (Out p) = Same arrays rows size hidden o p
  Outcomes v extra hidden P _ _ = ⊥

  module _ (v extra : ℕ) (hidden : List (List ℕ)) where
    weaker : (P Q : ℕ → Type 0) (s t : ProcState) → ((x : ℕ) → Q x → P x) → States v extra hidden P s t
        → States v extra hidden Q s t
    weaker P Q s t to h = grind arith

    -- the value of a term, and the states after its loads
    module _ (P : ℕ → Type 0) (s t : ProcState) (h : States v extra hidden P s t) (term : Term)
        (i : TermIn (length g.arrays) v term) (known : (x : ℕ) → Mentions term x → P x) where
      agreed : Agree v (Mentions term) s.vars t.vars
      agreed x lt m = h.vars x lt (known x m)

      pub term_value : (value_of term s).0 ≡ (value_of term t).0
      term_value = grind (arith, value_same, agreed)

      pub term_states : States v extra hidden P (value_of term s).1 (value_of term t).1
      term_states = record {
        vars = h.vars;
        long = h.long;
        longer = h.longer;
        more = h.more;
        out = same_more arrays rows size hidden s.out t.out h.out (loads_of term s.vars s.out.cells) (loads_of
            term t.vars t.out.cells) (grind (arith, loads_same, agreed)) (seen_loads v term s.vars s.out.cells
            i);
      }

    module _ (P : ℕ → Type 0) (s t : ProcState) (h : States v extra hidden P s t) (terms : List Term)
        (i : AllByRecursion (TermIn (length g.arrays) v) terms) (known : (x : ℕ) → OneMentions terms x
        → P x) where
      all_agreed : Agree v (OneMentions terms) s.vars t.vars
      all_agreed x lt m = h.vars x lt (known x m)

      pub terms_values : (values_of terms s).0 ≡ (values_of terms t).0
      terms_values = values_same v s.vars t.vars s.out.cells hidden h.out.few terms i all_agreed
          ∙ ap (values terms t.vars) (sym h.out.cells)

      pub terms_states : States v extra hidden P (values_of terms s).1 (values_of terms t).1
      terms_states = record {
        vars = h.vars;
        long = h.long;
        longer = h.longer;
        more = h.more;
        out = same_more arrays rows size hidden s.out t.out h.out (all_loads terms s.vars s.out.cells)
            (all_loads terms t.vars t.out.cells)
            (all_loads_same v s.vars t.vars s.out.cells hidden h.out.few terms i all_agreed
            ∙ ap (all_loads terms t.vars) (sym h.out.cells)) (seen_all v terms s.vars s.out.cells i);
      }

    -- a variable is written
    pub written : (P : ℕ → Type 0) (s t : ProcState) (x a b : ℕ) → x < v → a ≡ b
        → ((y : ℕ) → y < v → (y ≡ x → ⊥) → P y → get_or s.vars y 0 ≡ get_or t.vars y 0) → length s.vars ≡ v
        → length t.vars ≡ suc v → get_or t.vars v 0 ≡ extra → Same arrays rows size hidden s.out t.out
        → States v extra hidden P (write s x a) (write t x b)
    written P s t x a b lt e others ls lt' more out =
        grind (arith, cases_eq, get_or-set_same, get_or-set_other, length-set)

    stored_out : (s t : ProcState) (a i j w u : ℕ) → 1 ≤ a → a ≤ arrays → i ≡ j → w ≡ u
        → Same arrays rows size hidden s.out t.out → Same arrays rows size hidden (stored s a i w).out
        (stored t a j u).out
    stored_out s t a i j w u some le ei ew h =
        let lt : a - 1 < length s.out.cells = omega arith in
        let m = same_more arrays rows size hidden s.out t.out h (stores a i w ∷ []) (stores a j u ∷ []) (grind
        arith) (seen_store arrays rows size a i w le) in
        grind (arith, row_left, with_row_left, with_row_count)

    if_same : (P : ℕ → Type 0) (b c : Bool) (o o' q q' : OpsOutcome) → b ≡ c → Outcomes v extra hidden P o o'
        → Outcomes v extra hidden P q q' → Outcomes v extra hidden P (if b then o else q)
        (if c then o' else q')
    if_same P b c o o' q q' e h i = grind arith

    spend_same : (P : ℕ → Type 0) (n k : ℕ) (s t : ProcState) → States v extra hidden P s t
        → Outcomes v extra hidden P (spend n s k) (spend n t k)
    spend_same P (suc n) (suc k) s t h = spend_same P n k s t h
    spend_same P n k s t h = grind arith

    op_same : (op : Op) (P : ℕ → Type 0) → OpIn (length g.arrays) v op → (s t : ProcState) (k : ℕ)
        → States v extra hidden (Before op P) s t → Outcomes v extra hidden P (run_op op s k) (run_op op t k)
    op_same (Assign x t) P i s s' k h =
        let st = term_states (Before (Assign x t) P) s s' h t i.1 (λ y m. inl m) in (
          refl,
          written P _ _ x _ _ i.0 (term_value (Before (Assign x t) P) s s' h t i.1 (λ y m. inl m))
              (λ y lt ne p. st.vars y lt (inr (ne, p))) st.long st.longer st.more st.out,
        )
    op_same (Store a t u) P i s s' k h =
        let B : ℕ → Type 0 = Before (Store a t u) P in
        let st = term_states B s s' h t i.1 (λ y m. inl (inl m)) in
        let su = term_states B _ _ st u i.2 (λ y m. inl (inr m)) in (
          refl,
          record {
            vars = λ y lt p. su.vars y lt (inr ((λ w. w), p));
            long = su.long;
            longer = su.longer;
            more = su.more;
            out = stored_out (value_of u (value_of t s).1).1 (value_of u (value_of t s').1).1 a _ _ _ _ i.0.0
                i.0.1 (term_value B s s' h t i.1 (λ y m. inl (inl m)))
                (term_value B _ _ st u i.2 (λ y m. inl (inr m))) su.out;
          },
        )
    op_same (Print t) P i s s' k h =
        let B : ℕ → Type 0 = Before (Print t) P in
        let st = term_states B s s' h t i (λ y m. inl m) in (
          refl,
          record {
            vars = grind arith;
            long = st.long;
            longer = st.longer;
            more = st.more;
            out = same_more arrays rows size hidden _ _ st.out _ _ (ap (λ n. prints n ∷ []) (term_value B s s'
                h t i (λ y m. inl m))) (seen_print arrays rows size _);
          },
        )
    op_same (Read x) P i s s' k h =
        let o = h.out in
        let m = same_more arrays rows size hidden s.out s'.out o (reads ∷ []) (reads ∷ []) refl (seen_read
        arrays rows size) in
        let out : Same arrays rows size hidden (has_read s x).out (has_read s' x).out = grind arith in
        let r = written P s s' x (head_or_zero s.out.input) (head_or_zero s'.out.input) i (ap head_or_zero
        o.input) (λ y lt ne p. h.vars y lt (inr (ne, p))) h.long h.longer h.more o in
        grind arith
    op_same (Give p x) P i s s' k h =
        let o = h.out in
        let m = same_more arrays rows size hidden s.out s'.out o (gives p ∷ []) (gives p ∷ []) refl (seen_give
        arrays rows size p) in
        let out : Same arrays rows size hidden (given s p x).out (given s' p x).out = grind arith in
        let r = written P s s' x (head_or_zero (row s.out.left (p - 1))) (head_or_zero (row s'.out.left (p -
        1))) i.1 (grind arith) (λ y lt ne q. h.vars y lt (inr (ne, q))) h.long h.longer h.more o in
        grind arith
    op_same (Take p t) P i s s' k h =
        let B : ℕ → Type 0 = Before (Take p t) P in
        let st = term_states B s s' h t i.1 (λ y m. inl m) in (
          refl,
          record {
            vars = grind arith;
            long = st.long;
            longer = st.longer;
            more = st.more;
            out = same_more arrays rows size hidden _ _ st.out _ _ (ap (λ n. takes p n ∷ []) (term_value B s
                s' h t i.1 (λ y m. inl m))) (seen_take arrays rows size p _);
          },
        )
    op_same (Choose x t a b) P i s s' k h =
        let B : ℕ → Type 0 = Before (Choose x t a b) P in
        let st = term_states B s s' h t i.1 (λ y m. inl (inl m)) in
        let sa = term_states B _ _ st a i.2 (λ y m. inl (inr (inl m))) in
        let sb = term_states B _ _ st b i.3 (λ y m. inl (inr (inr m))) in
        if_same P _ _ _ _ _ _ (ap (λ n. n == 0) (term_value B s s' h t i.1 (λ y m. inl (inl m)))) (
          refl,
          written P _ _ x _ _ i.0 (term_value B _ _ st b i.3 (λ y m. inl (inr (inr m))))
              (λ y lt ne p. sb.vars y lt (inr (ne, p))) sb.long sb.longer sb.more sb.out,
        ) (
          refl,
          written P _ _ x _ _ i.0 (term_value B _ _ st a i.2 (λ y m. inl (inr (inl m))))
              (λ y lt ne p. sa.vars y lt (inr (ne, p))) sa.long sa.longer sa.more sa.out,
        )
    op_same (Tick n) P i s s' k h = grind (arith, spend_same, weaker)
    op_same (TickBy t n m) P i s s' k h =
        let B : ℕ → Type 0 = Before (TickBy t n m) P in
        let st = weaker B P _ _ (λ x p. inr ((λ w. w), p)) (term_states B s s' h t i (λ y q. inl q)) in
        if_same P _ _ _ _ _ _ (ap (λ n. n == 0) (term_value B s s' h t i (λ y q. inl q)))
        (spend_same P m k _ _ st) (spend_same P n k _ _ st)

    then_same : (P Q : ℕ → Type 0) (o p : OpsOutcome) (go : ProcState → ℕ → OpsOutcome)
        → Outcomes v extra hidden P o p → ((s t : ProcState) (k : ℕ) → States v extra hidden P s t
        → Outcomes v extra hidden Q (go s k) (go t k)) → Outcomes v extra hidden Q (and_then o go)
        (and_then p go)
    then_same P Q o p go h f = grind arith

    pub ops_same : (ops : List Op) (P : ℕ → Type 0) → AllByRecursion (OpIn (length g.arrays) v) ops
        → (s t : ProcState) (k : ℕ) → States v extra hidden (Needs ops P) s t
        → Outcomes v extra hidden P (run_ops ops s k) (run_ops ops t k)
    ops_same [] P i s t k h = (refl, h)
    ops_same (op ∷ ops) P i s t k h = then_same (Needs ops P) P (run_op op s k) (run_op op t k) (run_ops ops)
        (op_same op (Needs ops P) i.0 s t k h) (λ s t k h. ops_same ops P i.1 s t k h)
