-- The test, the turns, the arms and the choices together, beside a branch and the arm that it takes.
use Rattle.std.proofs.Common.{ℕ, ◌≡◌, ◌<◌, ◌==◌, Bool, true, false, if◌then◌else◌, List, ◌∷◌, ◌++◌, length}
use Rattle.std.proofs.Common.{refl, sym, ap, ◌∙◌, subst, arith}
use Rattle.std.specs.List.{AllByRecursion}
use Rattle.std.proofs.lemmas.List.{get_or-set_same, get_or-set_other, length-set}
use Rattle.ws_words.specs.Outside.{ProcState, write}
use Rattle.cfg_core.specs.Graph.{Term, Op, TickBy, Graph}
use Rattle.cfg_core.specs.Rules.{TermIn, OpIn}
use Rattle.cfg_core.specs.Walk.{value, value_of, OpsOutcome, Done, and_then, spend, run_op, run_ops}
use Rattle.live_vars.specs.Live.{Mentions}
use Rattle.live_vars.specs.Marks.{has}
use Rattle.phi_conv.specs.Short.{Short, is_bare, all_light}
use Rattle.phi_conv.specs.Joined.{written_by, turns_of, is_still, keep_test, test_if, test_of, joining}
use Rattle.phi_conv.proofs.Light.{bare_state, after}
use Rattle.phi_conv.proofs.Choices.{by_zero}
use Rattle.phi_conv.proofs.Agreeing.{States, Outcomes, term_value, term_states, weaker}
use Rattle.phi_conv.proofs.Joining.{tail, test_bare, tail_run, settled_states, spend_rel}
use Rattle.live_vars.proofs.Needed.{Needs}

still_bare : (s : Short) (t : Term) → is_still (written_by s) t ≡ true → is_bare t ≡ true
still_bare s t e = grind arith

-- after the test: the state, and what stands for the test's value
pub record Tested (v : ℕ) (B : ℕ → Type 0) (a r : ProcState) (t held : Term) (ops rest : List Op)
    (k : ℕ) : Type 0 where
  pub state : ProcState
  pub run : run_ops ops r k ≡ run_ops rest state k
  pub states : States v B (value_of t a).1 state
  pub value : value held state.vars state.out.cells ≡ (value_of t a).0

tested : (g : Graph) (v : ℕ) (s : Short) (B : ℕ → Type 0) (a r : ProcState) (t : Term) (c : Bool)
    → is_still (written_by s) t ≡ c → TermIn (length g.arrays) v t → States v B a r
    → ((x : ℕ) → Mentions t x → B x) → (rest : List Op) (k : ℕ) → Tested v B a r t (test_if c v t)
    (keep_test c v t ++ rest) rest k
tested g v s B a r t true e i h known rest k = grind (arith, bare_state, still_bare, term_value)
tested g v s B a r t false e i h known rest k =
    let st = term_states g v B a r h t i known in
    let q : ProcState = (value_of t r).1 in
    let w : ℕ = (value_of t r).0 in
    record {
      state = write q v w;
      run = refl;
      states = record {
        vars = λ x lt p. st.vars x lt p ∙ sym (get_or-set_other q.vars v x w 0 (λ e. omega (arith, e, lt)));
        long = st.long;
        longer = length-set q.vars v w ∙ st.longer;
        out = st.out;
      };
      value = get_or-set_same q.vars v w 0 (omega (arith, st.longer))
          ∙ sym (term_value g v B a r h t i known);
    }

turns_by : (test : Term) (n m : ℕ) (r : ProcState) (k : ℕ) (z : Bool) → is_bare test ≡ true
    → (value test r.vars r.out.cells == 0) ≡ z → run_op (TickBy test n m) r k ≡ spend (by_zero z n m) r k
turns_by test n m r k z bare e =
    ap (λ (u : ProcState). if value test r.vars r.out.cells == 0 then spend m u k else spend n u k)
    (bare_state test r bare)
    ∙ ap (λ c. if c then spend m r k else spend n r k) e
    ∙ decided z
  where
    decided : (c : Bool) → (if c then spend m r k else spend n r k) ≡ spend (by_zero c n m) r k
    decided c = grind arith

turns_zero : (z : Bool) (ops ps : List Op) → by_zero z (turns_of ops) (turns_of ps) ≡ turns_of
    (by_zero z ops ps)
turns_zero z ops ps = grind arith

-- an arm: its turns, then its assignments
abbrev pub arm_run : List Op → ProcState → ℕ → OpsOutcome
arm_run ops a k = and_then (spend (turns_of ops) a k) (λ q i. Done (after ops q) i)

module _ (g : Graph) (live : List (List ℕ)) (v : ℕ) (s : Short) (P B : ℕ → Type 0) where
  module _ (reads_in : TermIn (length g.arrays) v s.test)
      (in_first : AllByRecursion (OpIn (length g.arrays) v) s.first)
      (in_second : AllByRecursion (OpIn (length g.arrays) v) s.second)
      (light_first : all_light s.first ≡ true) (light_second : all_light s.second ≡ true)
      (marked : (x : ℕ) → x < v → P x → has live s.join x ≡ true) where
    -- what stands for a short branch does what the test and the arm that it takes do
    pub join_same : (a r : ProcState) (k : ℕ) (z : Bool) → ((value_of s.test a).0 == 0) ≡ z
        → ((x : ℕ) → Mentions s.test x → B x) → ((x : ℕ) → Needs (by_zero z s.first s.second) P x → B x)
        → States v B a r →
        Outcomes v P (arm_run (by_zero z s.first s.second) (value_of s.test a).1 k)
        (run_ops (joining live v s) r k)
    join_same a r k z e known needed h =
        let n = turns_of s.first in
        let m = turns_of s.second in
        let ops = by_zero z s.first s.second in
        let rest : List Op = TickBy (test_of v s) n m ∷ tail g live v s P in
        let t = tested g v s B a r s.test (is_still (written_by s) s.test) refl reads_in h known rest k in
        let q : ProcState = t.state in
        let at : (value (test_of v s) q.vars q.out.cells == 0) ≡ z = ap (λ w. w == 0) t.value ∙ e in
        let run : run_ops (joining live v s) r k ≡ and_then (spend (turns_of ops) q k)
        (run_ops (tail g live v s P)) =
        t.run
        ∙ ap (λ o. and_then o (run_ops (tail g live v s P)))
        (turns_by (test_of v s) n m q k z (test_bare g live v s P reads_in in_first in_second light_first
        light_second marked) at)
        ∙ ap (λ i. and_then (spend i q k) (run_ops (tail g live v s P))) (turns_zero z s.first s.second) in
        let b : ProcState = (value_of s.test a).1 in
        let near : States v (Needs ops P) b q = weaker g v B (Needs ops P) b q needed t.states in
        subst (λ o. Outcomes v P (arm_run ops b k) o) (sym run) (
        spend_rel v P (turns_of ops) k b q (λ u i. Done (after ops u) i) (run_ops (tail g live v s P))
        near.out (
        λ j. subst (λ o. Outcomes v P (Done (after ops b) j) o)
        (sym (tail_run g live v s P reads_in in_first in_second light_first light_second marked q j z at)) (
          refl,
          settled_states g live v s P reads_in in_first in_second light_first light_second marked z b
              q near,
        )
        )
        )
