-- What stands for a short branch does what the branch and the arm that it takes do.
use Rattle.std.proofs.Common.{ℕ, suc, ◌+◌, ◌-◌, ◌^◌, ◌≡◌, ◌<◌, ◌≤◌, ◌⊎◌, ◌==◌, Bool, true, false}
use Rattle.std.proofs.Common.{if◌then◌else◌, List, [], ◌++◌, length, get_or, refl, sym, ap, ◌∙◌, inl}
use Rattle.std.proofs.Common.{inr, arith}
use Rattle.std.specs.List.{AllByRecursion, filter}
use Rattle.std.proofs.lemmas.List.{get_or-set_other}
use Rattle.ws_words.specs.declared.alu.Alu.TheVariants.{Sub}
use Rattle.ws_words.specs.Operators.{applied, flag}
use Rattle.ws_words.specs.Outside.{ProcState}
use Rattle.cfg_core.specs.Graph.{Term, Cell, Flip, Not, Neg, Binary, Op, Graph}
use Rattle.cfg_core.specs.Rules.{TermIn, OpIn}
use Rattle.cfg_core.specs.Walk.{value, OpsOutcome, Done, and_then, spend, run_ops}
use Rattle.live_vars.specs.Live.{Mentions}
use Rattle.live_vars.specs.Marks.{has}
use Rattle.phi_conv.specs.Short.{Short, is_bare, all_light}
use Rattle.phi_conv.specs.Joined.{turns_of, is_among, copied, arm, written, written_by, first_base}
use Rattle.phi_conv.specs.Joined.{second_base, is_still, test_if, test_of, choices}
use Rattle.phi_conv.proofs.Light.{after, light_run}
use Rattle.phi_conv.proofs.Copies.{Copies, if_apart, arm_copies, arm_keeps, after_out, after_length}
use Rattle.phi_conv.proofs.Copies.{arm_light, arm_no_turns}
use Rattle.phi_conv.proofs.Choices.{chosen, Steady, by_zero, with_vars, choices_run, stays, gets}
use Rattle.phi_conv.proofs.Choices.{chosen_length}
use Rattle.phi_conv.proofs.Agreeing.{States, Outcomes}
use Rattle.phi_conv.proofs.Picked.{less_among, among_in, in_among, written_stays, written_more, written_low}
use Rattle.ws_words.proofs.Bools.{not_true}
use Rattle.cfg_core.proofs.Spots.{all_from, filter_in, in_filter}
use Rattle.ws_words.specs.Items.{In}
use Rattle.cfg_core.proofs.Outcomes.{run_append}
use Rattle.live_vars.proofs.Needed.{Needs}

pure_run : (ops : List Op) (r : ProcState) (k : ℕ) → all_light ops ≡ true → turns_of ops ≡ 0
    → run_ops ops r k ≡ Done (after ops r) k
pure_run ops r k l e = light_run ops r k l ∙ ap (λ n. and_then (spend n r k) (λ q i. Done (after ops q) i)) e

-- the same turns, before what is alike
pub spend_rel : (v : ℕ) (P : ℕ → Type 0) (n k : ℕ) (s r : ProcState) (go to : ProcState → ℕ → OpsOutcome)
    → s.out ≡ r.out → ((j : ℕ) → Outcomes v P (go s j) (to r j)) → Outcomes v P (and_then (spend n s k) go)
    (and_then (spend n r k) to)
spend_rel v P (suc n) (suc k) s r go to e f = spend_rel v P n k s r go to e f
spend_rel v P n k s r go to e f = grind arith

value_agree : (t : Term) (vs ws : List ℕ) (cells : List (List ℕ))
    → ((y : ℕ) → Mentions t y → get_or vs y 0 ≡ get_or ws y 0) → value t vs cells ≡ value t ws cells
value_agree (Cell a t) vs ws cells h = grind (arith, value_agree t vs ws cells h)
value_agree (Flip t) vs ws cells h = ap (λ n. 2 ^ 64 - 1 - n) (value_agree t vs ws cells h)
value_agree (Not t) vs ws cells h = ap (λ n. flag (n == 0)) (value_agree t vs ws cells h)
value_agree (Neg t) vs ws cells h = ap (λ n. applied Sub 0 n) (value_agree t vs ws cells h)
value_agree (Binary op a b) vs ws cells h = ap (λ n. applied op n (value b vs cells))
    (value_agree a vs ws cells (λ y m. h y (inl m))) ∙ ap (λ n. applied op (value a ws cells) n)
    (value_agree b vs ws cells (λ y m. h y (inr m)))
value_agree t vs ws cells h = grind arith

module _ (g : Graph) (live : List (List ℕ)) (v : ℕ) (s : Short) (P : ℕ → Type 0) where
  -- where the copies for the first arm begin
  abbrev pub base_first : ℕ
  base_first = first_base v

  -- where those for the second begin
  abbrev pub base_second : ℕ
  base_second = second_base v

  -- what the first arm writes
  abbrev pub done_first : List ℕ
  done_first = written [] s.first

  -- what the second arm writes
  abbrev pub done_second : List ℕ
  done_second = written [] s.second

  -- what stands for the test
  abbrev pub test : Term
  test = test_of v s

  -- the variables that are chosen
  abbrev pub picked : List ℕ
  picked = filter (has live s.join) (written_by s)

  -- after the first arm, and after both
  abbrev pub once : ProcState → ProcState
  once r = after (arm base_first [] s.first) r

  -- after both arms
  abbrev pub twice : ProcState → ProcState
  twice r = after (arm base_second [] s.second) (once r)

  -- after the choices, where the test takes this arm
  abbrev pub settled : Bool → ProcState → ProcState
  settled z r =
      with_vars (twice r) (chosen (by_zero z base_first base_second) (by_zero z done_first done_second) picked
      (twice r).vars)

  -- the arms and the choices
  abbrev pub tail : List Op
  tail = arm base_first [] s.first ++ (arm base_second [] s.second ++ choices live v s)

  module _ (reads_in : TermIn (length g.arrays) v s.test)
      (in_first : AllByRecursion (OpIn (length g.arrays) v) s.first)
      (in_second : AllByRecursion (OpIn (length g.arrays) v) s.second)
      (light_first : all_light s.first ≡ true) (light_second : all_light s.second ≡ true)
      (marked : (x : ℕ) → x < v → P x → has live s.join x ≡ true) where
    -- the test reads its own variable, or one that no arm writes
    held : (c : Bool) (t : Term) (y : ℕ) → is_still (written_by s) t ≡ c → TermIn (length g.arrays) v t
        → Mentions (test_if c v t) y → (y ≡ v) ⊎ ((y < v) × (is_among (written_by s) y ≡ false))
    held c t y e i m = grind (arith, not_true)

    test_reads : (y : ℕ) → Mentions test y → (y ≡ v) ⊎ ((y < v) × (is_among (written_by s) y ≡ false))
    test_reads y m = held (is_still (written_by s) s.test) s.test y refl reads_in m

    held_bare : (c : Bool) (t : Term) → is_still (written_by s) t ≡ c → is_bare (test_if c v t) ≡ true
    held_bare c t e = grind arith

    -- what stands for the test loads nothing
    pub test_bare : is_bare test ≡ true
    test_bare = held_bare (is_still (written_by s) s.test) s.test refl

    picked_low : (x : ℕ) → In x picked → x < v
    picked_low x i = written_low g v done_first s.second in_second
        (written_low g v [] s.first in_first (λ y z. absurd z)) x
        (filter_in (has live s.join) (written_by s) x i).0

    picked_written : (x : ℕ) → In x picked → is_among (written_by s) x ≡ true
    picked_written x i = in_among (written_by s) x (filter_in (has live s.join) (written_by s) x i).0

    apart : (x y : ℕ) → In x picked → Mentions test y → y ≡ x → ⊥
    apart x y i m e = grind (arith, test_reads, picked_low, picked_written)

    steady : (cells : List (List ℕ)) → AllByRecursion (Steady test cells) picked
    steady cells = grind (arith, all_from, value_agree, get_or-set_other, apart)

    kept : (r : ProcState) (y : ℕ) → y < base_first → get_or (twice r).vars y 0 ≡ get_or r.vars y 0
    kept r y lt = arm_keeps g v base_second (omega arith) s.second [] (once r) y in_second
        (λ x lx e. omega (arith, e, lt)) ∙ arm_keeps g v base_first (omega arith) s.first [] r y in_first
        (λ x lx e. omega (arith, e, lt))

    twice_out : (r : ProcState) → (twice r).out ≡ r.out
    twice_out r = after_out (arm base_second [] s.second) (once r) ∙ after_out (arm base_first [] s.first) r

    test_twice : (r : ProcState) → value test (twice r).vars (twice r).out.cells ≡ value test r.vars
        r.out.cells
    test_twice r = grind (arith, twice_out, value_agree, r.vars, r.out.cells, kept, test_reads)

    -- the arms and the choices run to their end and take no turn
    pub tail_run : (r : ProcState) (k : ℕ) (z : Bool) → (value test r.vars r.out.cells == 0) ≡ z
        → run_ops tail r k ≡ Done (settled z r) k
    tail_run r k z e =
        run_append (arm base_first [] s.first) (arm base_second [] s.second ++ choices live v s) r k
        ∙ ap (λ o. and_then o (run_ops (arm base_second [] s.second ++ choices live v s)))
        (pure_run (arm base_first [] s.first) r k (arm_light base_first [] s.first light_first)
        (arm_no_turns base_first [] s.first))
        ∙ run_append (arm base_second [] s.second) (choices live v s) (once r) k
        ∙ ap (λ o. and_then o (run_ops (choices live v s))) (pure_run (arm base_second [] s.second) (once r) k
        (arm_light base_second [] s.second light_second) (arm_no_turns base_second [] s.second))
        ∙ choices_run test base_first base_second done_first done_second test_bare picked (twice r) k z
        (steady (twice r).out.cells) (ap (λ n. n == 0) (test_twice r) ∙ e)

    -- a variable that matters is chosen, or its value stands in itself
    member : (base : ℕ) (done : List ℕ) (x : ℕ)
        → (is_among (written_by s) x ≡ false → is_among done x ≡ false) → x < v → P x
        → In x picked ⊎ (copied base done x ≡ x)
    member base done x off lt p = by_test (is_among (written_by s) x) refl
      where
        by_test : (c : Bool) → is_among (written_by s) x ≡ c → In x picked ⊎ (copied base done x ≡ x)
        by_test true e = inl (in_filter (has live s.join) (written_by s) x (among_in (written_by s) x e)
            (marked x lt p))
        by_test false e = inr (ap (λ b. if b then base + x else x) (off e))

    settles : (base : ℕ) (done : List ℕ) (past : v ≤ base) (vs ws : List ℕ) → v ≤ length ws
        → ((x : ℕ) → is_among (written_by s) x ≡ false → is_among done x ≡ false) → Copies v base done P vs ws
        → (x : ℕ) → x < v → P x → get_or vs x 0 ≡ get_or (chosen base done picked ws) x 0
    settles base done past vs ws lw off c x lt p = elim (member base done x (off x) lt p) [
      | inl i ↦ c x lt p ∙ sym (gets v base past done picked ws x (all_from (λ y. y < v) picked picked_low) lt
          lw i)
      | inr e ↦ c x lt p ∙ sym (stays v base past done picked ws x (all_from (λ y. y < v) picked picked_low)
          lt lw (ap (λ n. get_or ws n 0) (sym e)))
    ]

    twice_length : (r : ProcState) → length (twice r).vars ≡ length r.vars
    twice_length r = grind (arith, after_length)

    -- after them the variables that matter have what the arm of the test gives them
    pub settled_states : (z : Bool) (a r : ProcState) → States v (Needs (by_zero z s.first s.second) P) a r
        → States v P (after (by_zero z s.first s.second) a) (settled z r)
    settled_states false a r h = record {
      vars = settles base_first done_first (omega arith) (after s.first a).vars (twice r).vars
          (omega (arith, twice_length r, h.longer)) (λ x. less_among done_first (written_by s) x
          (written_stays done_first s.second x)) (
          λ x lt p. arm_copies g v base_first (omega arith) s.first [] P a r in_first light_first h.out h.long
          (omega (arith, h.longer)) h.vars x lt p
          ∙ sym (arm_keeps g v base_second (omega arith) s.second [] (once r) (copied base_first done_first x)
          in_second (λ y ly. if_apart (is_among done_first x) (base_first + x) x (base_second + y)
          (λ e. omega (arith, e, lt)) (λ e. omega (arith, e, lt))))
          );
      long = after_length s.first a ∙ h.long;
      longer = grind (arith, chosen_length, twice_length);
      out = after_out s.first a ∙ h.out ∙ sym (twice_out r);
    }
    settled_states true a r h = record {
      vars = settles base_second done_second (omega arith) (after s.second a).vars (twice r).vars
          (omega (arith, twice_length r, h.longer)) (λ x. less_among done_second (written_by s) x
          (written_more [] done_first s.second x (λ e. absurd (cc)))) (
          arm_copies g v base_second (omega arith) s.second [] P a (once r) in_second light_second
          (h.out ∙ sym (after_out (arm base_first [] s.first) r)) h.long
          (omega (arith, h.longer, after_length (arm base_first [] s.first) r))
          (λ x lt p. h.vars x lt p ∙ sym (arm_keeps g v base_first (omega arith) s.first [] r x in_first
          (λ y ly e. omega (arith, e, lt))))
          );
      long = after_length s.second a ∙ h.long;
      longer = grind (arith, chosen_length, twice_length);
      out = after_out s.second a ∙ h.out ∙ sym (twice_out r);
    }
