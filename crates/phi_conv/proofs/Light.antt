-- Operations that only assign and tick: what they do, and how many turns they take.
use Rattle.std.proofs.Common.{ℕ, zero, suc, ◌+◌, ◌≡◌, true, List, [], ◌∷◌, refl, ap, ◌∙◌, arith}
use Rattle.ws_words.specs.Outside.{Act, ProcState, write, with_acts}
use Rattle.cfg_core.specs.Graph.{Term, Flip, Not, Neg, Binary, Op, Assign, Store, Print}
use Rattle.cfg_core.specs.Graph.{Read, Give, Take, Choose, Tick, TickBy}
use Rattle.cfg_core.specs.Walk.{value, loads_of, value_of, OpsOutcome, Done, and_then, spend, run_ops}
use Rattle.phi_conv.specs.Short.{is_bare, all_light}
use Rattle.phi_conv.specs.Joined.{turns_of}
use Rattle.ws_words.proofs.Bools.{and_left as left_true, and_right as right_true}
use Rattle.cfg_core.proofs.Outcomes.{then_cong}
use Rattle.cfg_core.proofs.Quiet.{no_acts}

-- a bare term loads nothing
pub loads_nothing : (t : Term) (vs : List ℕ) (cells : List (List ℕ)) → is_bare t ≡ true
    → loads_of t vs cells ≡ []
loads_nothing (Flip t) vs cells e = loads_nothing t vs cells e
loads_nothing (Not t) vs cells e = loads_nothing t vs cells e
loads_nothing (Neg t) vs cells e = loads_nothing t vs cells e
loads_nothing (Binary op a b) vs cells e =
    grind (
      arith,
      left_true,
      right_true,
      loads_nothing a vs cells (left_true (is_bare a) (is_bare b) e),
      loads_nothing b vs cells (right_true (is_bare a) (is_bare b) e),
    )
loads_nothing t vs cells e = grind arith

-- a bare term leaves the state as it is
pub bare_state : (t : Term) (s : ProcState) → is_bare t ≡ true → (value_of t s).1 ≡ s
bare_state t s e = ap (λ (l : List Act). with_acts s l) (loads_nothing t s.vars s.out.cells e) ∙ no_acts s

-- what the assignments of operations do
abbrev pub after : List Op → ProcState → ProcState
after [] s = s
after (Assign x t ∷ ops) s = after ops (write s x (value t s.vars s.out.cells))
after (_ ∷ ops) s = after ops s

spend_more : (n m : ℕ) (s : ProcState) (k : ℕ) (go : ProcState → ℕ → OpsOutcome)
    → and_then (spend n s k) (λ r j. and_then (spend m r j) go) ≡ and_then (spend (n + m) s k) go
spend_more zero m s k go = grind arith
spend_more (suc n) m s zero go = let z : suc (n + m) ≡ suc n + m = omega arith in
    ap (λ i. and_then (spend i s 0) go) z
spend_more (suc n) m s (suc k) go = let z : suc (n + m) ≡ suc n + m = omega arith in
    grind (arith, spend_more n m s k go)

-- a change of variables may be made before turns are taken or after
pub spend_moved : (n : ℕ) (s r : ProcState) (k : ℕ) (go to : ProcState → ℕ → OpsOutcome) → r.out ≡ s.out
    → ((j : ℕ) → go r j ≡ to s j) → and_then (spend n r k) go ≡ and_then (spend n s k) to
spend_moved (suc n) s r (suc k) go to e f = spend_moved n s r k go to e f
spend_moved n s r k go to e f = grind arith

-- light operations take their turns and then assign
pub light_run : (ops : List Op) (s : ProcState) (k : ℕ) → all_light ops ≡ true
    → run_ops ops s k ≡ and_then (spend (turns_of ops) s k) (λ r j. Done (after ops r) j)
light_run [] s k e = refl
light_run (Tick n ∷ ops) s k e =
    then_cong (spend n s k) (run_ops ops) (λ r j. and_then (spend (turns_of ops) r j)
    (λ q i. Done (after ops q) i)) (λ r j. light_run ops r j e)
    ∙ spend_more n (turns_of ops) s k (λ q i. Done (after ops q) i)
light_run (Assign x t ∷ ops) s k e =
    let b = left_true (is_bare t) (all_light ops) e in
    ap (λ (r : ProcState). run_ops ops (write r x (value t s.vars s.out.cells)) k) (bare_state t s b)
    ∙ light_run ops (write s x (value t s.vars s.out.cells)) k (right_true (is_bare t) (all_light ops) e)
    ∙ spend_moved (turns_of ops) s (write s x (value t s.vars s.out.cells)) k (λ q i. Done (after ops q) i)
    (λ q i. Done (after (Assign x t ∷ ops) q) i) refl (λ j. refl)
light_run (Store a t u ∷ ops) s k e = absurd (cc)
light_run (Print t ∷ ops) s k e = absurd (cc)
light_run (Read x ∷ ops) s k e = absurd (cc)
light_run (Give p x ∷ ops) s k e = absurd (cc)
light_run (Take p t ∷ ops) s k e = absurd (cc)
light_run (Choose x t a b ∷ ops) s k e = absurd (cc)
light_run (TickBy t n m ∷ ops) s k e = absurd (cc)
