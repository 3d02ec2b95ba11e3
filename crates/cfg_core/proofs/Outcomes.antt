-- Operations one after another.
use Rattle.std.proofs.Common.{arith, ℕ, ◌≡◌, List, [], ◌∷◌, ◌++◌, refl, ◌∙◌}
use Rattle.ws_words.specs.Outside.{ProcState}
use Rattle.cfg_core.specs.Graph.{Op}
use Rattle.cfg_core.specs.Walk.{OpsOutcome, and_then, run_op, run_ops}

-- what goes on alike leads to the same
pub then_cong : (o : OpsOutcome) (f h : ProcState → ℕ → OpsOutcome)
    → ((s : ProcState) (k : ℕ) → f s k ≡ h s k) → and_then o f ≡ and_then o h
then_cong o f h e = grind arith

pub then_then : (o : OpsOutcome) (f h : ProcState → ℕ → OpsOutcome) → and_then o (λ r j. and_then (f r j) h)
    ≡ and_then (and_then o f) h
then_then o f h = grind arith

pub run_append : (xs ys : List Op) (s : ProcState) (k : ℕ) → run_ops (xs ++ ys) s k ≡ and_then
    (run_ops xs s k) (run_ops ys)
run_append [] ys s k = refl
run_append (x ∷ xs) ys s k = then_cong (run_op x s k) (run_ops (xs ++ ys))
    (λ r j. and_then (run_ops xs r j) (run_ops ys)) (λ r j. run_append xs ys r j)
    ∙ then_then (run_op x s k) (run_ops xs) (run_ops ys)
