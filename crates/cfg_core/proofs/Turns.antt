-- Operations never have more turns left than they had, and fewer after a turn.
use Rattle.std.proofs.Common.{ℕ, suc, ◌≡◌, ◌<◌, ◌≤◌, Bool, true, false, ◌||◌, List, [], ◌∷◌}
use Rattle.std.proofs.Common.{if◌then◌else◌, refl, sym, ap, ◌∙◌, arith}
use Rattle.ws_words.specs.Outside.{ProcState}
use Rattle.cfg_core.specs.Graph.{Op}
use Rattle.cfg_core.specs.Walk.{value_of, OpsOutcome, Done, Out, and_then, spend, run_op, run_ops}
use Rattle.cfg_core.specs.Rules.{takes_turn, has_turn, is_tick, has_tick}

-- operations leave at most so many turns
abbrev pub AtMost : ℕ → OpsOutcome → Type 0
AtMost k (Done s j) = j ≤ k
AtMost k (Out o) = Unit {0}

-- operations leave fewer turns
abbrev pub Fewer : ℕ → OpsOutcome → Type 0
Fewer k (Done s j) = j < k
Fewer k (Out o) = Unit {0}

if_most : (k : ℕ) (b : Bool) (o p : OpsOutcome) → AtMost k o → AtMost k p → AtMost k (if b then o else p)
if_most k b o p h i = grind arith

if_fewer : (k : ℕ) (b : Bool) (o p : OpsOutcome) → Fewer k o → Fewer k p → Fewer k (if b then o else p)
if_fewer k b o p h i = grind arith

raise : (j k : ℕ) → j ≤ k → (o : OpsOutcome) → AtMost j o → AtMost k o
raise j k le o h = grind arith

spend_most : (n : ℕ) (s : ProcState) (k : ℕ) → AtMost k (spend n s k)
spend_most (suc n) s (suc k) = grind (arith, raise, spend_most n s k)
spend_most n s k = grind arith

fewer_of : (k : ℕ) (o : OpsOutcome) → AtMost k o → Fewer (suc k) o
fewer_of k o h = grind arith

spend_fewer : (n : ℕ) (s : ProcState) (k : ℕ) → Fewer k (spend (suc n) s k)
spend_fewer n s k = grind (arith, fewer_of, spend_most)

op_most : (op : Op) (s : ProcState) (k : ℕ) → AtMost k (run_op op s k)
op_most op s k = grind (arith, if_most, value_of, spend_most)

op_fewer : (op : Op) (s : ProcState) (k : ℕ) → takes_turn op ≡ true → Fewer k (run_op op s k)
op_fewer op s k h = grind (arith, spend_fewer, if_fewer, value_of)

then_most : (k : ℕ) (o : OpsOutcome) (go : ProcState → ℕ → OpsOutcome) → AtMost k o
    → ((s : ProcState) (j : ℕ) → AtMost j (go s j)) → AtMost k (and_then o go)
then_most k o go h f = grind (arith, raise)

-- operations leave no more turns than they had
pub ops_most : (ops : List Op) (s : ProcState) (k : ℕ) → AtMost k (run_ops ops s k)
ops_most [] s k = omega arith
ops_most (op ∷ ops) s k = grind (arith, then_most, op_most, ops_most ops)

fewer_raise : (j k : ℕ) → j ≤ k → (o : OpsOutcome) → Fewer j o → Fewer k o
fewer_raise j k le o h = grind arith

most_fewer : (j k : ℕ) → j < k → (o : OpsOutcome) → AtMost j o → Fewer k o
most_fewer j k lt o h = grind arith

first_fewer : (k : ℕ) (o : OpsOutcome) (go : ProcState → ℕ → OpsOutcome) → Fewer k o
    → ((s : ProcState) (j : ℕ) → AtMost j (go s j)) → Fewer k (and_then o go)
first_fewer k o go h f = grind (arith, most_fewer)

rest_fewer : (k : ℕ) (o : OpsOutcome) (go : ProcState → ℕ → OpsOutcome) → AtMost k o
    → ((s : ProcState) (j : ℕ) → Fewer j (go s j)) → Fewer k (and_then o go)
rest_fewer k o go h f = grind (arith, fewer_raise)

-- operations with a turn leave fewer
pub ops_fewer : (ops : List Op) → has_turn ops ≡ true → (s : ProcState) (k : ℕ) → Fewer k (run_ops ops s k)
ops_fewer [] h s k = absurd (cc)
ops_fewer (op ∷ ops) h s k = by_first (takes_turn op) refl
    (grind (arith, first_fewer, op_fewer, ops_most))
    (λ e. rest_fewer k (run_op op s k) (run_ops ops) (op_most op s k)
    (ops_fewer ops (sym (ap (λ b. b || has_turn ops) e) ∙ h)))
  where
    by_first : (b : Bool) → takes_turn op ≡ b → (takes_turn op ≡ true → Fewer k (run_ops (op ∷ ops) s k))
        → (takes_turn op ≡ false → Fewer k (run_ops (op ∷ ops) s k)) → Fewer k (run_ops (op ∷ ops) s k)
    by_first b e f i = grind arith

pub tick_turns : (op : Op) → is_tick op ≡ true → takes_turn op ≡ true
tick_turns op h = grind arith

or_up : (a b c d : Bool) → (a ≡ true → c ≡ true) → (b ≡ true → d ≡ true) → (a || b) ≡ true → (c || d) ≡ true
or_up a b c d f g h = grind arith

-- a Tick is a turn
pub has_tick_turns : (ops : List Op) → has_tick ops ≡ true → has_turn ops ≡ true
has_tick_turns [] h = h
has_tick_turns (op ∷ ops) h = grind (arith, or_up, tick_turns, has_tick_turns ops)
