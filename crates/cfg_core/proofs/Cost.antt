-- A walk that ended with turns left ends with each other number of turns left, if it has as many more or
-- fewer.
use Rattle.std.proofs.Common.{ℕ, zero, suc, ◌+◌, ◌-◌, ◌≡◌, ◌≤◌, ◌⊎◌, ◌==◌, Bool, true, false, List, [], ◌∷◌}
use Rattle.std.proofs.Common.{if◌then◌else◌, refl, sym, ap, ◌∙◌, subst, inl, inr, arith}
use Rattle.ws_words.specs.Outside.{Outside, ProcState, World}
use Rattle.cfg_core.specs.Graph.{Op, Exit, Goto, Branch, Call, Return, Send, Stop, Graph, block_at}
use Rattle.cfg_core.specs.Walk.{value_of, OpsOutcome, Done, Out, and_then, spend, run_op, run_ops, Frame}
use Rattle.cfg_core.specs.Walk.{Config, At, Over, Going, returned, leave, passed, step, walk, opening, Ends}
use Rattle.cfg_core.specs.Walk.{EndsWith, Goes, IsOver}

-- with `cost` turns more than are left at the end
record Cost (h : ℕ → OpsOutcome) (u : ProcState) (j k : ℕ) : Type 0 where
  cost : ℕ
  sum : k ≡ j + cost
  again : (i : ℕ) → h (i + cost) ≡ Done u i

no_cost : (s u : ProcState) (j k : ℕ) → Done s k ≡ Done u j → Cost (λ i. Done s i) u j k
no_cost s u j k e = grind arith

then_cost : (h : ℕ → OpsOutcome) (go : ProcState → ℕ → OpsOutcome) (u : ProcState) (j k : ℕ)
    → ((s : ProcState) (i : ℕ) → h k ≡ Done s i → Cost h s i k)
    → ((s : ProcState) (i : ℕ) → go s i ≡ Done u j → Cost (go s) u j i) → (o : OpsOutcome) → h k ≡ o
    → and_then o go ≡ Done u j → Cost (λ i. and_then (h i) go) u j k
then_cost h go u j k f g (Done s i) e d = let r = f s i e in let q = g s i d in record {
  cost = q.cost + r.cost;
  sum = omega (arith, r.sum, q.sum);
  again = λ n. let z : n + (q.cost + r.cost) ≡ (n + q.cost) + r.cost = omega arith in
      ap (λ m. and_then (h m) go) z ∙ ap (λ (x : OpsOutcome). and_then x go) (r.again (n + q.cost))
      ∙ q.again n;
}
then_cost h go u j k f g (Out o) e d = absurd (cc)

if_cost : (b : Bool) (h g : ℕ → OpsOutcome) (u : ProcState) (j k : ℕ) → (h k ≡ Done u j → Cost h u j k)
    → (g k ≡ Done u j → Cost g u j k) → (if b then h k else g k) ≡ Done u j
    → Cost (λ i. if b then h i else g i) u j k
if_cost b h g u j k f i e = grind arith

spend_cost : (n : ℕ) (s : ProcState) (k : ℕ) (u : ProcState) (j : ℕ) → spend n s k ≡ Done u j
    → Cost (spend n s) u j k
spend_cost (suc n) s (suc k) u j e = let r = spend_cost n s k u j e in record {
  cost = suc r.cost;
  sum = omega (arith, r.sum);
  again = λ i. let z : i + suc r.cost ≡ suc (i + r.cost) = omega arith in ap (λ m. spend (suc n) s m) z
      ∙ r.again i;
}
spend_cost n s k u j e = grind (arith, no_cost)

op_cost : (op : Op) (s : ProcState) (k : ℕ) (u : ProcState) (j : ℕ) → run_op op s k ≡ Done u j
    → Cost (run_op op s) u j k
op_cost op s k u j e = grind (arith, no_cost, if_cost, value_of, spend_cost)

ops_cost : (ops : List Op) (s : ProcState) (k : ℕ) (u : ProcState) (j : ℕ) → run_ops ops s k ≡ Done u j
    → Cost (run_ops ops s) u j k
ops_cost [] s k u j e = no_cost s u j k e
ops_cost (op ∷ ops) s k u j e = then_cost (run_op op s) (run_ops ops) u j k (λ t i d. op_cost op s k t i d)
    (λ t i d. ops_cost ops t i u j d) (run_op op s k) refl e

-- what a block leads to, whatever turns are left
data Onward (h : ℕ → Config) : Type 0 where
  at : (b : ℕ) (s : ProcState) (frames : List Frame) → ((k : ℕ) → h k ≡ At b s frames k) → Onward h
  over : (o : Outside) → ((k : ℕ) → h k ≡ Over o k) → Onward h

if_onward : (v : Bool) (h g : ℕ → Config) → Onward h → Onward g → Onward (λ k. if v then h k else g k)
if_onward true h g x y = x
if_onward false h g x y = y

returned_onward : (v : ℕ) (o : Outside) (frames : List Frame) → Onward (returned v o frames)
returned_onward v o [] = over o (λ k. refl)
returned_onward v o (f ∷ frames) = at _ _ frames (λ k. refl)

module _ (g : Graph) where
  leave_onward : (exit : Exit) (s : ProcState) (frames : List Frame) → Onward (leave g exit s frames)
  leave_onward (Goto b) s frames = at b s frames (λ k. refl)
  leave_onward (Branch t a b) s frames = if_onward ((value_of t s).0 == 0) _ _ (at b _ frames (λ k. refl))
      (at a _ frames (λ k. refl))
  leave_onward (Call x f ts back) s frames = at _ _ _ (λ k. refl)
  leave_onward (Return t) s frames = returned_onward _ _ frames
  leave_onward (Send t ts ls) s frames = at _ _ frames (λ k. refl)
  leave_onward Stop s frames = over s.out (λ k. refl)

  -- a walk that has ended stays so
  pub walk_over : (m : ℕ) (o : Outside) (k : ℕ) → walk g m (Over o k) ≡ Over o k
  walk_over zero o k = refl
  walk_over (suc m) o k = walk_over m o k

  -- so does one that is out of turns
  pub walk_going : (m : ℕ) (o : Outside) → walk g m (Going o) ≡ Going o
  walk_going zero o = refl
  walk_going (suc m) o = walk_going m o

  record WalkCost (m : ℕ) (h : ℕ → Config) (o : Outside) (j k : ℕ) : Type 0 where
    cost : ℕ
    sum : k ≡ j + cost
    again : (i : ℕ) → walk g m (h (i + cost)) ≡ Over o i

  -- a walk that ends from its end on has just that end
  pub over_again : (m : ℕ) (p o : Outside) (k j : ℕ) → walk g m (Over p k) ≡ Over o j
      → (k ≡ j) × ((i : ℕ) → walk g m (Over p i) ≡ Over o i)
  over_again m p o k j e = grind (arith, walk_over)

  -- what follows the operations
  exit_cost : (m : ℕ) (o : Outside) (j : ℕ) → ((c : ℕ) (v : ProcState) (fs : List Frame) (i : ℕ)
      → walk g m (At c v fs i) ≡ Over o j → WalkCost m (At c v fs) o j i) → (h : ℕ → Config) (i : ℕ)
      → Onward h → walk g m (h i) ≡ Over o j → WalkCost m h o j i
  exit_cost m o j f h i k d = grind (arith, over_again)

  passed_cost : (m : ℕ) (o : Outside) (j : ℕ) → ((c : ℕ) (v : ProcState) (fs : List Frame) (i : ℕ)
      → walk g m (At c v fs i) ≡ Over o j → WalkCost m (At c v fs) o j i)
      → (b : ℕ) (s : ProcState) (frames : List Frame) (k : ℕ) (q : OpsOutcome)
      → run_ops (block_at g b).ops s k ≡ q → walk g m (passed g q (block_at g b).exit frames) ≡ Over o j
      → WalkCost (suc m) (At b s frames) o j k
  passed_cost m o j f b s frames k (Done u i) q d =
      let r = ops_cost (block_at g b).ops s k u i q in
      let w = exit_cost m o j f (leave g (block_at g b).exit u frames) i
      (leave_onward (block_at g b).exit u frames) d in
      record {
        cost = w.cost + r.cost;
        sum = omega (arith, r.sum, w.sum);
        again = λ n. let z : n + (w.cost + r.cost) ≡ (n + w.cost) + r.cost = omega arith in
            ap (λ x. walk g m (passed g (run_ops (block_at g b).ops s x) (block_at g b).exit frames)) z
            ∙ ap (λ (x : OpsOutcome). walk g m (passed g x (block_at g b).exit frames)) (r.again (n + w.cost))
            ∙ w.again n;
      }
  passed_cost m o j f b s frames k (Out p) q d = absurd (no_end (sym (walk_going m p) ∙ d))
    where
      no_end : Going p ≡ Over o j → ⊥
      no_end e = cc

  at_cost : (m : ℕ) (b : ℕ) (s : ProcState) (frames : List Frame) (k : ℕ) (o : Outside) (j : ℕ)
      → walk g m (At b s frames k) ≡ Over o j → WalkCost m (At b s frames) o j k
  at_cost zero b s frames k o j e = absurd (cc)
  at_cost (suc m) b s frames k o j e = passed_cost m o j (λ c v fs i d. at_cost m c v fs i o j d) b s frames k
      (run_ops (block_at g b).ops s k) refl e

  -- a walk that has come to an answer has the same one after more blocks
  over_stays : (n : ℕ) (c d : Config) → IsOver d → c ≡ d → walk g n c ≡ d
  over_stays n c d h e = grind (arith, walk_over, walk_going)

  stays : (m n : ℕ) (c d : Config) → IsOver d → walk g m c ≡ d → walk g (m + n) c ≡ d
  stays zero n c d h e = grind (arith, over_stays)
  stays (suc m) n c d h e = let z : suc m + n ≡ suc (m + n) = omega arith in
      ap (λ x. walk g x c) z ∙ stays m n (step g c) d h e

  -- two answers of a walk are one
  pub one_answer : (m n : ℕ) (c d e : Config) → IsOver d → IsOver e → walk g m c ≡ d → walk g n c ≡ e → d ≡ e
  one_answer m n c d e h i p q =
      let z : m + n ≡ n + m = omega arith in
      sym (stays m n c d h p) ∙ ap (λ x. walk g x c) z ∙ stays n m c e i q

-- with k turns the walk ended and j are left: it takes k - j turns, and with i more than that i are left
pub exactly : (g : Graph) (world : World) (k : ℕ) (o : Outside) (j : ℕ) → EndsWith g world k o j
    → (n : ℕ) × (k ≡ j + n) × ((i : ℕ) → EndsWith g world (i + n) o i)
exactly g world k o j e = let r = at_cost g e.0 _ _ _ k o j e.1 in (r.cost, r.sum, λ i. (e.0, r.again i))

-- a walk that ends with turns left ends with none left on fewer turns
pub fewer : (g : Graph) (world : World) (k j : ℕ) (o : Outside) → EndsWith g world k o j
    → (n : ℕ) × (k ≡ j + n) × Ends g world n o
fewer g world k j o e = let r = exactly g world k o j e in let z : 0 + r.0 ≡ r.0 = omega arith in
    (r.0, r.1, subst (λ n. EndsWith g world n o 0) z (r.2 0))

-- it ends with turns left on more
pub longer : (g : Graph) (world : World) (n i : ℕ) (o : Outside) → Ends g world n o
    → EndsWith g world (i + n) o i
longer g world n i o e = let r = exactly g world n o 0 e in let z : i + r.0 ≡ i + n = omega (arith, r.1) in
    subst (λ m. EndsWith g world m o i) z (r.2 i)

-- it does not end and go on within the same turns
pub not_both : (g : Graph) (world : World) (n k : ℕ) (o p : Outside) → n ≤ k → Ends g world n o
    → Goes g world k p → ⊥
not_both g world n k o p le e d =
    apart (one_answer g r.0 d.0 (opening g world k) (Over o (k - n)) (Going p) tt tt r.1 d.1)
  where
    r : EndsWith g world k o (k - n)
    r = let z : (k - n) + n ≡ k = omega arith in subst (λ m. EndsWith g world m o (k - n)) z
        (longer g world n (k - n) o e)

    apart : Over o (k - n) ≡ Going p → ⊥
    apart e = cc

one_end_le : (g : Graph) (world : World) (n m : ℕ) (o p : Outside) → n ≤ m → Ends g world n o
    → Ends g world m p → (n ≡ m) × (o ≡ p)
one_end_le g world n m o p le e d =
    let z : (m - n) + n ≡ m = omega arith in
    let r : EndsWith g world m o (m - n) = subst (λ k. EndsWith g world k o (m - n)) z
    (longer g world n (m - n) o e) in
    let q : Over o (m - n) ≡ Over p 0 = one_answer g r.0 d.0 (opening g world m) (Over o (m - n)) (Over p 0)
    tt tt r.1 d.1 in
    let y : m - n ≡ 0 = cc in
    (omega arith, cc)

-- it ends after one number of turns, in one way
pub one_end : (g : Graph) (world : World) (n m : ℕ) (o p : Outside) → Ends g world n o → Ends g world m p
    → (n ≡ m) × (o ≡ p)
one_end g world n m o p e d = elim (le_total n m) [
  | inl le ↦ one_end_le g world n m o p le e d
  | inr le ↦ let r = one_end_le g world m n p o le d e in (sym r.0, sym r.1)
]
  where
    le_total : (n m : ℕ) → (n ≤ m) ⊎ (m ≤ n)
    le_total (suc n) (suc m) = elim (le_total n m) [ inl h ↦ inl (omega arith) | inr h ↦ inr (omega arith) ]
    le_total n m = grind arith
