-- How many blocks a walk passes before it is out of turns.
use Rattle.std.proofs.Common.{ℕ, zero, suc, ◌+◌, ◌*◌, ◌≡◌, ◌<◌, ◌≤◌, ◌⊎◌, ◌==◌, Bool, true, false}
use Rattle.std.proofs.Common.{if◌then◌else◌, List, [], ◌∷◌, refl, sym, ap, ◌∙◌, subst, inl, inr, arith}
use Rattle.std.proofs.Math.Nat.{add-mul}
use Rattle.ws_words.specs.Outside.{Outside, ProcState}
use Rattle.cfg_core.specs.Graph.{Op, Tick, TickBy, Exit, Goto, Branch, Call, Return, Send, Stop, Graph, Spot}
use Rattle.cfg_core.specs.Graph.{no_spot, spots, spot_at, block_at}
use Rattle.cfg_core.specs.Walk.{value_of, OpsOutcome, Done, Out, and_then, spend, run_op, run_ops, Config, At}
use Rattle.cfg_core.specs.Walk.{Over, Going, Frame, leave, passed, step, walk}
use Rattle.ws_words.specs.Items.{nth, or_else}

-- the most turns of an operation, of operations, and of all blocks together
abbrev pub op_most : Op → ℕ
op_most (Tick n) = n
op_most (TickBy t n m) = n + m
op_most _ = 0

abbrev pub ops_most : List Op → ℕ
ops_most [] = 0
ops_most (op ∷ ops) = op_most op + ops_most ops

abbrev pub spots_most : List Spot → ℕ
spots_most [] = 0
spots_most (s ∷ ss) = ops_most s.block.ops + spots_most ss

-- from k turns at most n were taken, or wanted
abbrev pub Paid : ℕ → ℕ → OpsOutcome → Type 0
Paid n k (Done s l) = k ≤ l + n
Paid n k (Out o) = k < n

paid_both : (a b k l : ℕ) (r : OpsOutcome) → k ≤ l + a → Paid b l r → Paid (a + b) k r
paid_both a b k l r h p = grind arith

paid_more : (a b k : ℕ) (r : OpsOutcome) → a ≤ b → Paid a k r → Paid b k r
paid_more a b k r h p = grind arith

spend_paid : (n : ℕ) (s : ProcState) (k : ℕ) → Paid n k (spend n s k)
spend_paid (suc n) s (suc k) = go (spend n s k) (spend_paid n s k)
  where
    go : (r : OpsOutcome) → Paid n k r → Paid (suc n) (suc k) r
    go r h = grind arith
spend_paid n s k = grind arith

either_paid : (n k : ℕ) (v : Bool) (x y : OpsOutcome) → Paid n k x → Paid n k y
    → Paid n k (if v then x else y)
either_paid n k v x y h i = grind arith

op_paid : (op : Op) (s : ProcState) (k : ℕ) → Paid (op_most op) k (run_op op s k)
op_paid op s k = grind (arith, either_paid, spend_paid, paid_more)

pub ops_paid : (ops : List Op) (s : ProcState) (k : ℕ) → Paid (ops_most ops) k (run_ops ops s k)
ops_paid [] s k = omega arith
ops_paid (op ∷ ops) s k = go (run_op op s k) (op_paid op s k) (λ t l. ops_paid ops t l)
  where
    go : (r : OpsOutcome) → Paid (op_most op) k r
        → ((t : ProcState) (l : ℕ) → Paid (ops_most ops) l (run_ops ops t l))
        → Paid (op_most op + ops_most ops) k (and_then r (run_ops ops))
    go r h ih = grind (arith, paid_both, op_most, ops_most)

-- an exit takes no turn
abbrev pub Leaves : Config → ℕ → Type 0
Leaves c k = ((b : ℕ) × (s : ProcState) × (frames : List Frame) × (c ≡ At b s frames k))
    ⊎ ((o : Outside) × (c ≡ Over o k))

-- where an exit leads to
pub exit_leaves : (g : Graph) (exit : Exit) (s : ProcState) (frames : List Frame) (k : ℕ)
    → Leaves (leave g exit s frames k) k
exit_leaves g (Goto b) s frames k = inl (b, s, frames, refl)
exit_leaves g (Branch t a b) s frames k = go ((value_of t s).0 == 0)
  where
    go : (v : Bool) → Leaves (if v then At b (value_of t s).1 frames k else At a (value_of t s).1 frames k) k
    go true = inl (b, (value_of t s).1, frames, refl)
    go false = inl (a, (value_of t s).1, frames, refl)
exit_leaves g (Call x f ts back) s frames k = inl (_, _, _, refl)
exit_leaves g (Return t) s [] k = inr (_, refl)
exit_leaves g (Return t) s (f ∷ frames) k = inl (_, _, _, refl)
exit_leaves g (Send t ts ls) s frames k = inl (_, _, _, refl)
exit_leaves g Stop s frames k = inr (s.out, refl)

walk_over : (g : Graph) (m : ℕ) (o p : Outside) (k : ℕ) → walk g m (Over o k) ≡ Going p → ⊥
walk_over g zero o p k e = cc
walk_over g (suc m) o p k e = walk_over g m o p k e

block_most : (ss : List Spot) (b : ℕ) → ops_most (or_else (nth ss b) no_spot).block.ops ≤ spots_most ss
unfolding no_spot
block_most (s ∷ ss) (suc b) = grind (arith, ops_most, spots_most, block_most ss b)
block_most ss b = grind arith

module _ (g : Graph) where
  few : (b : ℕ) → ops_most (block_at g b).ops < suc (spots_most (spots g))
  unfolding spot_at
  few b = let h = block_most (spots g) b in omega (arith, h)

  -- the block at which a walk is out of turns, after j others
  pub record LastBlock (m k : ℕ) (c : Config) (o : Outside) : Type 0 where
    pub place : ℕ
    pub block : ℕ
    pub state : ProcState
    pub frames : List Frame
    pub left : ℕ
    pub at : walk g place c ≡ At block state frames left
    pub out : run_ops (block_at g block).ops state left ≡ Out o
    pub late : k < suc place * suc (spots_most (spots g))

  grow : (n t : ℕ) → suc n * t ≡ n * t + t
  grow n t = let e = add-mul n 1 t in omega (arith, e)

  pub last_block : (m b : ℕ) (s : ProcState) (frames : List Frame) (k : ℕ) (o : Outside)
      → walk g m (At b s frames k) ≡ Going o → LastBlock m k (At b s frames k) o
  last_block zero b s frames k o e = absurd (let z : At b s frames k ≡ Going o = e in cc)
  last_block (suc m) b s frames k o e = go (run_ops (block_at g b).ops s k) refl
      (ops_paid (block_at g b).ops s k) (λ c t fr l h. last_block m c t fr l o h)
    where
      going : (n : ℕ) (p : Outside) → walk g n (Going p) ≡ Going p
      going zero p = refl
      going (suc n) p = going n p

      on : (t : ProcState) (l : ℕ) → run_ops (block_at g b).ops s k ≡ Done t l
          → k ≤ l + ops_most (block_at g b).ops → ((c : ℕ) (u : ProcState) (fr : List Frame) (j : ℕ)
          → walk g m (At c u fr j) ≡ Going o → LastBlock m j (At c u fr j) o)
          → Leaves (leave g (block_at g b).exit t frames l) l → LastBlock (suc m) k (At b s frames k) o
      on t l q h ih (inl (c, u, fr, w)) =
          let to : step g (At b s frames k) ≡ At c u fr l = ap (λ r. passed g r (block_at g b).exit frames) q
          ∙ w in
          let i = ih c u fr l (subst (λ z. walk g m z ≡ Going o) to e) in
          let a : l < suc i.place * suc (spots_most (spots g)) = i.late in
          let f = few b in
          let d : suc (suc i.place) * suc (spots_most (spots g)) ≡ suc i.place * suc (spots_most (spots g))
          + suc (spots_most (spots g)) = grow (suc i.place) (suc (spots_most (spots g))) in
          record {
            place = suc i.place;
            block = i.block;
            state = i.state;
            frames = i.frames;
            left = i.left;
            at = ap (walk g i.place) to ∙ i.at;
            out = i.out;
            late = omega (arith, a, f, h, d);
          }
      on t l q h ih (inr (p, w)) = grind (arith, walk_over)

      go : (r : OpsOutcome) → run_ops (block_at g b).ops s k ≡ r → Paid (ops_most (block_at g b).ops) k r
          → ((c : ℕ) (u : ProcState) (fr : List Frame) (j : ℕ) → walk g m (At c u fr j) ≡ Going o
          → LastBlock m j (At c u fr j) o) → LastBlock (suc m) k (At b s frames k) o
      go (Done t l) q h ih = grind (arith, on, exit_leaves)
      go (Out p) q h ih =
          let to : walk g m (step g (At b s frames k)) ≡ Going p = grind (arith, going) in
          let z : Going p ≡ Going o = sym to ∙ e in
          let y : p ≡ o = cc in
          let f = few b in
          record {
            place = 0;
            block = b;
            state = s;
            frames = frames;
            left = k;
            at = refl;
            out = q ∙ ap (λ r. Out r) y;
            late = omega (arith, h, f);
          }
