-- The steps of a block run as the items of its plan.
use Rattle.std.proofs.Common.{ℕ, zero, suc, ◌+◌, ◌≡◌, ◌≤◌, ◌&&◌, not, ltb, Bool, true, false, cond, List, []}
use Rattle.std.proofs.Common.{◌∷◌, length, map, refl, ap, ◌∙◌, arith, ne_eqb}
use Rattle.std.proofs.lemmas.Bool.{cases_eq, cond-false}
use Rattle.ws_words.specs.Outside.{Outside}
use Rattle.ws_isa.specs.declared.instr.Op.{Op}
use Rattle.ws_isa.specs.declared.instr.Op.TheVariants.{Merge}
use Rattle.ws_isa.specs.Image.{is_memory_op, after_op, result_of_op}
use Rattle.wave_gen.specs.Waits.{NameState, set, effect, run_steps}
use Rattle.wave_gen.specs.Wire.{Wants, Made, emit, skip, gather, with_room, with_rooms, Item, Make, Act, Same}
use Rattle.wave_gen.specs.Wire.{is_nil, make, alias, wire, most}
use Rattle.wave_gen.specs.Plans.{merges, HowLeft, Plan, pulse, Tail, steers, sends, hang, more, chain}
use Rattle.wave_gen.specs.Plans.{selected, tails_of, behind_source, exit_made, body_made, block_made, renew}
use Rattle.wave_gen.specs.Plans.{advances, has_front}
use Rattle.wave_gen.proofs.OfItems.Runs.{run_item, run_items, run_choice}
use Rattle.ws_words.proofs.Bools.{and_right, not_true}

set_same : (f : ℕ → ℕ) (x : ℕ) → ◌≡◌ {A = ℕ → ℕ} (set f x (f x)) f
set_same f x = grind (arith, cases_eq)

merged : (s : NameState) (x : ℕ) → record { env = set s.env x (s.env x); out = s.out } ≡ s
merged s x = ap (λ (f : ℕ → ℕ). record { env = f; out = s.out }) (set_same s.env x)

gather_runs : (b x : ℕ) (s : Made) (n : NameState) → run_steps (gather b x s).steps n ≡ run_steps s.steps n
gather_runs b x s n = ap (run_steps s.steps) (merged n x)

room_runs : (b k x : ℕ) (s : Made) (n : NameState) → run_steps (with_room b k x s).steps n ≡ run_steps s.steps
    n
room_runs b k x s n = grind (arith, s.wants, gather_runs)

pub rooms_runs : (b k : ℕ) (xs : List ℕ) (s : Made) (n : NameState) → run_steps (with_rooms b k xs s).steps n
    ≡ run_steps s.steps n
rooms_runs b k [] s n = refl
rooms_runs b k (x ∷ xs) s n = grind (arith, room_runs, rooms_runs b k xs (with_room b k x s) n)

pub make_runs : (b x : ℕ) (op : Op) (from : List ℕ) (s : Made) (n : NameState)
    → run_steps (make b x op from s).steps n ≡ run_steps s.steps (run_item (Make x op from) n)
make_runs b x op from s n = rooms_runs b (length from) from s (run_item (Make x op from) n)

alias_runs : (b x y : ℕ) (s : Made) (n : NameState) → run_steps (alias b x y s).steps n ≡ run_steps s.steps
    (run_item (Same x y) n)
alias_runs b x y s n = go (ltb most (length (s.wants x) + length (s.wants y)))
  where
    go : (f : Bool) → run_steps (cond f (gather b y (gather b x s)) s).steps (run_item (Same x y) n)
        ≡ run_steps s.steps (run_item (Same x y) n)
    go true = grind (arith, gather_runs)
    go false = refl

skips_value : (x : ℕ) (op : Op) (from : List ℕ) (n : NameState) → is_memory_op op ≡ false
    → record { env = set n.env x (result_of_op op (map n.env from)); out = n.out } ≡ run_item (Make x op from)
    n
skips_value x op from n e = rw e refl

pub wire_runs : (b : ℕ) (is : List Item) (s : Made) (n : NameState) → run_steps (wire b is s).steps n
    ≡ run_steps s.steps (run_items is n)
wire_runs b [] s n = refl
wire_runs b (Make x op from ∷ is) s n = grind (arith, go, wire_runs b is s (run_item (Make x op from) n))
  where
    go : (f : Bool) → (is_nil ((wire b is s).wants x) && not (is_memory_op op)) ≡ f
        → run_steps (wire b is s).steps (run_item (Make x op from) n) ≡ run_steps s.steps
        (run_items is (run_item (Make x op from) n)) →
        run_steps (cond f (skip x op from (wire b is s)) (make b x op from (wire b is s))).steps n ≡ run_steps
        s.steps (run_items is (run_item (Make x op from) n))
    go f e ih = grind (arith, skips_value, not_true, and_right, make_runs)
wire_runs b (Act op from ∷ is) s n = grind (arith, rooms_runs, wire_runs b is s (run_item (Act op from) n))
wire_runs b (Same x y ∷ is) s n = alias_runs b x y (wire b is s) n ∙ wire_runs b is s (run_item (Same x y) n)

-- fronts change nothing
advances_runs : (b : ℕ) (xs : List ℕ) (s : Made) (n : NameState) → run_steps (advances b xs s).steps n
    ≡ run_steps s.steps n
advances_runs b [] s n = refl
advances_runs b (x ∷ xs) s n = ap (run_steps (advances b xs s).steps) (merged n x) ∙ advances_runs b xs s n

renew_runs : (b : ℕ) (xs : List ℕ) (s : Made) (n : NameState) → run_steps (renew b xs s).steps n ≡ run_steps
    s.steps n
renew_runs b [] s n = refl
renew_runs b (x ∷ xs) s n = renew_runs b xs (cond (has_front b (s.wants x)) (gather b x s) s) n
    ∙ go (has_front b (s.wants x))
  where
    go : (f : Bool) → run_steps (cond f (gather b x s) s).steps n ≡ run_steps s.steps n
    go f = grind (arith, gather_runs)

-- tails change nothing
quiet_tail : (op : Op) (xs : List ℕ) (o : Outside) → is_memory_op op ≡ false → effect op xs o ≡ o
quiet_tail op xs o e = cond-false (is_memory_op op) (after_op op xs o) o e

abbrev Quiet : List Tail → Type 0
Quiet [] = Unit {0}
Quiet (t ∷ ts) = (is_memory_op t.line.op ≡ false) × Quiet ts

hang_runs : (b k z : ℕ) (ts : List Tail) (w : Wants) (n : NameState) → Quiet ts
    → run_steps (hang b k z ts w).steps n ≡ n
hang_runs b k z [] w n q = refl
hang_runs b zero z (t ∷ ts) w n q = grind (arith, quiet_tail, hang_runs b 5 (suc z) ts w n q.1)
hang_runs b (suc k) z (t ∷ ts) w n q = grind (arith, quiet_tail, hang_runs b k z ts w n q.1)

quiet_steers : (w v : Wants) (xs : List ℕ) → Quiet (steers w v xs)
quiet_steers w v [] = tt
quiet_steers w v (x ∷ xs) = (refl, quiet_steers w v xs)

quiet_sends : (p : ℕ) (xs : List ℕ) → Quiet (sends p xs)
quiet_sends p [] = tt
quiet_sends p (x ∷ xs) = (refl, quiet_sends (suc p) xs)

quiet_tails : (width : ℕ) (starts : ℕ → Wants) (e : HowLeft) → Quiet (tails_of width starts e)
quiet_tails width starts e = grind (arith, quiet_steers, quiet_sends)

selected_runs : (b z : ℕ) (ts : List Tail) (w : Wants) (n : NameState) → Quiet ts
    → run_steps (selected b z ts w).steps n ≡ run_items (chain z (more 6 ts)) n
selected_runs b z ts w n q = grind (arith, wire_runs, hang_runs, run_items)

-- a chain of the selector's names
pub record Chained (z : ℕ) (n m : NameState) : Type 0 where
  pub out : m.out ≡ n.out
  pub env : (x : ℕ) → x ≤ z → m.env x ≡ n.env x

chain_runs : (z y k : ℕ) (n : NameState) → z ≤ y → Chained z n (run_items (chain y k) n)
chain_runs z y zero n l = record { out = refl; env = λ x u. refl }
chain_runs z y (suc k) n l =
    let c = chain_runs z (suc y) k (run_item (Make (suc y) Merge (y ∷ [])) n) (omega arith) in
    grind (arith, c.env, ne_eqb)

-- a block
module _ (width : ℕ) (starts : ℕ → Wants) (b : ℕ) (p : Plan) where
  behind_runs : (n : NameState) → Chained p.test n (run_steps (behind_source width starts b p).steps n)
  behind_runs n = grind (arith, selected_runs, quiet_tails, chain_runs)

  exit_runs : (e : HowLeft) (n : NameState) → Chained p.test (run_choice p.test e n)
      (run_steps (exit_made width starts b p e).steps n)
  exit_runs e n = grind (arith, behind_runs, make_runs, run_item)

  pub body_runs : (n : NameState) → Chained p.test (run_choice p.test p.exit (run_items p.items n))
      (run_steps (body_made width starts b p).steps n)
  body_runs n = grind (arith, wire_runs, exit_runs, run_items)

  pub block_runs : (n : NameState) → Chained p.test (run_choice p.test p.exit (run_items p.items n))
      (run_steps (block_made width starts b p).steps n)
  block_runs n = go p.first
    where
      inner : (j : Bool) → Chained p.test (run_choice p.test p.exit (run_items p.items n))
          (run_steps (cond j (emit b pulse Merge (pulse ∷ []) (body_made width starts b p))
          (body_made width starts b p)).steps n)
      inner true = rw (gather_runs b pulse (body_made width starts b p) n) (body_runs n)
      inner false = body_runs n

      go : (f : Bool) → Chained p.test (run_choice p.test p.exit (run_items p.items n))
          (run_steps (cond f (advances b p.entries (renew b p.entries (body_made width starts b p)))
          (cond (merges p (body_made width starts b p))
          (emit b pulse Merge (pulse ∷ []) (body_made width starts b p)) (body_made width starts b p))).steps
          n)
      go f = grind (arith, advances_runs, renew_runs, body_runs, inner)
