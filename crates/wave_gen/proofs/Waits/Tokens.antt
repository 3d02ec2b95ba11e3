-- What stands at an open slot is the value of the name for which it waits.
use Rattle.std.proofs.Common.{ℕ, suc, ◌+◌, ◌-◌, ◌≡◌, ◌<◌, ◌≤◌, true, false, cond, List, [], ◌∷◌, length}
use Rattle.std.proofs.Common.{map, Some, refl, ap, arith, eq-eqb, ne_eqb}
use Rattle.std.proofs.lemmas.Bool.{cases_Bool, cases_eq, both_ways, cond-false}
use Rattle.ws_isa.specs.declared.instr.Op.{Op}
use Rattle.ws_isa.specs.Image.{Image, instr_at, ports, ports_of, is_advance, is_memory, is_memory_op}
use Rattle.ws_isa.specs.Image.{result_of, result_of_op, answer, after, first_number, now_dests, tokens_to}
use Rattle.ws_isa.specs.Walk.{Ports, Pos, gather, fire, result_at, operands_at, wave_of, with_tokens}
use Rattle.wave_gen.specs.Waits.{Owner, Fires, Rests, Skips, Copies, NameState, without, with_ports, renamed}
use Rattle.wave_gen.specs.Waits.{set, outcome, effect, run_step, FiresAt, RestsAt}
use Rattle.wave_gen.proofs.Waits.Steps.{place_fire}
use Rattle.ws_isa.proofs.Steps.{Place}
use Rattle.wave_gen.proofs.Waits.Turns.{without_keeps, ports_here, ports_other}
use Rattle.wave_gen.proofs.Waits.WalkShape.{WalkShape}
use Rattle.ws_isa.proofs.Slots.{with_tokens_lands, with_tokens_other}
use Rattle.ws_words.specs.Items.{nth}

-- an advance of the block that hasn't fired: its token came under the wave before
pub record Unfired (image : Image) (b k j : ℕ) : Type 0 where
  pub advance : is_advance image j ≡ true
  pub low : k ≤ j
  pub high : j < first_number image (suc b)

-- a value for each open slot
pub record Holds (image : Image) (b k wave : ℕ) (o : Owner) (sent : Ports) (env : ℕ → ℕ) : Type 0 where
  pub late : (j q x : ℕ) → o j q ≡ Some x → Unfired image b k j → sent (wave - 1) j q ≡ Some (env x)
  pub now : (j q x : ℕ) → o j q ≡ Some x → (Unfired image b k j → ⊥) → sent wave j q ≡ Some (env x)

-- where the walk stands while a block runs
pub record Mid (image : Image) (Kept : ℕ → ℕ → Type 0) (b k : ℕ) (o : Owner) (p : Pos) (s : NameState) : Type
    0 where
  pub over : p.over ≡ false
  pub block : p.block ≡ b
  pub next : p.next ≡ k
  pub place : Place image p
  pub out : p.memory ≡ s.out
  pub holds : Holds image b k p.wave o p.sent s.env
  pub kept : (m h : ℕ) → Kept m h → m < k → p.results m ≡ s.env h

set_here : (f : ℕ → ℕ) (k v : ℕ) → set f k v k ≡ v
set_here f k v = rw (eq-eqb k k refl) refl

set_other : (f : ℕ → ℕ) (k v j : ℕ) → (j ≡ k → ⊥) → set f k v j ≡ f j
set_other f k v j n = rw (ne_eqb j k n) refl

module _ (image : Image) (b : ℕ) (Kept : ℕ → ℕ → Type 0) (shape : WalkShape image) where
  -- the operands at an instruction whose slots wait for these names
  gathered : (sent : Ports) (env : ℕ → ℕ) (w k q n : ℕ) (from : List ℕ) → n ≡ length from
      → ((i x : ℕ) → nth from i ≡ Some x → sent w k (q + i) ≡ Some (env x))
      → gather sent w k q n ≡ map env from
  gathered sent env w k q n [] e h = rw e refl
  gathered sent env w k q n (x ∷ from) e h =
      let a : sent w k q ≡ Some (env x) = rw (let z : q + 0 ≡ q = omega arith in z) at (h 0 x refl) in
      rw e (rw a
      (ap (λ (r : List ℕ). env x ∷ r) (gathered sent env w k (suc q) (length from) from refl
      (λ i y f. (let z : q + suc i ≡ suc q + i = omega arith in rw z at (h (suc i) y f))))))

  module _ (k : ℕ) (op : Op) (from : List ℕ) (o : Owner) (p : Pos) (s : NameState)
      (m : Mid image Kept b k o p s)
      (op_is : (instr_at image k).op ≡ op) (ports_are : length from ≡ ports_of op)
      (here : (q : ℕ) → o k q ≡ nth from q) (l : k < first_number image (suc b)) where
    operands : operands_at image p ≡ map s.env from
    unfolding operands_at wave_of ports
    operands = grind (arith, m.next, gathered, p.sent, s.env, cases_Bool, both_ways)

    result : result_at image p ≡ outcome op (map s.env from) s.out
    unfolding result_at is_memory answer result_of
    result = rw (operands, m.next, m.out, op_is) refl

    out_after : cond (is_memory image p.next) (after image p.next (operands_at image p) p.memory) p.memory
        ≡ effect op (map s.env from) s.out
    unfolding is_memory after
    out_after = rw (operands, m.next, m.out, op_is) refl

  -- an instruction that makes x
  module _ (k x : ℕ) (op : Op) (from : List ℕ) (n : Owner) (p : Pos) (s : NameState)
      (f : FiresAt image b Kept k x op from n)
      (m : Mid image Kept b k (with_ports k from (without x n)) p s)
      (l : k < first_number image (suc b)) where
    v : ℕ
    v = outcome op (map s.env from) s.out

    result_v : result_at image p ≡ v
    unfolding v
    result_v = grind (arith, result, f.ports, ports_here)

    sent_now : Ports
    sent_now = with_tokens (tokens_to p.wave (result_at image p) (now_dests image p.next)) p.sent

    -- a slot that waits for another name
    still : (w j q y : ℕ) → n j q ≡ Some y → (x ≡ y → ⊥) → sent_now w j q ≡ p.sent w j q
    unfolding sent_now
    still w j q y e ne = grind (arith, with_tokens_other)

    before : (j q y : ℕ) → n j q ≡ Some y → (x ≡ y → ⊥) → with_ports k from (without x n) j q ≡ Some y
    before j q y e ne = grind (arith, ports_other, without_keeps)

    not_here : (j q y : ℕ) → n j q ≡ Some y → j ≡ k → ⊥
    not_here j q y e g = grind arith

    holds_now : Holds image b (suc k) p.wave n sent_now (set s.env x v)
    unfolding sent_now
    holds_now = grind (
      arith,
      f.lists_all,
      f.back,
      still,
      m.holds.late,
      before,
      set_other,
      s.env,
      cases_eq,
      result_v,
      set_here,
      with_tokens_lands,
      not_here,
    )

    kept_now : (i h : ℕ) → Kept i h → i < suc k → set p.results p.next (result_at image p) i ≡ set s.env x v h
    unfolding v
    kept_now i h w u = grind (arith, cases_eq, set_here, result_v, set_other)

    pub fires_mid : Mid image Kept b (suc k) n (fire image p) (run_step (Fires x op from) s)
    unfolding v sent_now
    fires_mid = grind (arith, place_fire, m.place, out_after, f.ports, ports_here, holds_now, kept_now)

  -- one that sends nothing
  module _ (k : ℕ) (op : Op) (from : List ℕ) (n : Owner) (p : Pos) (s : NameState)
      (f : RestsAt image Kept k op from n)
      (m : Mid image Kept b k (with_ports k from n) p s) (l : k < first_number image (suc b)) where
    rests_sent : (w j q : ℕ) → with_tokens (tokens_to p.wave (result_at image p) (now_dests image p.next))
        p.sent w j q ≡ p.sent w j q
    rests_sent w j q = grind (arith, with_tokens_other)

    rests_before : (j q y : ℕ) → n j q ≡ Some y → with_ports k from n j q ≡ Some y
    rests_before j q y e = grind (arith, ports_other)

    rests_apart : (j q y : ℕ) → n j q ≡ Some y → j ≡ k → ⊥
    rests_apart j q y e g = grind arith

    pure_value : is_memory_op op ≡ false → outcome op (map s.env from) s.out ≡ result_of_op op
        (map s.env from)
    pure_value e = grind (arith, cond-false)

    pub rests_mid : Mid image Kept b (suc k) n (fire image p) (run_step (Rests op from) s)
    rests_mid = grind (
      arith,
      place_fire,
      m.place,
      out_after,
      f.ports,
      ports_here,
      rests_sent,
      m.holds.late,
      rests_before,
      m.holds.now,
      rests_apart,
      cases_eq,
      f.wants,
      p.results,
      p.next,
      set_here,
      result,
      pure_value,
      s.env,
      set_other,
      m.kept,
    )

  -- steps for which no instruction stands
  pub skips_mid : (k x : ℕ) (op : Op) (from : List ℕ) (n : Owner) (p : Pos) (s : NameState)
      → ((j q : ℕ) → n j q ≡ Some x → ⊥) → ((i h : ℕ) → Kept i h → i < k → x ≡ h → ⊥) →
      Mid image Kept b k n p s → Mid image Kept b k n p (run_step (Skips x op from) s)
  skips_mid k x op from n p s nobody' kept' m = grind (arith, set_other)

  pub copies_mid : (k x y : ℕ) (n : Owner) (p : Pos) (s : NameState)
      → ((i h : ℕ) → Kept i h → i < k → x ≡ h → ⊥) →
      Mid image Kept b k (renamed x y n) p s → Mid image Kept b k n p (run_step (Copies x y) s)
  copies_mid k x y n p s kept' m = grind (arith, set_other, cases_eq, set_here)
