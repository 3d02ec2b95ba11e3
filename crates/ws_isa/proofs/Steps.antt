-- The walk's steps, the blocks it stands in, and that it fires each instance once.
use Rattle.std.proofs.Common.{ℕ, zero, suc, ◌+◌, ◌-◌, ◌≡◌, ◌<◌, ◌≤◌, ◌⊎◌, Bool, true, false, cond, List}
use Rattle.std.proofs.Common.{◌∷◌, length, Some, None, refl, sym, ap, ◌∙◌, inl, inr, arith}
use Rattle.std.proofs.lemmas.Bool.{cases_Bool, cases_eq, cases_order, both_ways, cond-true, cond-false}
use Rattle.std.proofs.lemmas.Bool.{ltb-true, ltb-false, lt-ltb, le-ltb}
use Rattle.ws_words.specs.Outside.{World}
use Rattle.ws_isa.specs.Image.{Image, Block, first_of, first_number, size_of, holder, block_of, stops, target}
use Rattle.ws_isa.specs.Image.{is_first, is_advance, IsBlock, IsIn}
use Rattle.ws_isa.specs.Walk.{Inst, Pos, pos, step, opening, enter, fire, fires, fires_from}
use Rattle.ws_isa.specs.Walk.{inst_at, choice, wave_of, edge_tokens, with_tokens}
use Rattle.ws_isa.specs.Sound.{ShapeRules}
use Rattle.ws_isa.proofs.Counting.{first_one as first_of_zero}

pub first_of_up : (xs : List Block) (n : ℕ) → first_of xs n ≤ first_of xs (suc n)
first_of_up (x ∷ xs) (suc n) = let e : first_of xs n ≤ first_of xs (suc n) = first_of_up xs n in omega arith
first_of_up xs n = grind (arith, first_of_zero)

pub first_of_pos : (xs : List Block) (n : ℕ) → 1 ≤ first_of xs n
first_of_pos xs zero = grind (arith, first_of_zero)
first_of_pos xs (suc n) = grind (arith, first_of_up, first_of_pos xs n)

pub first_of_le : (xs : List Block) (m n : ℕ) → m ≤ n → first_of xs m ≤ first_of xs n
first_of_le xs m zero l = let e : m ≡ zero = omega arith in rw e (omega arith)
first_of_le xs m (suc n) l = elim (cases_eq m (suc n)) [
  | inl e ↦ rw e (omega arith)
  | inr h ↦ (let a : first_of xs m ≤ first_of xs n = first_of_le xs m n (omega arith) in
      let b : first_of xs n ≤ first_of xs (suc n) = first_of_up xs n in omega arith)
]

-- numbers of blocks' first instructions never fall
pub first_le : (image : Image) (b c : ℕ) → b ≤ c → first_number image b ≤ first_number image c
unfolding first_number
first_le image b c l = grind (arith, first_of_pos, image.blocks, first_of_le)

pub first_up : (image : Image) (b : ℕ) → first_number image b ≤ first_number image (suc b)
first_up image b = first_le image b (suc b) (omega arith)

pub holder_is : (xs : List Block) (s n k : ℕ) → n < length xs → first_of xs n ≤ suc k
    → suc k < first_of xs (suc n) → holder xs s k ≡ s + n
holder_is (x ∷ xs) s (suc n) k l a b =
    let e : 1 ≤ first_of xs n = first_of_pos xs n in
    let h : holder xs (suc s) (k - length x.instrs) ≡ suc s + n = holder_is xs (suc s) n (k - length x.instrs)
    (omega arith) (omega arith) (omega arith) in
    rw (le-ltb k (length x.instrs) (omega arith)) (omega (arith, h))
holder_is xs s n k l a b = grind (arith, first_of_zero, lt-ltb)

pub block_of_is : (image : Image) (b k : ℕ) → IsBlock image b → IsIn image b k → block_of image k ≡ b
unfolding block_of first_number
block_of_is image b k h i = grind (arith, image.blocks, first_of_pos, holder_is)

-- what one step does
pub data StepCase (image : Image) (world : World) (t : ℕ) : Type 0 where
  stands : (pos image world t).over ≡ true → pos image world (suc t) ≡ pos image world t
      → fires image world t ≡ None → StepCase image world t
  turns : (pos image world t).over ≡ false → (pos image world t).next < first_number image
      (suc (pos image world t).block) →
      pos image world (suc t) ≡ fire image (pos image world t) → fires image world t
      ≡ Some (inst_at image (pos image world t)) → StepCase image world t
  ends : (pos image world t).over ≡ false → first_number image (suc (pos image world t).block)
      ≤ (pos image world t).next → stops image (pos image world t).block ≡ true →
      pos image world (suc t) ≡ record (pos image world t) { over = true } → fires image world t ≡ None
      → StepCase image world t
  leaves : (pos image world t).over ≡ false → first_number image (suc (pos image world t).block)
      ≤ (pos image world t).next → stops image (pos image world t).block ≡ false →
      pos image world (suc t) ≡ enter image (target image (pos image world t).block
      (choice image (pos image world t))) (pos image world t).wave
      (with_tokens (edge_tokens image (pos image world t).block (choice image (pos image world t))
      (pos image world t).wave (pos image world t).results (first_number image (pos image world t).block)
      (size_of image (pos image world t).block)) (pos image world t).sent)
      (pos image world t).results (pos image world t).memory → fires image world t ≡ None
      → StepCase image world t

module _ (image : Image) (world : World) where
  -- what a step does
  pub step_case : (t : ℕ) → StepCase image world t
  unfolding pos step fires fires_from
  step_case t = grind (arith, cases_Bool, cond-true, ltb-true, cond-false, ltb-false)

-- the walk stands in a block, and the number of its wave is at least 1
pub record Place (image : Image) (p : Pos) : Type 0 where
  pub block : IsBlock image p.block
  pub low : first_number image p.block ≤ p.next
  pub high : p.next ≤ first_number image (suc p.block)
  pub wave : 1 ≤ p.wave

module _ (image : Image) (world : World) (shape : ShapeRules image) where
  place_start : Place image (opening image world)
  unfolding opening is_first
  place_start = grind (arith, first_up)

  place_fire : (p : Pos) → Place image p → p.next < first_number image (suc p.block)
      → Place image (fire image p)
  place_fire p a l = grind arith

  place_leave : (p : Pos) (r : ℕ) → Place image p → stops image p.block ≡ false → (q : Pos)
      → q.block ≡ target image p.block r → q.next ≡ first_number image (target image p.block r) →
      q.wave ≡ cond (is_first image (target image p.block r)) (suc p.wave) p.wave → Place image q
  place_leave p r a s q b n w = record {
    block = rw b ((shape.blocks p.block a.block).edges.there r s);
    low = rw (b, n) (omega arith);
    high = rw (b, n) (first_up image (target image p.block r));
    wave = rw w (up (is_first image (target image p.block r)));
  }
    where
      up : (f : Bool) → 1 ≤ cond f (suc p.wave) p.wave
      up true = omega arith
      up false = a.wave

  place_step : (t : ℕ) → (pos image world (suc t)).over ≡ false → StepCase image world t
      → ((pos image world t).over ≡ false → Place image (pos image world t))
      → Place image (pos image world (suc t))
  place_step t o h ih = grind (arith, both_ways, place_fire, place_leave)

  -- before the first step
  pub pos_start : pos image world zero ≡ opening image world
  unfolding pos
  pos_start = refl

  -- the walk stands in a block
  pub place : (t : ℕ) → (pos image world t).over ≡ false → Place image (pos image world t)
  place zero o = rw pos_start place_start
  place (suc t) o = place_step t o (step_case image world t) (λ h. place t h)

  -- a step leads to a later wave, or further in the same wave
  pub later_step : (t : ℕ) → (pos image world (suc t)).over ≡ false → StepCase image world t
      → ((pos image world t).wave < (pos image world (suc t)).wave)
      ⊎ (((pos image world t).wave ≡ (pos image world (suc t)).wave)
      × ((pos image world t).next ≤ (pos image world (suc t)).next))
  later_step t o (stands a e f) = absurd (both_ways true (sym a ∙ ap (λ (p : Pos). p.over) (sym e) ∙ o) refl)
  later_step t o (turns a w e f) = inr (
    ap (λ (p : Pos). p.wave) (sym e),
    (let n : (pos image world (suc t)).next ≡ suc (pos image world t).next = ap (λ (p : Pos). p.next) e in
        omega arith),
  )
  later_step t o (ends a w s e f) = absurd (both_ways true (ap (λ (p : Pos). p.over) (sym e) ∙ o) refl)
  later_step t o (leaves a w s e f) = go (is_first image c) refl
    where
      c : ℕ
      c = target image (pos image world t).block (choice image (pos image world t))

      go : (b : Bool)
          → is_first image (target image (pos image world t).block (choice image (pos image world t))) ≡ b →
          ((pos image world t).wave < (pos image world (suc t)).wave)
          ⊎ (((pos image world t).wave ≡ (pos image world (suc t)).wave)
          × ((pos image world t).next ≤ (pos image world (suc t)).next))
      go true h =
          inl (let n : (pos image world (suc t)).wave ≡ cond
          (is_first image (target image (pos image world t).block (choice image (pos image world t))))
          (suc (pos image world t).wave) (pos image world t).wave = ap (λ (p : Pos). p.wave) e in
          let m : (pos image world (suc t)).wave ≡ suc (pos image world t).wave = rw h at n in omega arith)
      go false h = inr (
        (let n : (pos image world (suc t)).wave ≡ cond
            (is_first image (target image (pos image world t).block (choice image (pos image world t))))
            (suc (pos image world t).wave) (pos image world t).wave = ap (λ (p : Pos). p.wave) e in
            let m : (pos image world (suc t)).wave ≡ (pos image world t).wave = rw h at n in sym m),
        (let n : (pos image world (suc t)).next ≡ first_number image
            (target image (pos image world t).block (choice image (pos image world t))) =
            ap (λ (p : Pos). p.next) e in
            let pl : Place image (pos image world t) = place t a in
            let l : (pos image world t).block < target image (pos image world t).block
            (choice image (pos image world t)) =
            ((shape.blocks (pos image world t).block pl.block).edges.later
            (choice image (pos image world t)) s h).0 in
            let g : first_number image (suc (pos image world t).block) ≤ first_number image
            (target image (pos image world t).block (choice image (pos image world t))) =
            first_le image (suc (pos image world t).block)
            (target image (pos image world t).block (choice image (pos image world t))) l in
            let hi : (pos image world t).next ≤ first_number image (suc (pos image world t).block) =
            pl.high in
            omega arith),
      )

  pub running_step : (t : ℕ) → (pos image world (suc t)).over ≡ false → StepCase image world t
      → (pos image world t).over ≡ false
  running_step t o h = grind (arith, both_ways)

  -- a walk that is over stays so
  pub running : (t : ℕ) → (pos image world (suc t)).over ≡ false → (pos image world t).over ≡ false
  running t o = running_step t o (step_case image world t)

  -- what it means that the walk fires an instance
  pub record Turn (t : ℕ) (x : Inst) : Type 0 where
    pub over : (pos image world t).over ≡ false
    pub within : (pos image world t).next < first_number image (suc (pos image world t).block)
    pub inst : x ≡ inst_at image (pos image world t)
    pub next : pos image world (suc t) ≡ fire image (pos image world t)

  turn_of : (t : ℕ) (x : Inst) → fires image world t ≡ Some x → StepCase image world t → Turn t x
  turn_of t x fx h = grind arith

  pub turn_at : (t : ℕ) (x : Inst) → fires image world t ≡ Some x → Turn t x
  turn_at t x fx = turn_of t x fx (step_case image world t)

  order : (t u : ℕ) (x : Inst) → t < u → fires image world t ≡ Some x → (pos image world u).over ≡ false →
      ((pos image world t).wave < (pos image world u).wave)
      ⊎ (((pos image world t).wave ≡ (pos image world u).wave)
      × ((pos image world t).next < (pos image world u).next))
  order t zero x l fx o = absurd (omega arith)
  order t (suc u) x l fx o = go (cases_eq t u) (λ h. order t u x h fx (running u o))
    where
      go : (t ≡ u) ⊎ (t ≡ u → ⊥) → (t < u → ((pos image world t).wave < (pos image world u).wave)
          ⊎ (((pos image world t).wave ≡ (pos image world u).wave)
          × ((pos image world t).next < (pos image world u).next))) →
          ((pos image world t).wave < (pos image world (suc u)).wave)
          ⊎ (((pos image world t).wave ≡ (pos image world (suc u)).wave)
          × ((pos image world t).next < (pos image world (suc u)).next))
      go h ih = grind (arith, turn_at, later_step, step_case)

  -- the number of the wave at an instance
  pub inst_wave : (t : ℕ) (x : Inst) → fires image world t ≡ Some x → x.wave ≡ cond (is_advance image x.instr)
      ((pos image world t).wave - 1) (pos image world t).wave
  unfolding wave_of
  inst_wave t x fx = let k : Turn t x = turn_at t x fx in rw k.inst refl

  pub inst_instr : (t : ℕ) (x : Inst) → fires image world t ≡ Some x → x.instr ≡ (pos image world t).next
  inst_instr t x fx = ap (λ (y : Inst). y.instr) (turn_at t x fx).inst

  same_wave : (t u : ℕ) (x y : Inst) → fires image world t ≡ Some x → fires image world u ≡ Some y
      → x.wave ≡ y.wave → x.instr ≡ y.instr → (pos image world t).wave ≡ (pos image world u).wave
  same_wave t u x y fx fy w i = go (is_advance image x.instr) (is_advance image y.instr) (inst_wave t x fx)
      (inst_wave u y fy) (ap (is_advance image) i)
    where
      tw : 1 ≤ (pos image world t).wave
      tw = (place t (turn_at t x fx).over).wave

      uw : 1 ≤ (pos image world u).wave
      uw = (place u (turn_at u y fy).over).wave

      go : (a b : Bool) → x.wave ≡ cond a ((pos image world t).wave - 1) (pos image world t).wave
          → y.wave ≡ cond b ((pos image world u).wave - 1) (pos image world u).wave → a ≡ b
          → (pos image world t).wave ≡ (pos image world u).wave
      go true true e f g = omega (arith, tw, uw)
      go false false e f g = omega arith
      go true false e f g = cc
      go false true e f g = cc

  -- each instance fires once
  pub once : (t u : ℕ) (x y : Inst) → fires image world t ≡ Some x → fires image world u ≡ Some y
      → x.wave ≡ y.wave → x.instr ≡ y.instr → t ≡ u
  once t u x y fx fy w i = go (cases_order t u)
    where
      sw : (pos image world t).wave ≡ (pos image world u).wave
      sw = same_wave t u x y fx fy w i

      sn : (pos image world t).next ≡ (pos image world u).next
      sn = sym (inst_instr t x fx) ∙ i ∙ inst_instr u y fy

      clash : (p q m n : ℕ) → p ≡ q → m ≡ n → (p < q) ⊎ ((p ≡ q) × (m < n)) → ⊥
      clash p q m n e f (inl a) = omega arith
      clash p q m n e f (inr a) = omega arith

      go : (t ≡ u) ⊎ ((t < u) ⊎ (u < t)) → t ≡ u
      go (inl e) = e
      go (inr (inl l)) =
          absurd (clash (pos image world t).wave (pos image world u).wave (pos image world t).next
          (pos image world u).next sw sn (order t u x l fx (turn_at u y fy).over))
      go (inr (inr l)) =
          absurd (clash (pos image world u).wave (pos image world t).wave (pos image world u).next
          (pos image world t).next (sym sw) (sym sn) (order u t y l fy (turn_at t x fx).over))

pub first_zero : (image : Image) → first_number image 0 ≡ 1
unfolding first_number
first_zero image = refl
