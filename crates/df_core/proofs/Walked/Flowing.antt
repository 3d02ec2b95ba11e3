-- Each open slot's value is consumed.
use Rattle.std.proofs.Common.{ℕ, zero, suc, ◌+◌, ◌-◌, ◌≡◌, ◌<◌, ◌≤◌, true, false, cond, length, Option, Some}
use Rattle.std.proofs.Common.{sym, ap, ◌∙◌, subst, inl, inr, arith}
use Rattle.std.proofs.lemmas.Bool.{cases_Bool, cases_eq, both_ways, cond-true, cond-false}
use Rattle.ws_words.specs.Outside.{World}
use Rattle.ws_isa.specs.Image.{Image, ports, first_number, target, is_first}
use Rattle.ws_isa.specs.Walk.{Pos, pos, fires, choice, wave_of, operands_at, inst_at}
use Rattle.ws_isa.specs.Sound.{PortsThere, ShapeRules, SlotRules}
use Rattle.df_core.specs.Fit.{RightToken}
use Rattle.ws_isa.specs.Standing.{turn_number, slots_at}
use Rattle.ws_isa.proofs.Flow.{Stays, number_ahead, number_else, number_same, slot_port, turn_stays, path}
use Rattle.ws_isa.proofs.Flow.{at_end, turn_on, leave_stays, cross_number, same_wave_number, end_number}
use Rattle.ws_isa.proofs.Steps.{first_le, StepCase, stands, turns, ends, leaves, step_case, Place, place}
use Rattle.ws_isa.proofs.Along.{path_end}
use Rattle.ws_isa.proofs.Slots.{gather_nth}
use Rattle.ws_words.specs.Items.{nth, or_else}

-- the token's instance fires from step t on
abbrev pub RightFrom : Image → World → ℕ → ℕ → ℕ → ℕ → ℕ → Type 0
RightFrom image world t w i p v = (r : RightToken image world w i p v) × (t ≤ r.time)

sooner : (image : Image) (world : World) (t w i p v : ℕ) → RightFrom image world (suc t) w i p v
    → RightFrom image world t w i p v
sooner image world t w i p v r = (r.0, (let l : suc t ≤ r.0.time = r.1 in omega arith))

module _ (image : Image) (world : World) where
  abbrev P : ℕ → Pos
  P t = pos image world t

  module _ (formed : PortsThere image) (shape : ShapeRules image) (slots : SlotRules image) where
    -- the slots of the instruction at hand, with a value each
    turn_token : (t j q v : ℕ) → (P t).over ≡ false → (P t).next < first_number image (suc (P t).block)
        → fires image world t ≡ Some (inst_at image (P t)) → (P t).next ≡ j → q < ports image j →
        (P t).sent (turn_number image (P t) j) j q ≡ Some v
        → RightFrom image world t (turn_number image (P t) j) j q v
    unfolding wave_of operands_at
    turn_token t j q v a w f k l e =
        let same : wave_of image (P t) ≡ turn_number image (P t) j =
        grind (arith, cases_Bool, cond-true, number_ahead, cond-false, number_else, both_ways) in
        let l' : q < ports image (P t).next = rw k l in
        let g : nth (operands_at image (P t)) q ≡ Some
        (or_else ((P t).sent (wave_of image (P t)) (P t).next (0 + q)) 0) =
        gather_nth (P t).sent (wave_of image (P t)) (P t).next 0 (ports image (P t).next) q l' in
        let z : 0 + q ≡ q = omega arith in
        let e1 : (P t).sent (turn_number image (P t) j) (P t).next q ≡ Some v =
        subst (λ (n : ℕ). (P t).sent (turn_number image (P t) j) n q ≡ Some v) (sym k) e in
        let e2 : (P t).sent (wave_of image (P t)) (P t).next q ≡ Some v =
        rw same e1 in
        let e3 : (P t).sent (wave_of image (P t)) (P t).next (0 + q) ≡ Some v =
        rw z e2 in (
          record {
            time = t;
            inst = inst_at image (P t);
            at = record { fires = f; wave = same; instr = k };
            operand = g ∙ ap (λ (x : Option ℕ). Some (or_else x 0)) e3;
          },
          omega arith,
        )

    -- a slot of this block's rest is consumed
    in_block : (d t j q v : ℕ) → StepCase image world t → (P t).over ≡ false → (P t).next ≤ j
        → j < first_number image (suc (P t).block) → j ≡ (P t).next + d →
        slots_at image world t j q ≡ true → (P t).sent (turn_number image (P t) j) j q ≡ Some v
        → RightFrom image world t (turn_number image (P t) j) j q v
    in_block d t j q v (stands a e f) o l h m s x = absurd (both_ways (P t).over o a)
    in_block d t j q v (ends a w st e f) o l h m s x = absurd (omega arith)
    in_block d t j q v (leaves a w st e f) o l h m s x = absurd (omega arith)
    in_block zero t j q v (turns a w e f) o l h m s x = grind (arith, turn_token, slot_port)
    in_block (suc d) t j q v (turns a w e f) o l h m s x =
        let n : (P t).next ≡ j → ⊥ = λ k. omega arith in
        let st : Stays image world formed shape slots t j q = turn_stays image world formed shape slots t j q
        a w e s n in
        let nx : (P (suc t)).next ≡ suc (P t).next = ap (λ (p : Pos). p.next) e in
        let bl : (P (suc t)).block ≡ (P t).block = ap (λ (p : Pos). p.block) e in
        let ov : (P (suc t)).over ≡ false = ap (λ (p : Pos). p.over) e in
        let wv : (P t).wave ≡ (P (suc t)).wave = ap (λ (p : Pos). p.wave) (sym e) in
        let num : turn_number image (P t) j ≡ turn_number image (P (suc t)) j =
        number_same image (P t) (P (suc t)) j wv
        (λ y. record { advance = y.advance; low = omega arith; high = rw bl h })
        (λ y. record { advance = y.advance; low = l; high = h }) in
        rw num (sooner image world t (turn_number image (P (suc t)) j) j q v
        (in_block d (suc t) j q v (step_case image world (suc t)) ov (omega arith) (rw bl h) (omega arith)
        st.slot (st.value (turn_number image (P (suc t)) j) ∙ (rw num at x))))

    pub consumed_here : (t j q v : ℕ) → (P t).over ≡ false → (P t).next ≤ j
        → j < first_number image (suc (P t).block) →
        slots_at image world t j q ≡ true → (P t).sent (turn_number image (P t) j) j q ≡ Some v
        → RightFrom image world t (turn_number image (P t) j) j q v
    consumed_here t j q v o l h s x = in_block (j - (P t).next) t j q v (step_case image world t) o l h
        (omega arith) s x

    -- an open slot is consumed: in this block, in a later one of the wave, or by an advance of the next one
    in_wave : (d t j q v : ℕ) → StepCase image world t → (P t).over ≡ false
        → first_number image (suc (length image.blocks)) + length image.blocks
        < d + ((P t).next + (P t).block) →
        slots_at image world t j q ≡ true → (P t).sent (turn_number image (P t) j) j q ≡ Some v
        → RightFrom image world t (turn_number image (P t) j) j q v
    in_wave zero t j q v c o m s x = grind (arith, Place, place, first_le)
    in_wave (suc d) t j q v (stands a e f) o m s x = absurd (both_ways (P t).over o a)
    in_wave (suc d) t j q v (ends a w st e f) o m s x =
        absurd (both_ways (slots_at image world t j q)
        ((slots.ends (P t).block _ (path_end (path image world formed shape slots t a)
        (at_end image world formed shape slots t a w))).stop st j q) s)
    in_wave (suc d) t j q v (turns a w e f) o m s x = elim (cases_eq (P t).next j) [
      | inl k ↦ turn_token t j q v a w f k (slot_port image world formed shape slots t j q o s) x
      | inr n ↦ (let on = turn_on image world formed shape slots t j q v a w e n s x in
          let nx : (P (suc t)).next ≡ suc (P t).next = ap (λ (p : Pos). p.next) e in
          let bl : (P (suc t)).block ≡ (P t).block = ap (λ (p : Pos). p.block) e in
          let r : RightFrom image world t (turn_number image (P (suc t)) j) j q v =
          sooner image world t (turn_number image (P (suc t)) j) j q v
          (in_wave d (suc t) j q v (step_case image world (suc t)) (ap (λ (p : Pos). p.over) e)
          (omega arith) on.1 on.2) in
          rw on.0 r)
    ]
    in_wave (suc d) t j q v (leaves a w st e f) o m s x =
        let stay : Stays image world formed shape slots t j q = leave_stays image world formed shape slots t j
        q a w st e s in
        let ov : (P (suc t)).over ≡ false = ap (λ (p : Pos). p.over) e in
        let bl : (P (suc t)).block ≡ target image (P t).block (choice image (P t)) =
        ap (λ (p : Pos). p.block) e in
        let nx : (P (suc t)).next ≡ first_number image (target image (P t).block (choice image (P t))) =
        ap (λ (p : Pos). p.next) e in
        let wv : (P (suc t)).wave ≡ cond (is_first image (target image (P t).block (choice image (P t))))
        (suc (P t).wave) (P t).wave = ap (λ (p : Pos). p.wave) e in
        let x' : (P t).sent (P t).wave j q ≡ Some v = rw (end_number image world formed shape slots t j w) at
        x in
        let y : (P (suc t)).sent (P t).wave j q ≡ Some v = stay.value (P t).wave ∙ x' in
        let back : turn_number image (P (suc t)) j ≡ (P t).wave
        → RightFrom image world t (turn_number image (P (suc t)) j) j q v
        → RightFrom image world t (turn_number image (P t) j) j q v =
        λ g r. rw (g ∙ sym (end_number image world formed shape slots t j w)) at r in
        elim (cases_Bool (is_first image (target image (P t).block (choice image (P t))))) [
          | inl fst ↦
              (let c = cross_number image world formed shape slots t j q a w st bl nx wv fst stay.slot in
              back c.1 (sooner image world t (turn_number image (P (suc t)) j) j q v
              (consumed_here (suc t) j q v ov c.0.low c.0.high stay.slot
              (rw c.1 y))))
          | inr fst ↦
              (let g : turn_number image (P (suc t)) j ≡ (P t).wave = same_wave_number image world formed
              shape slots t j a st bl nx wv fst in
              let lt : (P t).block < target image (P t).block (choice image (P t)) =
              ((shape.blocks (P t).block (place image world shape t a).block).edges.later
              (choice image (P t)) st fst).0 in
              let fl : first_number image (suc (P t).block) ≤ first_number image
              (target image (P t).block (choice image (P t))) = first_le image (suc (P t).block)
              (target image (P t).block (choice image (P t))) lt in
              let hi : (P t).next ≤ first_number image (suc (P t).block) =
              (place image world shape t a).high in
              back g (sooner image world t (turn_number image (P (suc t)) j) j q v
              (in_wave d (suc t) j q v (step_case image world (suc t)) ov (omega arith) stay.slot
              (rw g y))))
        ]

    pub consumed_from : (t j q v : ℕ) → (P t).over ≡ false → slots_at image world t j q ≡ true
        → (P t).sent (turn_number image (P t) j) j q ≡ Some v
        → RightFrom image world t (turn_number image (P t) j) j q v
    consumed_from t j q v o s x =
        in_wave (suc (first_number image (suc (length image.blocks)) + length image.blocks)) t j q v
        (step_case image world t) o (omega arith) s x

    pub consumed : (t j q v : ℕ) → (P t).over ≡ false → slots_at image world t j q ≡ true
        → (P t).sent (turn_number image (P t) j) j q ≡ Some v
        → RightToken image world (turn_number image (P t) j) j q v
    consumed t j q v o s x = (consumed_from t j q v o s x).0
