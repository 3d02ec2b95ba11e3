-- Each operand of the walk has a maker: the start pulse or an earlier instance.
use Rattle.std.proofs.Common.{ℕ, zero, suc, ◌+◌, ◌≡◌, ◌<◌, ◌≤◌, ◌⊎◌, true, false, cond, length, Option, Some}
use Rattle.std.proofs.Common.{refl, sym, ap, ◌∙◌, subst, inl, inr, arith}
use Rattle.std.proofs.lemmas.Bool.{cases_Bool, both_ways, cond-true, cond-false}
use Rattle.ws_words.specs.Outside.{World}
use Rattle.ws_isa.specs.Image.{Image, ports, first_number, block_of, target, now_dests, edge_dests, selector}
use Rattle.ws_isa.specs.Image.{sends, is_first, start_dests, size_of, IsIn}
use Rattle.ws_isa.specs.Walk.{Inst, Pos, pos, fires, choice, wave_of, result_at, operands_at, inst_at}
use Rattle.ws_isa.specs.Walk.{start_tokens}
use Rattle.ws_isa.specs.Sound.{OpenSlots, none_open, closed, opens_at, HasDest, PortsThere, ShapeRules}
use Rattle.ws_isa.specs.Sound.{SlotRules}
use Rattle.df_core.specs.Core.{IsSent}
use Rattle.df_core.proofs.Walked.Facts.{Maker}
use Rattle.df_core.proofs.Walked.SlotLists.{sent_to, is_sent_append_left, is_sent_append_right}
use Rattle.ws_isa.proofs.Flow.{number_ahead, number_else, slots_turn, slots_leave, slots_start, path, Stays}
use Rattle.ws_isa.proofs.Flow.{leave_stays, turn_on, end_number, cross_number, same_wave_number}
use Rattle.ws_isa.specs.Standing.{turn_number, slots_at}
use Rattle.df_core.proofs.Walked.SentTokens.{sends_wave, now_number, start_number, start_value, Done, done_at}
use Rattle.df_core.proofs.Walked.SentTokens.{agreed, EdgeSlot, edge_slot}
use Rattle.ws_isa.proofs.Slots.{all_opened_from, closed_cases, gather_length, gather_nth, with_tokens_lands}
use Rattle.ws_isa.proofs.Slots.{edge_all_from}
use Rattle.ws_isa.proofs.Steps.{first_up, StepCase, stands, turns, ends, leaves, step_case, Turn, turn_at}
use Rattle.ws_isa.proofs.Steps.{inst_instr}
use Rattle.ws_words.specs.Items.{nth, or_else}
use Rattle.ws_words.proofs.Places.{nth_short}

module _ (image : Image) (world : World) (formed : PortsThere image) (shape : ShapeRules image)
    (slots : SlotRules image) where
  abbrev P : ℕ → Pos
  P t = pos image world t

  -- an open slot's value and where it came from
  pub record Pend (t j q : ℕ) : Type 0 where
    pub value : ℕ
    pub is : (P t).sent (turn_number image (P t) j) j q ≡ Some value
    pub made : IsSent (start_tokens image) (turn_number image (P t) j) j q value
        ⊎ Maker image world t (turn_number image (P t) j) j q value

  maker_later : (t w j q v : ℕ) → IsSent (start_tokens image) w j q v ⊎ Maker image world t w j q v
      → IsSent (start_tokens image) w j q v ⊎ Maker image world (suc t) w j q v
  maker_later t w j q v h = grind arith

  sent_now : (t j q : ℕ) (x : Inst) → fires image world t ≡ Some x → HasDest (now_dests image x.instr) j q
      → IsSent (sends image x.wave x.instr x.operands x.result) (P t).wave j q x.result
  unfolding sends
  sent_now t j q x fx h = grind (arith, is_sent_append_left, sends_wave, sent_to)

  sent_edge : (t j q : ℕ) (x : Inst) → fires image world t ≡ Some x
      → HasDest (edge_dests image (block_of image x.instr) (selector image x.instr x.operands) x.instr) j q
      → IsSent (sends image x.wave x.instr x.operands x.result) (P t).wave j q x.result
  unfolding sends
  sent_edge t j q x fx h = grind (arith, is_sent_append_right, sends_wave, sent_to)

  pend_start : (j q : ℕ) → slots_at image world zero j q ≡ true → Pend zero j q
  unfolding start_tokens
  pend_start j q s =
      elim (all_opened_from (start_dests image) none_open j q
      (grind (arith, slots_start))) [
        | inl g ↦ absurd (both_ways true (sym g) refl)
        | inr g ↦ grind (arith, start_number, start_value, sent_to)
      ]

  edge_pend : (t j q : ℕ) → (P t).over ≡ false → first_number image (suc (P t).block) ≤ (P t).next
      → HasDest (opens_at image (P t).block (choice image (P t))) j q → Pend (suc t) j q
  unfolding opens_at size_of
  edge_pend t j q a w g =
      let f = edge_all_from image (P t).block (choice image (P t)) (first_number image (P t).block)
      (size_of image (P t).block) j q g in
      let up : first_number image (P t).block ≤ first_number image (suc (P t).block) =
      first_up image (P t).block in
      let hi : f.source < first_number image (suc (P t).block) = omega arith in
      let i : IsIn image (P t).block f.source = (f.low, hi) in
      let d : Done image world formed shape slots t f.source = done_at image world formed shape slots t
      f.source a f.low (omega arith) in
      let iy : IsIn image (P t).block d.inst.instr = rw d.instr i in
      let ag : edge_dests image (block_of image d.inst.instr) (selector image d.inst.instr d.inst.operands)
      d.inst.instr ≡ edge_dests image (P t).block (choice image (P t)) d.inst.instr =
      agreed image world formed shape slots t d.time d.inst a w d.fires d.wave iy in
      let hy : HasDest (edge_dests image (P t).block (choice image (P t)) d.inst.instr) j q =
      rw d.instr f.has in
      let sn : IsSent (sends image d.inst.wave d.inst.instr d.inst.operands d.inst.result) (P d.time).wave j q
      d.inst.result = sent_edge d.time j q d.inst d.fires
      (rw ag hy) in
      let sl : EdgeSlot image world formed shape slots t f.source j q a w i f.has =
      edge_slot image world formed shape slots t f.source j q a w i f.has in
      let lt : d.time < t = d.earlier in
      record {
        value = (P t).results f.source;
        is = rw sl.number sl.value;
        made = inr (record {
          time = d.time;
          inst = d.inst;
          earlier = omega arith;
          fires = d.fires;
          sent = subst (λ (n : ℕ). IsSent (sends image d.inst.wave d.inst.instr d.inst.operands d.inst.result)
              (turn_number image (P (suc t)) j) j q n) d.result
              (rw (d.wave ∙ sym sl.number) at sn);
        });
      }

  pend_step : (t j q : ℕ) → (P (suc t)).over ≡ false → StepCase image world t
      → ((P t).over ≡ false → slots_at image world t j q ≡ true → Pend t j q)
      → slots_at image world (suc t) j q ≡ true → Pend (suc t) j q
  pend_step t j q o (stands a e f) ih s = grind (arith, both_ways)
  pend_step t j q o (ends a w st e f) ih s = grind (arith, both_ways)
  pend_step t j q o (turns a w e f) ih s =
      elim (all_opened_from (now_dests image (P t).next) (closed (P t).next (slots_at image world t)) j q
      (ap (λ (g : OpenSlots). g j q) (sym (slots_turn image world t a w)) ∙ s)) [
        | inl g ↦ elim (closed_cases (P t).next (slots_at image world t) j q) [
          | inl c ↦ absurd (both_ways (closed (P t).next (slots_at image world t) j q) c.1 g)
          | inr c ↦ (let old : Pend t j q = ih a (sym c.1 ∙ g) in
              let on = turn_on image world formed shape slots t j q old.value a w e c.0 (sym c.1 ∙ g)
              old.is in
              record {
                value = old.value;
                is = on.2;
                made = rw on.0 at (maker_later t (turn_number image (P t) j) j q old.value old.made);
              })
        ]
        | inr g ↦ (let n : turn_number image (P (suc t)) j ≡ (P t).wave = now_number image world formed shape
            slots t j q a w e g in
            let v : (P (suc t)).sent (P t).wave j q ≡ Some (result_at image (P t)) =
            ap (λ (p : Pos). p.sent (P t).wave j q) e ∙ with_tokens_lands (P t).wave (result_at image (P t))
            (now_dests image (P t).next) (P t).sent j q g in
            record {
              value = result_at image (P t);
              is = rw n v;
              made = inr (record {
                time = t;
                inst = inst_at image (P t);
                earlier = omega arith;
                fires = f;
                sent = rw n (sent_now t j q (inst_at image (P t)) f g);
              });
            })
      ]
  pend_step t j q o (leaves a w st e f) ih s =
      elim (all_opened_from (opens_at image (P t).block (choice image (P t))) (slots_at image world t) j q
      (ap (λ (g : OpenSlots). g j q) (sym (slots_leave image world t a w)) ∙ s)) [
        | inl g ↦ (let old : Pend t j q = ih a g in
            let stay : Stays image world formed shape slots t j q = leave_stays image world formed shape slots
            t j
            q a w st e g in
            let n : turn_number image (P (suc t)) j ≡ turn_number image (P t) j = after_number stay.slot
            ∙ sym (end_number image world formed shape slots t j w) in
            record {
              value = old.value;
              is = rw n (stay.value (turn_number image (P t) j) ∙ old.is);
              made = rw n (maker_later t (turn_number image (P t) j) j q old.value old.made);
            })
        | inr g ↦ edge_pend t j q a w g
      ]
    where
      bl : (P (suc t)).block ≡ target image (P t).block (choice image (P t))
      bl = ap (λ (p : Pos). p.block) e

      nx : (P (suc t)).next ≡ first_number image (target image (P t).block (choice image (P t)))
      nx = ap (λ (p : Pos). p.next) e

      wv : (P (suc t)).wave ≡ cond (is_first image (target image (P t).block (choice image (P t))))
          (suc (P t).wave) (P t).wave
      wv = ap (λ (p : Pos). p.wave) e

      after_number : slots_at image world (suc t) j q ≡ true → turn_number image (P (suc t)) j ≡ (P t).wave
      after_number sl = grind (arith, cases_Bool, cross_number, bl, nx, wv, same_wave_number)

  pub pend : (t j q : ℕ) → (P t).over ≡ false → slots_at image world t j q ≡ true → Pend t j q
  pend zero j q o s = pend_start j q s
  pend (suc t) j q o s = pend_step t j q o (step_case image world t) (λ a k. pend t j q a k) s

  pub operands_length : (t : ℕ) (x : Inst) → fires image world t ≡ Some x
      → length x.operands ≡ ports image x.instr
  unfolding operands_at
  operands_length t x fx = let k : Turn image world shape t x = turn_at image world shape t x fx in
      grind (arith, gather_length, inst_instr)

  -- the number of an instance is that of its slots
  pub turn_wave : (t : ℕ) → (P t).next < first_number image (suc (P t).block)
      → wave_of image (P t) ≡ turn_number image (P t) (P t).next
  unfolding wave_of
  turn_wave t w = grind (arith, cases_Bool, cond-true, number_ahead, cond-false, number_else, both_ways)

  -- each operand came from the start pulse or an earlier instance
  pub made : (t : ℕ) (x : Inst) → fires image world t ≡ Some x → (p v : ℕ) → nth x.operands p ≡ Some v
      → IsSent (start_tokens image) x.wave x.instr p v ⊎ Maker image world t x.wave x.instr p v
  unfolding operands_at
  made t x fx p v e =
      let k : Turn image world shape t x = turn_at image world shape t x fx in
      let l : p < length x.operands = nth_short x.operands p v e in
      let len : length x.operands ≡ ports image x.instr = operands_length t x fx in
      let xi : x.instr ≡ (P t).next = inst_instr image world shape t x fx in
      let pl : p < ports image (P t).next = rw xi at (let g : p < ports image x.instr = omega arith in g) in
      let open' : slots_at image world t (P t).next p ≡ true =
      (slots.turns (P t).block (P t).next (slots_at image world t)
      (path image world formed shape slots t k.over) k.within).has_all p pl in
      let pd : Pend t (P t).next p = pend t (P t).next p k.over open' in
      let tw : wave_of image (P t) ≡ turn_number image (P t) (P t).next = turn_wave t k.within in
      let g : nth (operands_at image (P t)) p ≡ Some
      (or_else ((P t).sent (wave_of image (P t)) (P t).next (0 + p)) 0) =
      gather_nth (P t).sent (wave_of image (P t)) (P t).next 0 (ports image (P t).next) p pl in
      let z : p ≡ 0 + p = omega arith in
      let s1 : (P t).sent (wave_of image (P t)) (P t).next (0 + p) ≡ Some pd.value =
      subst (λ (n : ℕ). (P t).sent (wave_of image (P t)) (P t).next n ≡ Some pd.value) z
      (rw tw pd.is) in
      let val : Some v ≡ Some pd.value = sym e ∙ ap (λ (y : Inst). nth y.operands p) k.inst ∙ g
      ∙ ap (λ (y : Option ℕ). Some (or_else y 0)) s1 in
      let vv : pd.value ≡ v = cc in
      let xw : turn_number image (P t) (P t).next ≡ x.wave = sym tw ∙ ap (λ (y : Inst). y.wave)
      (sym k.inst) in
      let r1 : IsSent (start_tokens image) x.wave (P t).next p pd.value
      ⊎ Maker image world t x.wave (P t).next p pd.value =
      rw xw at pd.made in
      let r2 : IsSent (start_tokens image) x.wave x.instr p pd.value ⊎ Maker image world t x.wave x.instr p
      pd.value = subst (λ (n : ℕ). IsSent (start_tokens image) x.wave n p pd.value
      ⊎ Maker image world t x.wave n p pd.value) (sym xi) r1 in
      rw vv at r2
