-- Result tokens are right, and each operand has a maker.
use Rattle.std.proofs.Common.{ℕ, zero, suc, ◌+◌, ◌-◌, ◌≡◌, ◌<◌, ◌≤◌, Bool, true, false, cond, eqb, List, ◌∷◌}
use Rattle.std.proofs.Common.{Some, refl, sym, ap, ◌∙◌, subst, inl, inr, arith, eq-eqb, ne_eqb, slice_index}
use Rattle.std.proofs.lemmas.Bool.{cases_Bool, cases_eq, both_ways, cond-true, cond-false}
use Rattle.ws_words.specs.Outside.{World}
use Rattle.ws_isa.specs.declared.instr.Op.{Op}
use Rattle.ws_isa.specs.declared.instr.Op.TheVariants.{Merge, Steer, Send}
use Rattle.ws_isa.specs.declared.instr.Dest.{Dest}
use Rattle.ws_isa.specs.Image.{Image, Exit, Branch, Landings, ports, instr_at, is_memory, is_advance}
use Rattle.ws_isa.specs.Image.{is_advance_op, is_memory_op, first_number, block_at, block_of, stops, is_stop}
use Rattle.ws_isa.specs.Image.{target, now_dests, edge_dests, edge_of, selector, selector_of, result_of}
use Rattle.ws_isa.specs.Image.{result_of_op, tokens_to, sends, is_first, start_dests, size_of, IsIn, IsBlock}
use Rattle.ws_isa.specs.Walk.{Inst, Pos, no_ports, pos, opening, fire, fires, choice, choice_of, result_at}
use Rattle.ws_isa.specs.Walk.{inst_at, start_tokens, with_tokens, edge_tokens}
use Rattle.ws_isa.specs.Sound.{OpenSlots, none_open, closed, opens_at, HasDest, PortsThere, BringsResult}
use Rattle.ws_isa.specs.Sound.{direct, through, ShapeRules, SlotRules}
use Rattle.df_core.specs.Core.{IsSent}
use Rattle.df_core.specs.Fit.{RightToken}
use Rattle.df_core.proofs.Walked.SlotLists.{sent_from, is_sent_append_cases}
use Rattle.ws_isa.proofs.Steps.{block_of_is, StepCase, stands, turns, ends, leaves, step_case, place}
use Rattle.ws_isa.proofs.Steps.{pos_start, Turn, turn_at, inst_wave, inst_instr, once}
use Rattle.df_core.proofs.Walked.Flowing.{consumed}
use Rattle.ws_isa.proofs.Flow.{number_ahead, number_else, slots_turn, slots_leave, slots_start, path}
use Rattle.ws_isa.proofs.Flow.{at_end, ahead_open, cross_number, same_wave_number}
use Rattle.ws_isa.specs.Standing.{turn_number, slots_at}
use Rattle.ws_isa.proofs.Along.{path_end}
use Rattle.ws_isa.proofs.Slots.{all_opened_has, closed_cases, edge_lands, fresh_apart, with_tokens_lands}
use Rattle.ws_isa.proofs.Slots.{edge_all_has, has_at}
use Rattle.ws_isa.proofs.Firing.{advance_port as advance_ports_op}
use Rattle.ws_words.specs.Items.{nth}

pub advance_ports : (image : Image) (j : ℕ) → is_advance image j ≡ true → ports image j ≡ 1
unfolding is_advance ports
advance_ports image j e = advance_ports_op (instr_at image j).op e

pub nth_slice : (xs : List ℕ) (q v : ℕ) → nth xs q ≡ Some v → slice_index xs q ≡ v
nth_slice (x ∷ xs) (suc q) v e = nth_slice xs q v e
nth_slice xs q v e = grind arith

module _ (image : Image) (world : World) (formed : PortsThere image) (shape : ShapeRules image)
    (slots : SlotRules image) where
  abbrev P : ℕ → Pos
  P t = pos image world t

  -- an instance's tokens go under the number of the wave at hand
  pub sends_wave : (t : ℕ) (x : Inst) → fires image world t ≡ Some x
      → cond (is_advance image x.instr) (suc x.wave) x.wave ≡ (P t).wave
  sends_wave t x fx = go (is_advance image x.instr) (inst_wave image world shape t x fx)
      (place image world shape t (turn_at image world shape t x fx).over).wave
    where
      go : (b : Bool) → x.wave ≡ cond b ((P t).wave - 1) (P t).wave → 1 ≤ (P t).wave
          → cond b (suc x.wave) x.wave ≡ (P t).wave
      go b e l = grind arith

  -- a slot that the turn opens
  pub now_number : (t j q : ℕ) → (P t).over ≡ false → (P t).next < first_number image (suc (P t).block)
      → P (suc t) ≡ fire image (P t) → HasDest (now_dests image (P t).next) j q
      → turn_number image (P (suc t)) j ≡ (P t).wave
  now_number t j q a w e h =
      let nx : (P (suc t)).next ≡ suc (P t).next = ap (λ (p : Pos). p.next) e in
      let bl : (P (suc t)).block ≡ (P t).block = ap (λ (p : Pos). p.block) e in
      number_else image (P (suc t)) j (λ y.
      let l : (P (suc t)).next ≤ j = y.low in
      let op : slots_at image world t j 0 ≡ true = ahead_open image world formed shape slots t j a
      (record { advance = y.advance; low = omega arith; high = rw bl at y.high }) in
      let ql : q < ports image j = formed.now (P t).next j q h in
      let one : ports image j ≡ 1 = advance_ports image j y.advance in
      let q0 : q ≡ 0 = omega arith in
      let still : closed (P t).next (slots_at image world t) j 0 ≡ true =
      elim (closed_cases (P t).next (slots_at image world t) j 0) [
        | inl c ↦
            absurd (let x : (P t).next ≡ j = c.0 in omega arith)
        | inr c ↦ c.1 ∙ op
      ] in
      fresh_apart (now_dests image (P t).next) (closed (P t).next (slots_at image world t)) j 0
      ((slots.turns (P t).block (P t).next (slots_at image world t)
      (path image world formed shape slots t a) w).fresh) still (rw q0 at h))
      ∙ ap (λ (p : Pos). p.wave) e

  pub now_slot : (t j q : ℕ) → (P t).over ≡ false → (P t).next < first_number image (suc (P t).block)
      → HasDest (now_dests image (P t).next) j q → slots_at image world (suc t) j q ≡ true
  now_slot t j q a w h = ap (λ (s : OpenSlots). s j q) (slots_turn image world t a w)
      ∙ all_opened_has (now_dests image (P t).next) (closed (P t).next (slots_at image world t)) j q h

  pub now_right : (t j q : ℕ) (x : Inst) → fires image world t ≡ Some x
      → HasDest (now_dests image x.instr) j q → RightToken image world (P t).wave j q x.result
  now_right t j q x fx h =
      let k : Turn image world shape t x = turn_at image world shape t x fx in
      let h' : HasDest (now_dests image (P t).next) j q = subst (λ (n : ℕ). HasDest (now_dests image n) j q)
      (inst_instr image world shape t x fx) h in
      let num : turn_number image (P (suc t)) j ≡ (P t).wave = now_number t j q k.over k.within k.next h' in
      let val : (P (suc t)).sent (P t).wave j q ≡ Some (result_at image (P t)) =
      ap (λ (p : Pos). p.sent (P t).wave j q) k.next ∙ with_tokens_lands (P t).wave
      (result_at image (P t)) (now_dests image (P t).next) (P t).sent j q h' in
      let res : result_at image (P t) ≡ x.result = ap (λ (y : Inst). y.result) (sym k.inst) in
      let r : RightToken image world (turn_number image (P (suc t)) j) j q (result_at image (P t)) =
      consumed image world formed shape slots (suc t) j q (result_at image (P t))
      (ap (λ (p : Pos). p.over) k.next) (now_slot t j q k.over k.within h')
      (subst (λ (n : ℕ). (P (suc t)).sent n j q ≡ Some (result_at image (P t))) (sym num) val) in
      subst (λ (n : ℕ). RightToken image world (P t).wave j q n) res
      (subst (λ (n : ℕ). RightToken image world n j q (result_at image (P t))) num r)

  pub start_zero : (P zero).over ≡ false
  unfolding opening
  start_zero = ap (λ (p : Pos). p.over) (pos_start image world shape)

  pub start_number : (j q : ℕ) → HasDest (start_dests image) j q → turn_number image (P zero) j ≡ 0
  unfolding opening is_first
  start_number j q h =
      let c = (slots.begins j q).0 (all_opened_has (start_dests image) none_open j q h) in
      grind (arith, pos_start, number_ahead)

  pub start_value : (j q : ℕ) → HasDest (start_dests image) j q → (P zero).sent 0 j q ≡ Some 0
  unfolding opening start_tokens
  start_value j q h = ap (λ (p : Pos). p.sent 0 j q) (pos_start image world shape)
      ∙ with_tokens_lands 0 0 (start_dests image) no_ports j q h

  pub start_slot : (j q : ℕ) → HasDest (start_dests image) j q → slots_at image world zero j q ≡ true
  start_slot j q h = ap (λ (s : OpenSlots). s j q) (slots_start image world)
      ∙ all_opened_has (start_dests image) none_open j q h

  pub start_right : (w i p v : ℕ) → IsSent (start_tokens image) w i p v → RightToken image world w i p v
  unfolding start_tokens
  start_right w i p v h =
      grind (arith, sent_from, start_number, consumed, start_zero, start_slot, start_value)

  -- an instruction of the block that has fired in this visit
  pub record Done (t k : ℕ) : Type 0 where
    pub time : ℕ
    pub inst : Inst
    pub earlier : time < t
    pub fires : fires image world time ≡ Some inst
    pub instr : inst.instr ≡ k
    pub wave : (P time).wave ≡ (P t).wave
    pub result : inst.result ≡ (P t).results k

  done_step : (t k : ℕ) → (P (suc t)).over ≡ false → StepCase image world t
      → ((P t).over ≡ false → first_number image (P t).block ≤ k → k < (P t).next → Done t k) →
      first_number image (P (suc t)).block ≤ k → k < (P (suc t)).next → Done (suc t) k
  done_step t k o (stands a e f) ih l h =
      absurd (both_ways true (sym a ∙ ap (λ (p : Pos). p.over) (sym e) ∙ o) refl)
  done_step t k o (ends a w s e f) ih l h =
      absurd (both_ways true (ap (λ (p : Pos). p.over) (sym e) ∙ o) refl)
  done_step t k o (leaves a w s e f) ih l h =
      let bl : (P (suc t)).block ≡ target image (P t).block (choice image (P t)) =
      ap (λ (p : Pos). p.block) e in
      let nx : (P (suc t)).next ≡ first_number image (target image (P t).block (choice image (P t))) =
      ap (λ (p : Pos). p.next) e in
      let l' : first_number image (target image (P t).block (choice image (P t))) ≤ k = rw bl at l in
      absurd (omega arith)
  done_step t k o (turns a w e f) ih l h =
      let nx : (P (suc t)).next ≡ suc (P t).next = ap (λ (p : Pos). p.next) e in
      let bl : (P (suc t)).block ≡ (P t).block = ap (λ (p : Pos). p.block) e in
      let wv : (P t).wave ≡ (P (suc t)).wave = ap (λ (p : Pos). p.wave) (sym e) in
      let rs : (P (suc t)).results k ≡ cond (eqb k (P t).next) (result_at image (P t)) ((P t).results k) =
      ap (λ (p : Pos). p.results k) e in
      elim (cases_eq k (P t).next) [
        | inl g ↦ record {
          time = t;
          inst = inst_at image (P t);
          earlier = omega arith;
          fires = f;
          instr = sym g;
          wave = wv;
          result =
              sym (rs ∙ cond-true (eqb k (P t).next) _ _ (eq-eqb k (P t).next g));
        }
        | inr n ↦ (let d : Done t k = ih a (rw bl at l) (omega arith) in
            let lt : d.time < t = d.earlier in
            record {
              time = d.time;
              inst = d.inst;
              earlier = omega arith;
              fires = d.fires;
              instr = d.instr;
              wave = d.wave ∙ wv;
              result =
                  d.result ∙ sym (rs ∙ cond-false (eqb k (P t).next) _ _ (ne_eqb k (P t).next n));
            })
      ]

  done_start : (k : ℕ) → first_number image (P zero).block ≤ k → k < (P zero).next → Done zero k
  unfolding opening
  done_start k l h = grind (arith, pos_start)

  pub done_at : (t k : ℕ) → (P t).over ≡ false → first_number image (P t).block ≤ k → k < (P t).next
      → Done t k
  done_at zero k o l h = done_start k l h
  done_at (suc t) k o l h = done_step t k o (step_case image world t) (λ a l' h'. done_at t k a l' h') l h

  -- the step at which the block is left
  pub record AtEnd (t : ℕ) : Type 0 where
    pub time : ℕ
    pub from : t ≤ time
    pub over : (P time).over ≡ false
    pub block : (P time).block ≡ (P t).block
    pub wave : (P time).wave ≡ (P t).wave
    pub at_end : first_number image (suc (P time).block) ≤ (P time).next
    pub results : (k : ℕ) → k < (P t).next → (P time).results k ≡ (P t).results k

  to_end : (d t : ℕ) → (P t).over ≡ false → first_number image (suc (P t).block) ≡ (P t).next + d
      → StepCase image world t → AtEnd t
  to_end d t o m (stands a e f) = absurd (both_ways (P t).over o a)
  to_end d t o m (ends a w s e f) = grind (arith, at_end)
  to_end d t o m (leaves a w s e f) = grind (arith, at_end)
  to_end zero t o m (turns a w e f) = absurd (omega arith)
  to_end (suc d) t o m (turns a w e f) =
      let nx : (P (suc t)).next ≡ suc (P t).next = ap (λ (p : Pos). p.next) e in
      let bl : (P (suc t)).block ≡ (P t).block = ap (λ (p : Pos). p.block) e in
      let wv : (P (suc t)).wave ≡ (P t).wave = ap (λ (p : Pos). p.wave) e in
      let m' : first_number image (suc (P (suc t)).block) ≡ (P (suc t)).next + d =
      ap (λ (b : ℕ). first_number image (suc b)) bl
      ∙ (let g : first_number image (suc (P t).block) ≡ (P (suc t)).next + d = omega arith in g) in
      let r : AtEnd (suc t) = to_end d (suc t) (ap (λ (p : Pos). p.over) e) m'
      (step_case image world (suc t)) in
      let fr : suc t ≤ r.time = r.from in
      record {
        time = r.time;
        from = omega arith;
        over = r.over;
        block = r.block ∙ bl;
        wave = r.wave ∙ wv;
        at_end = r.at_end;
        results = λ k l. r.results k (omega arith)
            ∙ (ap (λ (p : Pos). p.results k) e ∙ cond-false (eqb k (P t).next) _ _
            (ne_eqb k (P t).next (λ z. omega arith)));
      }

  pub end_of : (t : ℕ) → (P t).over ≡ false → AtEnd t
  end_of t o = let h : (P t).next ≤ first_number image (suc (P t).block) =
      (place image world shape t o).high in
      to_end (first_number image (suc (P t).block) - (P t).next) t o (omega arith) (step_case image world t)

  -- the result of s comes to port q of m under the wave at hand
  merge_result_op : (o : Op) (xs : List ℕ) → o ≡ Merge → result_of_op o xs ≡ slice_index xs 0
  merge_result_op o xs e = ap (λ (o : Op). result_of_op o xs) e

  merge_plain : (k : ℕ) (xs : List ℕ) → (instr_at image k).op ≡ Merge → result_of image k xs ≡ slice_index xs
      0
  unfolding result_of
  merge_plain k xs e = merge_result_op (instr_at image k).op xs e

  merge_memory : (k : ℕ) → (instr_at image k).op ≡ Merge → is_memory image k ≡ false
  unfolding is_memory
  merge_memory k e = ap is_memory_op e

  op_advance : (k : ℕ) (o : Op) → (instr_at image k).op ≡ o → is_advance_op o ≡ false
      → is_advance image k ≡ false
  unfolding is_advance
  op_advance k o e f = ap is_advance_op e ∙ f

  pub plain_result : (t : ℕ) (x : Inst) → fires image world t ≡ Some x → is_memory image x.instr ≡ false
      → x.result ≡ result_of image x.instr x.operands
  unfolding result_at
  plain_result t x fx m = let k : Turn image world shape t x = turn_at image world shape t x fx in
      grind (arith, inst_instr, cond-false)

  pos_wave : (t w : ℕ) (x : Inst) → fires image world t ≡ Some x → is_advance image x.instr ≡ false
      → x.wave ≡ w → (P t).wave ≡ w
  pos_wave t w x fx a e = sym (inst_wave image world shape t x fx ∙ cond-false (is_advance image x.instr) _ _
      a) ∙ e

  pub carried : (b s m q : ℕ) → BringsResult image b s m q → (t : ℕ) (z : Inst) → fires image world t ≡ Some z
      → z.instr ≡ s → RightToken image world (P t).wave m q z.result
  carried b s m q (direct place d at e f) t z fz i = grind (arith, has_at, now_right)
  carried b s m q (through place d at f i' mg rest) t z fz i =
      let h : HasDest (now_dests image z.instr) d.instr d.port = has_at (now_dests image z.instr) place d
      (rw i at) in
      let r : RightToken image world (P t).wave d.instr 0 z.result =
      rw f at (now_right t d.instr d.port z fz h) in
      let mg' : (instr_at image r.inst.instr).op ≡ Merge = rw r.at.instr mg in
      let same : r.inst.result ≡ z.result = plain_result r.time r.inst r.at.fires
      (merge_memory r.inst.instr mg') ∙ merge_plain r.inst.instr r.inst.operands mg'
      ∙ nth_slice r.inst.operands 0 z.result r.operand in
      let wv : (P r.time).wave ≡ (P t).wave = pos_wave r.time (P t).wave r.inst r.at.fires
      (op_advance r.inst.instr Merge mg' refl) r.at.wave in
      let c : RightToken image world (P r.time).wave m q r.inst.result =
      carried b d.instr m q rest r.time r.inst r.at.fires r.at.instr in
      subst (λ (n : ℕ). RightToken image world (P t).wave m q n) same
      (rw wv at c)

  same_at : (t u : ℕ) (x y : Inst) → fires image world t ≡ Some x → fires image world u ≡ Some y
      → x.wave ≡ y.wave → x.instr ≡ y.instr → x ≡ y
  same_at t u x y fx fy w i = grind (arith, once)

  branch_choice : (e : Exit) (s x y : ℕ) (results : ℕ → ℕ) → e ≡ Branch s x y
      → choice_of e results ≡ results s
  branch_choice e s x y results h = ap (λ (e : Exit). choice_of e results) h

  landing_choice : (e : Exit) (s : ℕ) (ls : List ℕ) (results : ℕ → ℕ) → e ≡ Landings s ls
      → choice_of e results ≡ results s
  landing_choice e s ls results h = ap (λ (e : Exit). choice_of e results) h

  -- what the selecting operand is: the exit's number
  selects : (te t s q : ℕ) (x : Inst) → (P te).over ≡ false → first_number image (suc (P te).block)
      ≤ (P te).next → fires image world t ≡ Some x → (P t).wave ≡ (P te).wave →
      is_advance image x.instr ≡ false → IsIn image (P te).block s → BringsResult image (P te).block s x.instr
      q → slice_index x.operands q ≡ (P te).results s
  selects te t s q x o w fx wv a i c =
      let ds : Done te s = done_at te s o i.0 (grind arith) in
      let r : RightToken image world (P ds.time).wave x.instr q ds.inst.result =
      carried (P te).block s x.instr q c ds.time ds.inst ds.fires ds.instr in
      let xw : x.wave ≡ (P t).wave = inst_wave image world shape t x fx
      ∙ cond-false (is_advance image x.instr) _ _ a in
      let e : r.inst ≡ x = same_at r.time t r.inst x r.at.fires fx (r.at.wave ∙ ds.wave ∙ sym wv ∙ sym xw)
      r.at.instr in
      nth_slice x.operands q ((P te).results s) (subst (λ (n : ℕ). nth x.operands q ≡ Some n) ds.result
      (subst (λ (y : Inst). nth y.operands q ≡ Some ds.inst.result) e r.operand))

  -- a steer or a send that has destinations on an edge: the list is that of the exit's number
  agree : (te t : ℕ) (x : Inst) (o : Op) → (instr_at image x.instr).op ≡ o → (P te).over ≡ false
      → first_number image (suc (P te).block) ≤ (P te).next → fires image world t ≡ Some x
      → (P t).wave ≡ (P te).wave →
      IsIn image (P te).block x.instr → edge_of image (P te).block (selector_of o x.operands)
      (instr_at image x.instr) o ≡ edge_of image (P te).block (choice image (P te))
      (instr_at image x.instr) o
  unfolding choice
  agree te t x Steer e o w fx wv i =
      let bk : IsBlock image (P te).block = (place image world shape te o).block in
      let st = (shape.blocks (P te).block bk).hang.steers x.instr i e in
      let i' : IsIn image (P te).block st.0 = (shape.blocks (P te).block bk).exit.source st.0 st.1 st.2
      st.3 in
      let sel : slice_index x.operands 1 ≡ (P te).results st.0 = selects te t st.0 1 x o w fx wv
      (op_advance x.instr Steer e refl) i' st.4 in
      let ch : choice_of (block_at image (P te).block).exit (P te).results ≡ (P te).results st.0 =
      branch_choice (block_at image (P te).block).exit st.0 st.1 st.2 (P te).results st.3 in
      ap (λ (n : ℕ). edge_of image (P te).block n (instr_at image x.instr) Steer) (sel ∙ sym ch)
  agree te t x (Send p) e o w fx wv i =
      let bk : IsBlock image (P te).block = (place image world shape te o).block in
      let st = (shape.blocks (P te).block bk).hang.sends x.instr p i e in
      let i' : IsIn image (P te).block st.0 = (shape.blocks (P te).block bk).exit.address st.0 st.1 st.2 in
      let sel : slice_index x.operands 0 ≡ (P te).results st.0 = selects te t st.0 0 x o w fx wv
      (op_advance x.instr (Send p) e refl) i' st.3 in
      let ch : choice_of (block_at image (P te).block).exit (P te).results ≡ (P te).results st.0 =
      landing_choice (block_at image (P te).block).exit st.0 st.1 (P te).results st.2 in
      ap (λ (n : ℕ). edge_of image (P te).block n (instr_at image x.instr) (Send p)) (sel ∙ sym ch)
  agree te t x _ e o w fx wv i = refl

  branch_goes : (e : Exit) (s x y : ℕ) → e ≡ Branch s x y → is_stop e ≡ false
  branch_goes e s x y h = ap is_stop h

  landing_goes : (e : Exit) (s : ℕ) (ls : List ℕ) → e ≡ Landings s ls → is_stop e ≡ false
  landing_goes e s ls h = ap is_stop h

  -- a block with a steer or a send doesn't stop
  goes : (b k j q r : ℕ) (o : Op) → (instr_at image k).op ≡ o → IsBlock image b → IsIn image b k
      → HasDest (edge_of image b r (instr_at image k) o) j q → stops image b ≡ false
  unfolding stops
  goes b k j q r Steer e bk i h = grind (arith, shape.blocks, branch_goes)
  goes b k j q r (Send p) e bk i h = let st = (shape.blocks b bk).hang.sends k p i e in
      landing_goes (block_at image b).exit st.0 st.1 st.2
  goes b k j q r _ e bk i h = absurd h

  pub agreed : (te t : ℕ) (x : Inst) → (P te).over ≡ false → first_number image (suc (P te).block)
      ≤ (P te).next → fires image world t ≡ Some x → (P t).wave ≡ (P te).wave →
      IsIn image (P te).block x.instr → edge_dests image (block_of image x.instr)
      (selector image x.instr x.operands) x.instr ≡ edge_dests image (P te).block (choice image (P te))
      x.instr
  unfolding edge_dests selector
  agreed te t x o w fx wv i =
      let bo : block_of image x.instr ≡ (P te).block = grind (arith, block_of_is, x.instr, place) in
      grind (arith, agree)

  pub goes_on : (b k j q r : ℕ) → IsBlock image b → IsIn image b k → HasDest (edge_dests image b r k) j q
      → stops image b ≡ false
  unfolding edge_dests
  goes_on b k j q r bk i h = goes b k j q r (instr_at image k).op refl bk i h

  -- an instance stands in its block
  pub inst_in : (t : ℕ) (x : Inst) → fires image world t ≡ Some x → IsIn image (P t).block x.instr
  inst_in t x fx = let k : Turn image world shape t x = turn_at image world shape t x fx in
      grind (arith, place, inst_instr)

  -- the slot that an edge opens, where the block is left
  module _ (te k j q : ℕ) (o : (P te).over ≡ false) (w : first_number image (suc (P te).block) ≤ (P te).next)
      (i : IsIn image (P te).block k) (h : HasDest (edge_dests image (P te).block (choice image (P te)) k) j
      q) where
    st : stops image (P te).block ≡ false
    st = goes_on (P te).block k j q (choice image (P te)) (place image world shape te o).block i h

    in_size : k < first_number image (P te).block + size_of image (P te).block
    unfolding size_of
    in_size = omega arith

    edge_has : HasDest (opens_at image (P te).block (choice image (P te))) j q
    unfolding opens_at
    edge_has = grind (arith, edge_all_has, in_size)

    edge_value : with_tokens (edge_tokens image (P te).block (choice image (P te)) (P te).wave (P te).results
        (first_number image (P te).block) (size_of image (P te).block)) (P te).sent (P te).wave j q
        ≡ Some ((P te).results k)
    unfolding opens_at
    edge_value = edge_lands image (P te).block (choice image (P te)) (P te).wave (P te).results
        (first_number image (P te).block) (size_of image (P te).block) (P te).sent (slots_at image world te) k
        j q
        ((slots.ends (P te).block _ (path_end (path image world formed shape slots te o)
        (at_end image world formed shape slots te o w))).edges st (choice image (P te))) i.0 in_size h

    pub record EdgeSlot : Type 0 where
      pub over : (P (suc te)).over ≡ false
      pub slot : slots_at image world (suc te) j q ≡ true
      pub number : turn_number image (P (suc te)) j ≡ (P te).wave
      pub value : (P (suc te)).sent (P te).wave j q ≡ Some ((P te).results k)

    edge_slot' : StepCase image world te → EdgeSlot
    edge_slot' (stands a e f) = absurd (both_ways (P te).over o a)
    edge_slot' (turns a w' e f) = absurd (omega arith)
    edge_slot' (ends a w' s e f) = absurd (both_ways (stops image (P te).block) st s)
    edge_slot' (leaves a w' s e f) =
        let bl : (P (suc te)).block ≡ target image (P te).block (choice image (P te)) =
        ap (λ (p : Pos). p.block) e in
        let nx : (P (suc te)).next ≡ first_number image (target image (P te).block (choice image (P te))) =
        ap (λ (p : Pos). p.next) e in
        let wv : (P (suc te)).wave ≡ cond (is_first image (target image (P te).block (choice image (P te))))
        (suc (P te).wave) (P te).wave = ap (λ (p : Pos). p.wave) e in
        let sl : slots_at image world (suc te) j q ≡ true = ap (λ (s : OpenSlots). s j q)
        (slots_leave image world te a w')
        ∙ all_opened_has (opens_at image (P te).block (choice image (P te))) (slots_at image world te) j q
        edge_has in
        record {
          over = ap (λ (p : Pos). p.over) e;
          slot = sl;
          number = elim (cases_Bool (is_first image (target image (P te).block (choice image (P te))))) [
            | inl fst ↦ (cross_number image world formed shape slots te j q a w' s bl nx wv fst sl).1
            | inr fst ↦ same_wave_number image world formed shape slots te j a s bl nx wv fst
          ];
          value = ap (λ (p : Pos). p.sent (P te).wave j q) e ∙ edge_value;
        }

    pub edge_slot : EdgeSlot
    edge_slot = edge_slot' (step_case image world te)

    pub edge_token : RightToken image world (P te).wave j q ((P te).results k)
    edge_token = grind (arith, edge_slot, consumed)

  pub edge_right : (t j q : ℕ) (x : Inst) → fires image world t ≡ Some x
      → HasDest (edge_dests image (block_of image x.instr) (selector image x.instr x.operands) x.instr) j q
      → RightToken image world (P t).wave j q x.result
  edge_right t j q x fx h =
      let k : Turn image world shape t x = turn_at image world shape t x fx in
      let nx : (P (suc t)).next ≡ suc (P t).next = ap (λ (p : Pos). p.next) k.next in
      let bl : (P (suc t)).block ≡ (P t).block = ap (λ (p : Pos). p.block) k.next in
      let wv : (P (suc t)).wave ≡ (P t).wave = ap (λ (p : Pos). p.wave) k.next in
      let e : AtEnd (suc t) = end_of (suc t) (ap (λ (p : Pos). p.over) k.next) in
      let i : IsIn image (P e.time).block x.instr = subst (λ (b : ℕ). IsIn image b x.instr)
      (sym (e.block ∙ bl)) (inst_in t x fx) in
      let w2 : (P e.time).wave ≡ (P t).wave = e.wave ∙ wv in
      let h' : HasDest (edge_dests image (P e.time).block (choice image (P e.time)) x.instr) j q =
      subst (λ (ds : List Dest). HasDest ds j q) (agreed e.time t x e.over e.at_end fx (sym w2) i) h in
      let xn : x.instr ≡ (P t).next = inst_instr image world shape t x fx in
      let r1 : (P e.time).results x.instr ≡ (P (suc t)).results x.instr = e.results x.instr (omega arith) in
      let r2 : (P (suc t)).results x.instr ≡ result_at image (P t) = ap (λ (p : Pos). p.results x.instr)
      k.next ∙ cond-true (eqb x.instr (P t).next) _ _ (eq-eqb x.instr (P t).next xn) in
      let r3 : result_at image (P t) ≡ x.result = ap (λ (y : Inst). y.result) (sym k.inst) in
      subst (λ (n : ℕ). RightToken image world (P t).wave j q n) (r1 ∙ r2 ∙ r3)
      (subst (λ (n : ℕ). RightToken image world n j q ((P e.time).results x.instr)) w2
      (edge_token e.time x.instr j q e.over e.at_end i h'))

  -- each result token is right
  pub sent_right : (t : ℕ) (x : Inst) → fires image world t ≡ Some x → (w i p v : ℕ)
      → IsSent (sends image x.wave x.instr x.operands x.result) w i p v → RightToken image world w i p v
  unfolding sends
  sent_right t x fx w i p v h =
      elim (is_sent_append_cases (tokens_to (cond (is_advance image x.instr) (suc x.wave) x.wave) x.result
      (now_dests image x.instr)) (tokens_to (cond (is_advance image x.instr) (suc x.wave) x.wave) x.result
      (edge_dests image (block_of image x.instr) (selector image x.instr x.operands) x.instr)) w i p v h) [
        | inl g ↦ (let f = sent_from (cond (is_advance image x.instr) (suc x.wave) x.wave) x.result
            (now_dests image x.instr) w i p v g in
            back f.1 f.2 (now_right t i p x fx f.0))
        | inr g ↦ (let f = sent_from (cond (is_advance image x.instr) (suc x.wave) x.wave) x.result
            (edge_dests image (block_of image x.instr) (selector image x.instr x.operands) x.instr) w i p v
            g in
            back f.1 f.2 (edge_right t i p x fx f.0))
      ]
    where
      back : cond (is_advance image x.instr) (suc x.wave) x.wave ≡ w → x.result ≡ v
          → RightToken image world (P t).wave i p x.result → RightToken image world w i p v
      back a b r = grind (arith, sends_wave)
