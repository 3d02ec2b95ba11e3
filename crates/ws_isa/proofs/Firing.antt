-- The code fires an instruction as the walk does.
use Rattle.std.proofs.Common.{ℕ, suc, ◌+◌, ◌*◌, ◌≡◌, ◌<◌, ◌≤◌, Bool, true, false, cond, List, [], ◌∷◌}
use Rattle.std.proofs.Common.{◌++◌, length, Option, Some, None, eqb, slice_index, slice_set, refl, sym, ap}
use Rattle.std.proofs.Common.{◌∙◌, subst, inl, inr, arith, length-append, eq-eqb, ne_eqb}
use Rattle.std.proofs.lemmas.Bool.{cases_Bool, cases_eq, both_ways, cond-true, cond-false}
use Rattle.std.proofs.lemmas.List.{get_or-set_same, get_or-set_other, length-set}
use Rattle.ws_words.specs.Outside.{Outside, World}
use Rattle.ws_isa.specs.declared.instr.Op.{Op}
use Rattle.ws_isa.specs.declared.instr.Dest.{Dest}
use Rattle.ws_isa.specs.Image.{Instr, Array, Image, flat, instr_at, first_number, ports, ports_of, is_memory}
use Rattle.ws_isa.specs.Image.{is_memory_op, is_advance, is_advance_op, is_past, is_past_op, array_at}
use Rattle.ws_isa.specs.Image.{array_of_op, result_of, result_of_op, answer, answer_op, after, after_op}
use Rattle.ws_isa.specs.Image.{now_of, now_dests}
use Rattle.ws_isa.specs.Walk.{Ports, Inst, Pos, pos, mem, walk, fires, fire, inst_at, wave_of, operands_at}
use Rattle.ws_isa.specs.Walk.{result_at, gather, with_inst}
use Rattle.ws_isa.specs.Operations.{past, fault_among}
use Rattle.ws_isa.specs.Sound.{OpenSlots, HasDest, closed, Fresh}
use Rattle.ws_isa.specs.Open.{Walkable}
use Rattle.ws_isa.specs.Standing.{turn_number, slots_at}
use Rattle.ws_isa.specs.declared.walker.Walker.{Walker}
use Rattle.ws_words.specs.declared.memory.Memory.{Memory}
use Rattle.ws_words.specs.Memory.{OutIs}
use Rattle.ws_isa.specs.Shows.{Resulted, looked, delivered, At, seen}
use Rattle.ws_isa.proofs.Slots.{all_opened_from, fresh_apart, closed_cases, with_tokens_lands}
use Rattle.ws_isa.proofs.Steps.{first_le, step_case, Place, place}
use Rattle.ws_isa.proofs.Flow.{Ahead, number_ahead, number_else, number_same, slots_turn, path, slot_port}
use Rattle.ws_isa.proofs.Flow.{ahead_open, Stays, turn_stays}
use Rattle.ws_isa.proofs.There.{ports_there, now_there}
use Rattle.ws_isa.proofs.Blocks.{number_last}
use Rattle.ws_isa.proofs.Delivered.{Fits, few_ports, delivered_size, delivered_lands, delivered_other}
use Rattle.ws_words.specs.Items.{or_else}

-- the operands that an operation reads are the same
abbrev pub Agree : Op → List ℕ → List ℕ → Type 0
Agree op xs ys = (q : ℕ) → q < ports_of op → slice_index xs q ≡ slice_index ys q

same_result : (op : Op) (xs ys : List ℕ) → Agree op xs ys → result_of_op op xs ≡ result_of_op op ys
same_result op xs ys h = grind (arith, slice_index)

same_answer : (op : Op) (xs ys : List ℕ) (o : Outside) → Agree op xs ys
    → answer_op op xs o ≡ answer_op op ys o
same_answer op xs ys o h = grind arith

same_after : (op : Op) (xs ys : List ℕ) (o : Outside) → Agree op xs ys → after_op op xs o ≡ after_op op ys o
same_after op xs ys o h = grind arith

same_past : (arrays : List Array) (op : Op) (xs ys : List ℕ) → Agree op xs ys
    → is_past_op arrays op xs ≡ is_past_op arrays op ys
same_past arrays op xs ys h = grind arith

agree_three : (op : Op) (x y z w : ℕ) → (2 < ports_of op → z ≡ w) → Agree op (x ∷ y ∷ z ∷ []) (x ∷ y ∷ w ∷ [])
agree_three op x y z w e h lt = grind arith

-- only an operation with three ports looks at a third operand
pub third_unread : (op : Op) (x y z w : ℕ) (o : Outside) (word : ℕ) (m : Memory) → (2 < ports_of op → z ≡ w)
    → Resulted op (x ∷ y ∷ z ∷ []) o word m → Resulted op (x ∷ y ∷ w ∷ []) o word m
third_unread op x y z w o word m e r =
    let same : Agree op (x ∷ y ∷ z ∷ []) (x ∷ y ∷ w ∷ []) = agree_three op x y z w e in
    let answers = same_answer op (x ∷ y ∷ z ∷ []) (x ∷ y ∷ w ∷ []) o same in
    let results = same_result op (x ∷ y ∷ z ∷ []) (x ∷ y ∷ w ∷ []) same in
    let afters = same_after op (x ∷ y ∷ z ∷ []) (x ∷ y ∷ w ∷ []) o same in
    record {
      result = r.result ∙ ap (λ n. cond (is_memory_op op) n (result_of_op op (x ∷ y ∷ z ∷ []))) answers
          ∙ ap (λ n. cond (is_memory_op op) (answer_op op (x ∷ y ∷ w ∷ []) o) n) results;
      after = subst (λ (p : Outside). OutIs (cond (is_memory_op op) p o) m) afters r.after;
    }

-- the index alone decides
past_by_index : (arrays : List Array) (op : Op) (x : ℕ) (xs : List ℕ) → is_past_op arrays op (x ∷ [])
    ≡ is_past_op arrays op (x ∷ xs)
past_by_index arrays op x xs = grind arith

pub advance_port : (op : Op) → is_advance_op op ≡ true → ports_of op ≡ 1
advance_port op e = grind arith

gather_index : (f : Ports) (w i p n q : ℕ) → q < n → slice_index (gather f w i p n) q
    ≡ or_else (f w i (p + q)) 0
gather_index f w i p (suc n) (suc q) l = let e : p + suc q ≡ suc p + q = omega arith in
    rw e (gather_index f w i (suc p) n q (omega arith))
gather_index f w i p n q l = grind arith

-- the first fault, after one instance more
abbrev pub looked_more : Option ℕ → Bool → ℕ → Option ℕ
looked_more (Some a) b n = Some a
looked_more None b n = cond b (Some n) None

fault_more : (image : Image) (xs : List Inst) (x : Inst) → fault_among image (xs ++ x ∷ []) ≡ looked_more
    (fault_among image xs) (past image x) (array_at image x.instr)
fault_more image [] x = refl
fault_more image (y ∷ xs) x = go (past image y) (fault_more image xs x)
  where
    go : (b : Bool) → fault_among image (xs ++ x ∷ []) ≡ looked_more (fault_among image xs) (past image x)
        (array_at image x.instr) →
        cond b (Some (array_at image y.instr)) (fault_among image (xs ++ x ∷ [])) ≡ looked_more
        (cond b (Some (array_at image y.instr)) (fault_among image xs)) (past image x)
        (array_at image x.instr)
    go b ih = grind arith

looked_is : (arrays : List Array) (op : Op) (xs : List ℕ) (f : Option ℕ)
    → looked arrays op xs f ≡ looked_more f (is_past_op arrays op xs) (array_of_op op)
looked_is arrays op xs f = grind arith

-- what the code does when an instruction fires
pub record Fires (arrays : List Array) (i : Instr) (k word : ℕ) (old new : Walker) : Type 0 where
  pub operands : new.table.operands ≡ delivered (now_of i.op i.dests) word old.table.operands
  pub results : new.table.results ≡ slice_set old.table.results k word
  pub outcome : (o : Outside) → OutIs o old.memory → Resulted i.op (seen old k) o word new.memory
  pub fired : new.fired ≡ suc old.fired
  pub fault : new.fault ≡ looked arrays i.op (slice_index old.table.operands (4 * k) ∷ []) old.fault

module _ (image : Image) (world : World) (ok : Walkable image) where
  abbrev P : ℕ → Pos
  P t = pos image world t

  pub record Turning (t : ℕ) : Type 0 where
    pub to : P (suc t) ≡ fire image (P t)
    pub fires : fires image world t ≡ Some (inst_at image (P t))

  -- at a step within a block an instruction fires
  pub turning : (t : ℕ) → (P t).over ≡ false → (P t).next < first_number image (suc (P t).block) → Turning t
  turning t o w = grind (arith, step_case, both_ways)

  -- the number under which the next instruction fires
  turn_wave : (t : ℕ) → (P t).next < first_number image (suc (P t).block)
      → wave_of image (P t) ≡ turn_number image (P t) (P t).next
  unfolding wave_of
  turn_wave t w = grind (arith, cases_Bool, cond-true, number_ahead, cond-false, number_else, both_ways)

  module _ (t b k word : ℕ) (i : Instr) (old new : Walker) (at : At image world t b k old)
      (l : k < first_number image (suc b)) (is : instr_at image k ≡ i)
      (h : Fires image.arrays i k word old new) where
    within : (P t).next < first_number image (suc (P t).block)
    within = rw (at.next, at.block) l

    tn : Turning t
    tn = turning t at.running within

    here : Place image (P t)
    here = place image world ok.shape t at.running

    -- the number of the instruction is one of the table's
    small : k < suc (length (flat image.blocks))
    small =
        let u : first_number image (suc (P t).block) ≤ first_number image (suc (length image.blocks)) =
        first_le image (suc (P t).block) (suc (length image.blocks))
        (let z : (P t).block ≤ length image.blocks = here.block.1 in omega arith) in
        let v : first_number image (suc (length image.blocks)) ≡ suc (length (flat image.blocks)) =
        number_last image in
        let w : (P t).next < first_number image (suc (P t).block) = within in
        let n : (P t).next ≡ k = at.next in
        omega arith

    open_here : (q : ℕ) → q < ports image k → slots_at image world t k q ≡ true
    open_here q m =
        rw (sym at.next)
        ((ok.slots.turns (P t).block (P t).next (slots_at image world t)
        (path image world (ports_there image ok.suited.references) ok.shape ok.slots t at.running)
        within).has_all q (rw at.next m))

    operand_is : (q : ℕ) → q < ports image k → slice_index (operands_at image (P t)) q ≡ slice_index
        old.table.operands (4 * k + q)
    unfolding operands_at
    operand_is q m = grind (arith, at.next, gather_index, turn_wave, within, at.operands, open_here)

    agree : Agree i.op (operands_at image (P t)) (seen old k)
    unfolding ports
    agree q m = grind (arith, few_ports, operand_is)

    outcome : Resulted i.op (seen old k) (mem image world t) word new.memory
    outcome = h.outcome (mem image world t) at.outside

    at_i : instr_at image (P t).next ≡ i
    at_i = ap (instr_at image) at.next ∙ is

    result_same : result_at image (P t) ≡ word
    unfolding result_at is_memory answer result_of mem
    result_same = grind (arith, at_i, same_answer, agree, same_result)

    memory_same : cond (is_memory image (P t).next) (after image (P t).next (operands_at image (P t))
        (P t).memory) (P t).memory ≡ cond (is_memory_op i.op) (after_op i.op (seen old k) (P t).memory)
        (P t).memory
    unfolding is_memory after
    memory_same = grind (arith, at_i, same_after, agree)

    outside_next : OutIs (mem image world (suc t)) new.memory
    unfolding mem
    outside_next = subst (λ (o : Outside). OutIs o new.memory)
        (sym (ap (λ (p : Pos). p.memory) tn.to ∙ memory_same)) outcome.after

    results_next : (j : ℕ) → slice_index new.table.results j ≡ (P (suc t)).results j
    results_next j =
        let e : (P (suc t)).results j ≡ cond (eqb j (P t).next) (result_at image (P t)) ((P t).results j) =
        ap (λ (p : Pos). p.results j) tn.to in
        ap (λ (xs : List ℕ). slice_index xs j) h.results ∙ elim (cases_eq j k) [
          | inl same ↦ ap (λ (x : ℕ). slice_index (slice_set old.table.results k word) x) same
              ∙ get_or-set_same old.table.results k word 0 (rw at.results_size small)
              ∙ sym (e ∙ cond-true (eqb j (P t).next) _ _ (eq-eqb j (P t).next (same ∙ sym at.next))
              ∙ result_same)
          | inr other ↦ get_or-set_other old.table.results k j word 0 other
              ∙ at.results j
              ∙ sym (e ∙ cond-false (eqb j (P t).next) _ _ (ne_eqb j (P t).next (λ x. other (x ∙ at.next))))
        ]

    now_is : now_of i.op i.dests ≡ now_dests image (P t).next
    unfolding now_dests
    now_is = rw at_i refl

    fits : Fits (now_dests image (P t).next) (length old.table.operands)
    fits = grind (arith, now_there, few_ports)

    -- an advance that stands ahead is no destination of this turn
    not_ahead : (j q : ℕ) → HasDest (now_dests image (P t).next) j q → Ahead image (P (suc t)) j → ⊥
    unfolding ports is_advance
    not_ahead j q g a =
        let nx : (P (suc t)).next ≡ suc (P t).next = ap (λ (p : Pos). p.next) tn.to in
        let bl : (P (suc t)).block ≡ (P t).block = ap (λ (p : Pos). p.block) tn.to in
        let lo : (P (suc t)).next ≤ j = a.low in
        let now : Ahead image (P t) j = record {
          advance = a.advance;
          low = omega arith;
          high = rw bl at a.high;
        } in
        let s : slots_at image world t j 0 ≡ true = ahead_open image world
        (ports_there image ok.suited.references) ok.shape ok.slots t j at.running now in
        let one : ports_of (instr_at image j).op ≡ 1 = advance_port (instr_at image j).op a.advance in
        let m : q < ports_of (instr_at image j).op =
        (now_there image ok.suited.references (P t).next j q g).1 in
        let z : q ≡ 0 = omega arith in
        let g0 : HasDest (now_dests image (P t).next) j 0 = rw z at g in
        let still : closed (P t).next (slots_at image world t) j 0 ≡ true =
        elim (closed_cases (P t).next (slots_at image world t) j 0)
        [ inl c ↦ absurd (let x : (P t).next ≡ j = c.0 in omega arith) | inr c ↦ c.1 ∙ s ] in
        fresh_apart (now_dests image (P t).next) (closed (P t).next (slots_at image world t)) j 0
        ((ok.slots.turns (P t).block (P t).next (slots_at image world t)
        (path image world (ports_there image ok.suited.references) ok.shape ok.slots t at.running)
        within).fresh) still g0

    number_stays : (j : ℕ) → ((P t).next ≡ j → ⊥) → turn_number image (P t) j ≡ turn_number image (P (suc t))
        j
    number_stays j n =
        let nx : (P (suc t)).next ≡ suc (P t).next = ap (λ (p : Pos). p.next) tn.to in
        let bl : (P (suc t)).block ≡ (P t).block = ap (λ (p : Pos). p.block) tn.to in
        let wv : (P t).wave ≡ (P (suc t)).wave = ap (λ (p : Pos). p.wave) (sym tn.to) in
        number_same image (P t) (P (suc t)) j wv
        (λ y. (let lo : (P t).next ≤ j = y.low in record {
          advance = y.advance;
          low = omega arith;
          high = rw bl y.high;
        }))
        (λ y. (let lo : (P (suc t)).next ≤ j = y.low in record {
          advance = y.advance;
          low = omega arith;
          high = rw bl at y.high;
        }))

    landed : (j q : ℕ) → HasDest (now_dests image (P t).next) j q → slice_index new.table.operands (4 * j + q)
        ≡ or_else ((P (suc t)).sent (turn_number image (P (suc t)) j) j q) 0
    landed j q g =
        let num : turn_number image (P (suc t)) j ≡ (P t).wave = number_else image (P (suc t)) j
        (not_ahead j q g) ∙ ap (λ (p : Pos). p.wave) tn.to in
        let s : (P (suc t)).sent (P t).wave j q ≡ Some (result_at image (P t)) =
        ap (λ (p : Pos). p.sent (P t).wave j q) tn.to ∙ with_tokens_lands (P t).wave (result_at image (P t))
        (now_dests image (P t).next) (P t).sent j q g in
        ap (λ (xs : List ℕ). slice_index xs (4 * j + q))
        (h.operands ∙ ap (λ (ds : List Dest). delivered ds word old.table.operands) now_is)
        ∙ delivered_lands (now_dests image (P t).next) word old.table.operands j q fits g
        ∙ sym (ap (λ (n : ℕ). or_else ((P (suc t)).sent n j q) 0) num ∙ ap (λ (x : Option ℕ). or_else x 0) s
        ∙ result_same)

    stayed : (j q : ℕ) → slots_at image world t j q ≡ true → closed (P t).next (slots_at image world t) j q
        ≡ true → ((P t).next ≡ j → ⊥) → slice_index new.table.operands (4 * j + q)
        ≡ or_else ((P (suc t)).sent (turn_number image (P (suc t)) j) j q) 0
    stayed j q s still n =
        let there = ports_there image ok.suited.references in
        let fr : Fresh (now_dests image (P t).next) (closed (P t).next (slots_at image world t)) =
        (ok.slots.turns (P t).block (P t).next (slots_at image world t)
        (path image world there ok.shape ok.slots t at.running) within).fresh in
        let st : Stays image world there ok.shape ok.slots t j q = turn_stays image world there ok.shape
        ok.slots t j q at.running within tn.to s n in
        let m : q < ports image j = slot_port image world there ok.shape ok.slots t j q at.running s in
        let f : ports image j ≤ 3 = few_ports image j in
        ap (λ (xs : List ℕ). slice_index xs (4 * j + q))
        (h.operands ∙ ap (λ (ds : List Dest). delivered ds word old.table.operands) now_is)
        ∙ delivered_other (now_dests image (P t).next) word old.table.operands j q (length old.table.operands)
        fits (omega arith) (fresh_apart (now_dests image (P t).next)
        (closed (P t).next (slots_at image world t)) j q fr still)
        ∙ at.operands j q s
        ∙ ap (λ (n : ℕ). or_else ((P t).sent n j q) 0) (number_stays j n)
        ∙ sym (ap (λ (x : Option ℕ). or_else x 0) (st.value (turn_number image (P (suc t)) j)))

    operands_next : (j q : ℕ) → slots_at image world (suc t) j q ≡ true
        → slice_index new.table.operands (4 * j + q) ≡ or_else
        ((P (suc t)).sent (turn_number image (P (suc t)) j) j q) 0
    operands_next j q s =
        elim (all_opened_from (now_dests image (P t).next) (closed (P t).next (slots_at image world t)) j q
        (ap (λ (x : OpenSlots). x j q) (sym (slots_turn image world t at.running within)) ∙ s)) [
          | inl g ↦ elim (closed_cases (P t).next (slots_at image world t) j q) [
            | inl c ↦ absurd (both_ways (closed (P t).next (slots_at image world t) j q) c.1 g)
            | inr c ↦ stayed j q (sym c.1 ∙ g) g c.0
          ]
          | inr g ↦ landed j q g
        ]

    walk_next : walk image world (suc t) ≡ walk image world t ++ inst_at image (P t) ∷ []
    unfolding walk
    walk_next = ap (with_inst (walk image world t)) tn.fires

    fault_next : new.fault ≡ fault_among image (walk image world (suc t))
    unfolding past is_past array_at
    fault_next =
        h.fault
        ∙ looked_is image.arrays i.op (slice_index old.table.operands (4 * k) ∷ []) old.fault
        ∙ ap (λ (x : Bool). looked_more old.fault x (array_of_op i.op))
        (past_by_index image.arrays i.op (slice_index old.table.operands (4 * k)) _
        ∙ sym (same_past image.arrays i.op (operands_at image (P t)) (seen old k) agree))
        ∙ ap (λ (j : Instr). looked_more old.fault (is_past_op image.arrays j.op (operands_at image (P t)))
        (array_of_op j.op)) (sym at_i)
        ∙ ap (λ (x : Option ℕ). looked_more x (past image (inst_at image (P t))) (array_at image (P t).next))
        at.fault
        ∙ sym (ap (fault_among image) walk_next ∙ fault_more image (walk image world t) (inst_at image (P t)))

    -- after a firing the code stands where the walk stands
    pub fired_at : At image world (suc t) b (suc k) new
    fired_at = record {
      running = ap (λ (p : Pos). p.over) tn.to;
      block = ap (λ (p : Pos). p.block) tn.to ∙ at.block;
      next = ap (λ (p : Pos). p.next) tn.to ∙ ap suc at.next;
      operands_size = ap length h.operands ∙ delivered_size (now_of i.op i.dests) word old.table.operands
          ∙ at.operands_size;
      results_size = ap length h.results ∙ length-set old.table.results k word ∙ at.results_size;
      operands = operands_next;
      results = results_next;
      outside = outside_next;
      fired = h.fired ∙ ap suc at.fired
          ∙ sym (ap length walk_next ∙ length-append (walk image world t) (inst_at image (P t) ∷ [])
          ∙ (let z : length (walk image world t) + 1 ≡ suc (length (walk image world t)) = omega arith in z));
      fault = fault_next;
    }
