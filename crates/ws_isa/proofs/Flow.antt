-- The slots that are open along the walk, and that each open slot's value is consumed.
use Rattle.std.proofs.Common.{ℕ, zero, suc, ◌-◌, ◌≡◌, ◌<◌, ◌≤◌, ◌⊎◌, true, false, cond, Some, refl}
use Rattle.std.proofs.Common.{sym, ap, ◌∙◌, inl, inr, arith}
use Rattle.std.proofs.lemmas.Bool.{cases_Bool, cases_lt, both_ways, cond-true, cond-false, lt-ltb, le-ltb}
use Rattle.ws_words.specs.Outside.{World}
use Rattle.ws_isa.specs.Image.{Image, ports, is_advance, first_number, size_of, stops, target, is_first}
use Rattle.ws_isa.specs.Image.{now_dests, start_dests, IsIn, IsBlock}
use Rattle.ws_isa.specs.Walk.{Pos, pos, opening, enter, fire, choice, with_tokens, edge_tokens}
use Rattle.ws_isa.specs.Sound.{OpenSlots, none_open, all_opened, closed, opens_at, HasDest, PortsThere, Opens}
use Rattle.ws_isa.specs.Sound.{begin, turn, edge, ShapeRules, SlotRules}
use Rattle.ws_isa.specs.Standing.{turn_number, slots_at}
use Rattle.ws_isa.proofs.Slots.{all_opened_keeps, all_opened_from, fresh_apart, with_tokens_other}
use Rattle.ws_isa.proofs.Slots.{edge_all_from, edge_other, closed_cases}
use Rattle.ws_isa.proofs.Steps.{StepCase, stands, turns, ends, leaves, step_case, place, pos_start}
use Rattle.ws_isa.proofs.Along.{path_end, along}

-- an advance that hasn't fired yet in this block
pub record Ahead (image : Image) (p : Pos) (j : ℕ) : Type 0 where
  pub advance : is_advance image j ≡ true
  pub low : p.next ≤ j
  pub high : j < first_number image (suc p.block)

pub number_cases : (image : Image) (p : Pos) (j : ℕ)
    → (Ahead image p j × (turn_number image p j ≡ p.wave - 1))
    ⊎ ((Ahead image p j → ⊥) × (turn_number image p j ≡ p.wave))
unfolding turn_number
number_cases image p j = grind (arith, cases_Bool, cases_lt, lt-ltb, p.next, both_ways, le-ltb)

-- an advance that stands ahead has the number before
pub number_ahead : (image : Image) (p : Pos) (j : ℕ) → Ahead image p j → turn_number image p j ≡ p.wave - 1
number_ahead image p j a = elim (number_cases image p j) [ inl h ↦ h.1 | inr h ↦ absurd (h.0 a) ]

-- all others have the number of the wave
pub number_else : (image : Image) (p : Pos) (j : ℕ) → (Ahead image p j → ⊥) → turn_number image p j ≡ p.wave
number_else image p j a = elim (number_cases image p j) [ inl h ↦ absurd (a h.0) | inr h ↦ h.1 ]

-- two positions at which j is ahead alike
pub number_same : (image : Image) (p q : Pos) (j : ℕ) → p.wave ≡ q.wave → (Ahead image p j → Ahead image q j)
    → (Ahead image q j → Ahead image p j) → turn_number image p j ≡ turn_number image q j
number_same image p q j w f g = grind (arith, number_cases, number_ahead, number_else)

module _ (image : Image) (world : World) where
  abbrev P : ℕ → Pos
  P t = pos image world t

  -- the slots after a firing
  pub slots_turn : (t : ℕ) → (P t).over ≡ false → (P t).next < first_number image (suc (P t).block)
      → slots_at image world (suc t) ≡ all_opened (now_dests image (P t).next)
      (closed (P t).next (slots_at image world t))
  unfolding slots_at
  slots_turn t a w = grind (arith, cond-false, cond-true, lt-ltb)

  -- the slots after an edge
  pub slots_leave : (t : ℕ) → (P t).over ≡ false → first_number image (suc (P t).block) ≤ (P t).next
      → slots_at image world (suc t) ≡ all_opened (opens_at image (P t).block (choice image (P t)))
      (slots_at image world t)
  unfolding slots_at
  slots_leave t a w = grind (arith, cond-false, le-ltb)

  -- the slots at the start
  pub slots_start : slots_at image world zero ≡ all_opened (start_dests image) none_open
  unfolding slots_at
  slots_start = refl

  module _ (there : PortsThere image) (shape : ShapeRules image) (slots : SlotRules image) where
    -- a block that is left has fired whole
    pub at_end : (t : ℕ) → (P t).over ≡ false → first_number image (suc (P t).block) ≤ (P t).next
        → (P t).next ≡ first_number image (suc (P t).block)
    at_end t a w = grind (arith, place)

    -- the walk's path
    path_step : (t : ℕ) → (P (suc t)).over ≡ false → StepCase image world t
        → ((P t).over ≡ false → Opens image (P t).block (P t).next (slots_at image world t))
        → Opens image (P (suc t)).block (P (suc t)).next (slots_at image world (suc t))
    path_step t o (stands a e f) ih =
        absurd (both_ways true (sym a ∙ ap (λ (p : Pos). p.over) (sym e) ∙ o) refl)
    path_step t o (turns a w e f) ih = rw (slots_turn t a w, e) (turn (ih a) w)
    path_step t o (ends a w s e f) ih = absurd (both_ways true (ap (λ (p : Pos). p.over) (sym e) ∙ o) refl)
    path_step t o (leaves a w s e f) ih =
        rw (slots_leave t a w, e) (edge (ih a) (at_end t a w) s (choice image (P t)))

    path_start : Opens image (P zero).block (P zero).next (slots_at image world zero)
    unfolding opening
    path_start = rw (slots_start, pos_start image world shape) begin

    -- the walk is a path, and its slots are the open ones of that path
    pub path : (t : ℕ) → (P t).over ≡ false → Opens image (P t).block (P t).next (slots_at image world t)
    path zero o = path_start
    path (suc t) o = path_step t o (step_case image world t) (λ h. path t h)

    -- an open slot is a port that is there
    edge_port : (b r j q : ℕ) → HasDest (opens_at image b r) j q → q < ports image j
    unfolding opens_at
    edge_port b r j q g = grind (arith, edge_all_from, there.edge)

    port_step : (t j q : ℕ) → (P (suc t)).over ≡ false → StepCase image world t
        → ((P t).over ≡ false → slots_at image world t j q ≡ true → q < ports image j)
        → slots_at image world (suc t) j q ≡ true → q < ports image j
    port_step t j q o (stands a e f) ih h =
        absurd (both_ways true (sym a ∙ ap (λ (p : Pos). p.over) (sym e) ∙ o) refl)
    port_step t j q o (turns a w e f) ih h =
        elim (all_opened_from (now_dests image (P t).next) (closed (P t).next (slots_at image world t)) j q
        (ap (λ (s : OpenSlots). s j q) (sym (slots_turn t a w)) ∙ h)) [
          | inl g ↦ elim (closed_cases (P t).next (slots_at image world t) j q) [
            | inl c ↦ absurd (both_ways (closed (P t).next (slots_at image world t) j q) c.1 g)
            | inr c ↦ ih a (sym c.1 ∙ g)
          ]
          | inr g ↦ there.now (P t).next j q g
        ]
    port_step t j q o (ends a w s e f) ih h =
        absurd (both_ways true (ap (λ (p : Pos). p.over) (sym e) ∙ o) refl)
    port_step t j q o (leaves a w s e f) ih h =
        elim (all_opened_from (opens_at image (P t).block (choice image (P t))) (slots_at image world t) j q
        (ap (λ (s : OpenSlots). s j q) (sym (slots_leave t a w)) ∙ h)) [
          | inl g ↦ ih a g
          | inr g ↦ edge_port (P t).block (choice image (P t)) j q g
        ]

    -- an open slot is a port
    pub slot_port : (t j q : ℕ) → (P t).over ≡ false → slots_at image world t j q ≡ true → q < ports image j
    slot_port zero j q o h =
        elim (all_opened_from (start_dests image) none_open j q
        (ap (λ (s : OpenSlots). s j q) (sym slots_start) ∙ h)) [
          | inl g ↦ absurd (both_ways true (sym g) refl)
          | inr g ↦ there.start j q g
        ]
    slot_port (suc t) j q o h = port_step t j q o (step_case image world t) (λ a k. slot_port t j q a k) h

    -- the slots of the advances ahead are open
    ahead_step : (t j : ℕ) → (P (suc t)).over ≡ false → StepCase image world t
        → ((P t).over ≡ false → Ahead image (P t) j → slots_at image world t j 0 ≡ true)
        → Ahead image (P (suc t)) j → slots_at image world (suc t) j 0 ≡ true
    ahead_step t j o (stands a e f) ih h =
        absurd (both_ways true (sym a ∙ ap (λ (p : Pos). p.over) (sym e) ∙ o) refl)
    ahead_step t j o (turns a w e f) ih h =
        let h' : Ahead image (fire image (P t)) j = rw e at h in
        let l : suc (P t).next ≤ j = h'.low in
        let op : slots_at image world t j 0 ≡ true =
        ih a (record { advance = h'.advance; low = omega arith; high = h'.high }) in
        rw (slots_turn t a w) (all_opened_keeps (now_dests image (P t).next)
        (closed (P t).next (slots_at image world t)) j 0
        (elim (closed_cases (P t).next (slots_at image world t) j 0) [
          | inl c ↦
              absurd (let x : (P t).next ≡ j = c.0 in omega arith)
          | inr c ↦ c.1 ∙ op
        ]))
    ahead_step t j o (ends a w s e f) ih h =
        absurd (both_ways true (ap (λ (p : Pos). p.over) (sym e) ∙ o) refl)
    ahead_step t j o (leaves a w s e f) ih h =
        let c : ℕ = target image (P t).block (choice image (P t)) in
        let b : (P (suc t)).block ≡ target image (P t).block (choice image (P t)) =
        ap (λ (p : Pos). p.block) e in
        let n : (P (suc t)).next ≡ first_number image (target image (P t).block (choice image (P t))) =
        ap (λ (p : Pos). p.next) e in
        let i : IsIn image (target image (P t).block (choice image (P t))) j =
        (rw n at h.low, rw b at h.high) in
        let k : IsBlock image (target image (P t).block (choice image (P t))) =
        (shape.blocks (P t).block (place image world shape t a).block).edges.there (choice image (P t))
        s in
        let fst : is_first image (target image (P t).block (choice image (P t))) ≡ true =
        (shape.blocks (target image (P t).block (choice image (P t))) k).front.advances j i h.advance in
        rw (slots_leave t a w)
        ((slots.crossing (P t).block _ _ (along (path t a) (at_end t a w) s (choice image (P t))) fst j
        0).1 (i, h.advance, refl))

    ahead_start : (j : ℕ) → Ahead image (P zero) j → slots_at image world zero j 0 ≡ true
    unfolding opening
    ahead_start j h =
        let h' : Ahead image (opening image world) j = rw (pos_start image world shape) at h in
        rw slots_start ((slots.begins j 0).1 ((h'.low, h'.high), h'.advance, refl))

    -- the slot of an advance that stands ahead is open
    pub ahead_open : (t j : ℕ) → (P t).over ≡ false → Ahead image (P t) j → slots_at image world t j 0 ≡ true
    ahead_open zero j o h = ahead_start j h
    ahead_open (suc t) j o h = ahead_step t j o (step_case image world t) (λ a k. ahead_open t j a k) h

    -- an open slot stays open, with its value, while another instruction fires
    pub record Stays (t j q : ℕ) : Type 0 where
      pub slot : slots_at image world (suc t) j q ≡ true
      pub value : (a : ℕ) → (P (suc t)).sent a j q ≡ (P t).sent a j q

    -- a value at an open slot stays at a firing
    pub turn_stays : (t j q : ℕ) → (P t).over ≡ false → (P t).next < first_number image (suc (P t).block)
        → P (suc t) ≡ fire image (P t) → slots_at image world t j q ≡ true → ((P t).next ≡ j → ⊥)
        → Stays t j q
    turn_stays t j q a w e h n =
        let still : closed (P t).next (slots_at image world t) j q ≡ true =
        elim (closed_cases (P t).next (slots_at image world t) j q) [
          | inl c ↦ absurd (n c.0)
          | inr c ↦
              c.1 ∙ h
        ] in
        record {
          slot = ap (λ (s : OpenSlots). s j q) (slots_turn t a w) ∙ all_opened_keeps
              (now_dests image (P t).next) (closed (P t).next (slots_at image world t)) j q still;
          value = λ b. ap (λ (p : Pos). p.sent b j q) e ∙ with_tokens_other (P t).wave _
              (now_dests image (P t).next) (P t).sent b j q
              (fresh_apart (now_dests image (P t).next) (closed (P t).next (slots_at image world t)) j q
              ((slots.turns (P t).block (P t).next (slots_at image world t) (path t a) w).fresh) still);
        }

    -- what is open on an edge is none of what the edge opens
    pub apart_edge : (t j q : ℕ) → (P t).over ≡ false → first_number image (suc (P t).block) ≤ (P t).next
        → stops image (P t).block ≡ false → slots_at image world t j q ≡ true
        → HasDest (opens_at image (P t).block (choice image (P t))) j q → ⊥
    apart_edge t j q a w s h = fresh_apart (opens_at image (P t).block (choice image (P t)))
        (slots_at image world t) j q
        ((slots.ends (P t).block _ (path_end (path t a) (at_end t a w))).edges s (choice image (P t))) h

    -- and while the block is left
    pub leave_stays : (t j q : ℕ) (a : (P t).over ≡ false) (w : first_number image (suc (P t).block)
        ≤ (P t).next) (s : stops image (P t).block ≡ false) →
        P (suc t) ≡ enter image (target image (P t).block (choice image (P t))) (P t).wave
        (with_tokens (edge_tokens image (P t).block (choice image (P t)) (P t).wave (P t).results
        (first_number image (P t).block) (size_of image (P t).block)) (P t).sent) (P t).results
        (P t).memory →
        slots_at image world t j q ≡ true → Stays t j q
    unfolding opens_at
    leave_stays t j q a w s e h = record {
      slot = ap (λ (x : OpenSlots). x j q) (slots_leave t a w) ∙ all_opened_keeps
          (opens_at image (P t).block (choice image (P t))) (slots_at image world t) j q h;
      value = λ b. ap (λ (p : Pos). p.sent b j q) e ∙ edge_other image (P t).block (choice image (P t))
          (P t).wave (P t).results (first_number image (P t).block) (size_of image (P t).block) (P t).sent b j
          q (apart_edge t j q a w s h);
    }

    -- where instruction j is not the one that fires, the slot is as good afterwards
    pub turn_on : (t j q v : ℕ) → (P t).over ≡ false → (P t).next < first_number image (suc (P t).block)
        → P (suc t) ≡ fire image (P t) → ((P t).next ≡ j → ⊥) →
        slots_at image world t j q ≡ true → (P t).sent (turn_number image (P t) j) j q ≡ Some v →
        (turn_number image (P t) j ≡ turn_number image (P (suc t)) j)
        × (slots_at image world (suc t) j q ≡ true)
        × ((P (suc t)).sent (turn_number image (P (suc t)) j) j q ≡ Some v)
    turn_on t j q v a w e n s x =
        let st : Stays t j q = turn_stays t j q a w e s n in
        let nx : (P (suc t)).next ≡ suc (P t).next = ap (λ (p : Pos). p.next) e in
        let bl : (P (suc t)).block ≡ (P t).block = ap (λ (p : Pos). p.block) e in
        let wv : (P t).wave ≡ (P (suc t)).wave = ap (λ (p : Pos). p.wave) (sym e) in
        let num : turn_number image (P t) j ≡ turn_number image (P (suc t)) j =
        number_same image (P t) (P (suc t)) j wv
        (λ y. (let l : (P t).next ≤ j = y.low in record {
          advance = y.advance;
          low = omega arith;
          high = rw bl y.high;
        }))
        (λ y. (let l : (P (suc t)).next ≤ j = y.low in record {
          advance = y.advance;
          low = omega arith;
          high = rw bl at y.high;
        })) in
        (num, st.slot, st.value (turn_number image (P (suc t)) j) ∙ (rw num at x))

    -- at a block's end no advance is ahead
    pub end_number : (t j : ℕ) → first_number image (suc (P t).block) ≤ (P t).next
        → turn_number image (P t) j ≡ (P t).wave
    end_number t j w = grind (arith, number_else)

    -- at the first block of a wave
    pub cross_number : (t j q : ℕ) → (P t).over ≡ false → first_number image (suc (P t).block) ≤ (P t).next
        → stops image (P t).block ≡ false →
        (P (suc t)).block ≡ target image (P t).block (choice image (P t))
        → (P (suc t)).next ≡ first_number image (target image (P t).block (choice image (P t))) →
        (P (suc t)).wave ≡ cond (is_first image (target image (P t).block (choice image (P t))))
        (suc (P t).wave) (P t).wave →
        is_first image (target image (P t).block (choice image (P t))) ≡ true
        → slots_at image world (suc t) j q ≡ true → Ahead image (P (suc t)) j
        × (turn_number image (P (suc t)) j ≡ (P t).wave)
    cross_number t j q a w st bl nx wv fst s =
        let c = (slots.crossing (P t).block _ _ (along (path t a) (at_end t a w) st (choice image (P t))) fst
        j q).0 (ap (λ (x : OpenSlots). x j q) (sym (slots_leave t a w)) ∙ s) in
        let ah : Ahead image (P (suc t)) j = record {
          advance = c.1;
          low = rw nx c.0.0;
          high = rw bl c.0.1;
        } in
        let wv' : (P (suc t)).wave ≡ suc (P t).wave =
        wv ∙ cond-true (is_first image (target image (P t).block (choice image (P t)))) _ _ fst in (
          ah,
          number_ahead image (P (suc t)) j ah ∙ (let g : (P (suc t)).wave - 1 ≡ (P t).wave = omega arith in
              g),
        )

    -- inside a wave the number stays
    pub same_wave_number : (t j : ℕ) → (P t).over ≡ false → stops image (P t).block ≡ false →
        (P (suc t)).block ≡ target image (P t).block (choice image (P t))
        → (P (suc t)).next ≡ first_number image (target image (P t).block (choice image (P t))) →
        (P (suc t)).wave ≡ cond (is_first image (target image (P t).block (choice image (P t))))
        (suc (P t).wave) (P t).wave →
        is_first image (target image (P t).block (choice image (P t))) ≡ false
        → turn_number image (P (suc t)) j ≡ (P t).wave
    same_wave_number t j a st bl nx wv fst =
        let wv' : (P (suc t)).wave ≡ (P t).wave =
        wv ∙ cond-false (is_first image (target image (P t).block (choice image (P t)))) _ _ fst in
        let k : IsBlock image (target image (P t).block (choice image (P t))) =
        (shape.blocks (P t).block (place image world shape t a).block).edges.there (choice image (P t))
        st in
        number_else image (P (suc t)) j
        (λ y. both_ways (is_first image (target image (P t).block (choice image (P t)))) fst
        ((shape.blocks (target image (P t).block (choice image (P t))) k).front.advances j
        (rw nx at y.low, rw bl at y.high) y.advance)) ∙ wv'
