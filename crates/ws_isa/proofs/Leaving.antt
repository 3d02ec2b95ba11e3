-- The code leaves a block as the walk does.
use Rattle.std.proofs.Common.{ℕ, zero, suc, ◌+◌, ◌*◌, ◌≡◌, ◌<◌, ◌≤◌, true, false, cond, List, [], ◌∷◌, length}
use Rattle.std.proofs.Common.{Option, Some, None, slice_index, refl, sym, ap, ◌∙◌, subst, inl, inr, arith}
use Rattle.std.proofs.lemmas.Bool.{cases_Bool, both_ways}
use Rattle.ws_words.specs.Outside.{World}
use Rattle.ws_isa.specs.Image.{Instr, Exit, Image, no_block, no_instr}
use Rattle.ws_isa.specs.Image.{block_at, first_number, size_of, ports, stops, target, is_first, IsBlock}
use Rattle.ws_isa.specs.Walk.{Pos, pos, mem, walk, fires, enter, choice, choice_of, with_tokens, edge_tokens}
use Rattle.ws_isa.specs.Walk.{with_inst}
use Rattle.ws_isa.specs.Operations.{fault_among}
use Rattle.ws_isa.specs.Sound.{OpenSlots, PortsThere, HasDest, Fresh, opens_at, edge_all}
use Rattle.ws_isa.specs.Open.{Walkable}
use Rattle.ws_isa.specs.Standing.{turn_number, slots_at}
use Rattle.ws_isa.specs.declared.walker.Walker.{Walker}
use Rattle.ws_isa.specs.Shows.{crossed, At}
use Rattle.ws_isa.proofs.Slots.{FromEdge, edge_all_from, all_opened_from, edge_lands}
use Rattle.ws_isa.proofs.Steps.{step_case, Place, place}
use Rattle.ws_isa.proofs.Flow.{slots_leave, path, at_end, slot_port, Stays, leave_stays, apart_edge}
use Rattle.ws_isa.proofs.Flow.{end_number, cross_number, same_wave_number}
use Rattle.ws_isa.proofs.There.{ports_there, edges_there}
use Rattle.ws_isa.proofs.Blocks.{block_is, instr_is, size_is}
use Rattle.ws_isa.proofs.Delivered.{Fits, InRow, few_ports, crossed_size, crossed_other, crossed_lands}
use Rattle.ws_isa.proofs.Along.{path_end}
use Rattle.ws_words.specs.Items.{nth, or_else}

same_choice : (exit : Exit) (f g : ℕ → ℕ) → ((j : ℕ) → f j ≡ g j) → choice_of exit f ≡ choice_of exit g
same_choice exit f g h = grind arith

-- what the code does when a block is left
pub record Leaving (image : Image) (b r : ℕ) (old new : Walker) : Type 0 where
  pub operands : new.table.operands ≡ crossed (block_at image (target image b r)).pads r
      (block_at image b).instrs (first_number image b) old.table.results old.table.operands
  pub results : new.table.results ≡ old.table.results
  pub memory : new.memory ≡ old.memory
  pub fired : new.fired ≡ old.fired
  pub fault : new.fault ≡ old.fault

-- instructions of a block, by number
pub row_of : (image : Image) (b : ℕ) → IsBlock image b → InRow image (block_at image b).instrs
    (first_number image b)
row_of image zero h i x e = absurd (omega (arith, h.0))
row_of image (suc n) h i x e =
    let l : n < length image.blocks = omega (arith, h.1) in
    let e' : nth (or_else (nth image.blocks n) no_block).instrs i ≡ Some x = rw (block_is image n) at e in
    instr_is image n i (first_number image (suc n) + i) l
    (there (or_else (nth image.blocks n) no_block).instrs i e') refl
    ∙ ap (λ (o : Option Instr). or_else o no_instr) e'
  where
    there : (xs : List Instr) (i : ℕ) → nth xs i ≡ Some x → i < length xs
    there [] i e = absurd (cc)
    there (y ∷ xs) zero e = omega arith
    there (y ∷ xs) (suc i) e = let l : i < length xs = there xs i e in omega arith

pub size_of_block : (image : Image) (b : ℕ) → IsBlock image b
    → size_of image b ≡ length (block_at image b).instrs
size_of_block image zero h = absurd (omega (arith, h.0))
size_of_block image (suc n) h = rw (block_is image n) (size_is image n (omega (arith, h.1)))

module _ (image : Image) (world : World) (ok : Walkable image) where
  abbrev P : ℕ → Pos
  P t = pos image world t

  pub record Crossing (t : ℕ) : Type 0 where
    pub to : P (suc t) ≡ enter image (target image (P t).block (choice image (P t))) (P t).wave
        (with_tokens (edge_tokens image (P t).block (choice image (P t)) (P t).wave (P t).results
        (first_number image (P t).block) (size_of image (P t).block)) (P t).sent) (P t).results
        (P t).memory
    pub silent : fires image world t ≡ None

  -- a block that does not stop is left along an edge
  pub crossing : (t : ℕ) → (P t).over ≡ false → first_number image (suc (P t).block) ≤ (P t).next
      → stops image (P t).block ≡ false → Crossing t
  crossing t o w st = grind (arith, step_case, both_ways)

  module _ (t b r : ℕ) (old new : Walker) (at : At image world t b (first_number image (suc b)) old)
      (st : stops image b ≡ false) (ch : r ≡ choice_of (block_at image b).exit
      (λ j. slice_index old.table.results j)) (h : Leaving image b r old new) where
    there : PortsThere image
    there = ports_there image ok.suited.references

    here : Place image (P t)
    here = place image world ok.shape t at.running

    over_end : first_number image (suc (P t).block) ≤ (P t).next
    over_end = rw (at.next, at.block) (omega arith)

    stay : stops image (P t).block ≡ false
    stay = rw at.block st

    cr : Crossing t
    cr = crossing t at.running over_end stay

    choice_is : choice image (P t) ≡ r
    unfolding choice
    choice_is = grind (arith, same_choice)

    target_is : target image (P t).block (choice image (P t)) ≡ target image b r
    target_is = ap (λ (x : ℕ). target image x (choice image (P t))) at.block ∙ ap (target image b) choice_is

    bl : (P (suc t)).block ≡ target image (P t).block (choice image (P t))
    bl = ap (λ (p : Pos). p.block) cr.to

    nx : (P (suc t)).next ≡ first_number image (target image (P t).block (choice image (P t)))
    nx = ap (λ (p : Pos). p.next) cr.to

    wv : (P (suc t)).wave ≡ cond (is_first image (target image (P t).block (choice image (P t))))
        (suc (P t).wave) (P t).wave
    wv = ap (λ (p : Pos). p.wave) cr.to

    number_is : (j q : ℕ) → slots_at image world (suc t) j q ≡ true → turn_number image (P (suc t)) j
        ≡ (P t).wave
    number_is j q s =
        grind (arith, cases_Bool, cross_number, there, ok.shape, over_end, stay, bl, nx, wv, same_wave_number)

    size : size_of image (P t).block ≡ length (block_at image (P t).block).instrs
    size = size_of_block image (P t).block here.block

    row : InRow image (block_at image (P t).block).instrs (first_number image (P t).block)
    row = row_of image (P t).block here.block

    edges_are : edge_all image (P t).block (choice image (P t)) (first_number image (P t).block)
        (length (block_at image (P t).block).instrs) ≡ opens_at image (P t).block (choice image (P t))
    unfolding opens_at
    edges_are = grind (arith, size)

    fits : Fits (edge_all image (P t).block (choice image (P t)) (first_number image (P t).block)
        (length (block_at image (P t).block).instrs)) (length old.table.operands)
    fits = grind (arith, edges_there, few_ports)

    operands_are : new.table.operands ≡ crossed
        (block_at image (target image (P t).block (choice image (P t)))).pads (choice image (P t))
        (block_at image (P t).block).instrs (first_number image (P t).block) old.table.results
        old.table.operands
    operands_are = grind (arith, old.table.results, choice_is)

    fresh : Fresh (opens_at image (P t).block (choice image (P t))) (slots_at image world t)
    fresh = (ok.slots.ends (P t).block _ (path_end (path image world there ok.shape ok.slots t at.running)
        (at_end image world there ok.shape ok.slots t at.running over_end))).edges stay (choice image (P t))

    landed : (j q : ℕ) → slots_at image world (suc t) j q ≡ true
        → HasDest (opens_at image (P t).block (choice image (P t))) j q
        → slice_index new.table.operands (4 * j + q) ≡ or_else
        ((P (suc t)).sent (turn_number image (P (suc t)) j) j q) 0
    unfolding opens_at
    landed j q s g =
        let f : FromEdge image (P t).block (choice image (P t)) (first_number image (P t).block)
        (size_of image (P t).block) j q = edge_all_from image (P t).block (choice image (P t))
        (first_number image (P t).block) (size_of image (P t).block) j q g in
        let e : (P (suc t)).sent (P t).wave j q ≡ Some ((P t).results f.source) =
        ap (λ (p : Pos). p.sent (P t).wave j q) cr.to
        ∙ edge_lands image (P t).block (choice image (P t)) (P t).wave (P t).results
        (first_number image (P t).block) (size_of image (P t).block) (P t).sent (slots_at image world t)
        f.source j q fresh f.low f.high f.has in
        let hi : f.source < first_number image (P t).block + length (block_at image (P t).block).instrs =
        subst (λ (n : ℕ). f.source < first_number image (P t).block + n) size f.high in
        ap (λ (xs : List ℕ). slice_index xs (4 * j + q)) operands_are
        ∙ crossed_lands image (P t).block (choice image (P t)) (block_at image (P t).block).instrs
        (first_number image (P t).block) old.table.results old.table.operands (slots_at image world t)
        f.source j q row fits
        (subst (λ (ds : List _). Fresh ds (slots_at image world t)) (sym edges_are) fresh) f.low hi f.has
        ∙ at.results f.source
        ∙ sym (ap (λ (n : ℕ). or_else ((P (suc t)).sent n j q) 0) (number_is j q s)
        ∙ ap (λ (x : Option ℕ). or_else x 0) e)

    stayed : (j q : ℕ) → slots_at image world (suc t) j q ≡ true → slots_at image world t j q ≡ true
        → slice_index new.table.operands (4 * j + q) ≡ or_else
        ((P (suc t)).sent (turn_number image (P (suc t)) j) j q) 0
    stayed j q s g =
        let sy : Stays image world there ok.shape ok.slots t j q = leave_stays image world there ok.shape
        ok.slots t j q at.running over_end stay cr.to g in
        let m : q < ports image j = slot_port image world there ok.shape ok.slots t j q at.running g in
        let f : ports image j ≤ 3 = few_ports image j in
        ap (λ (xs : List ℕ). slice_index xs (4 * j + q)) operands_are
        ∙ crossed_other image (P t).block (choice image (P t)) (block_at image (P t).block).instrs
        (first_number image (P t).block) old.table.results old.table.operands j q
        (length old.table.operands) row fits (omega arith)
        (λ x. apart_edge image world there ok.shape ok.slots t j q at.running over_end stay g
        (subst (λ (ds : List _). HasDest ds j q) edges_are x))
        ∙ at.operands j q g
        ∙ ap (λ (n : ℕ). or_else ((P t).sent n j q) 0) (end_number image world there ok.shape ok.slots t j
        over_end)
        ∙ sym (ap (λ (n : ℕ). or_else ((P (suc t)).sent n j q) 0) (number_is j q s)
        ∙ ap (λ (x : Option ℕ). or_else x 0) (sy.value (P t).wave))

    operands_next : (j q : ℕ) → slots_at image world (suc t) j q ≡ true
        → slice_index new.table.operands (4 * j + q) ≡ or_else
        ((P (suc t)).sent (turn_number image (P (suc t)) j) j q) 0
    operands_next j q s =
        elim (all_opened_from (opens_at image (P t).block (choice image (P t))) (slots_at image world t) j q
        (ap (λ (x : OpenSlots). x j q) (sym (slots_leave image world t at.running over_end)) ∙ s)) [
          | inl g ↦ stayed j q s g
          | inr g ↦ landed j q s g
        ]

    walk_next : walk image world (suc t) ≡ walk image world t
    unfolding walk
    walk_next = ap (with_inst (walk image world t)) cr.silent

    -- after an edge the code stands where the walk stands
    pub left_at : At image world (suc t) (target image b r) (first_number image (target image b r)) new
    unfolding mem
    left_at = record {
      running = ap (λ (p : Pos). p.over) cr.to;
      block = bl ∙ target_is;
      next = nx ∙ ap (first_number image) target_is;
      operands_size = ap length operands_are ∙ crossed_size image (P t).block (choice image (P t))
          (block_at image (P t).block).instrs (first_number image (P t).block) old.table.results
          old.table.operands ∙ at.operands_size;
      results_size = ap length h.results ∙ at.results_size;
      operands = operands_next;
      results = λ j. ap (λ (xs : List ℕ). slice_index xs j) h.results ∙ at.results j
          ∙ sym (ap (λ (p : Pos). p.results j) cr.to);
      outside = rw (ap (λ (p : Pos). p.memory) cr.to, h.memory) at.outside;
      fired = h.fired ∙ at.fired ∙ sym (ap length walk_next);
      fault = h.fault ∙ at.fault ∙ sym (ap (fault_among image) walk_next);
    }
