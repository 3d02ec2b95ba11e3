-- The start of a walk, and of waves into which no token comes.
use Rattle.std.proofs.Common.{ℕ, zero, suc, ◌+◌, ◌*◌, ◌≡◌, ◌<◌, ◌≤◌, true, false, List, length, Option, Some}
use Rattle.std.proofs.Common.{None, slice_index, refl, sym, ap, ◌∙◌, inl, inr, arith}
use Rattle.std.proofs.lemmas.Bool.{cases_Bool, both_ways}
use Rattle.ws_words.specs.Outside.{World, zeros}
use Rattle.ws_isa.specs.Image.{Image, flat, first_number, is_first, tokens_to, start_dests, IsIn}
use Rattle.ws_isa.specs.Walk.{Pos, pos, opening, opening_memory, start_tokens, mem, walk, no_ports}
use Rattle.ws_isa.specs.Walk.{with_tokens, choice}
use Rattle.ws_isa.specs.Sound.{OpenSlots, HasDest, none_open, all_opened, AdvancesOpen}
use Rattle.ws_isa.specs.Open.{Walkable}
use Rattle.ws_isa.specs.Standing.{turn_number, slots_at}
use Rattle.ws_isa.specs.declared.walker.Walker.{Walker}
use Rattle.ws_words.specs.Memory.{OutIs}
use Rattle.ws_isa.specs.Shows.{delivered, AtStart, Final}
use Rattle.ws_isa.proofs.Slots.{all_opened_from, with_tokens_lands}
use Rattle.ws_isa.proofs.Steps.{StepCase, stands, turns, ends, leaves, step_case, place, pos_start}
use Rattle.ws_isa.proofs.Flow.{Ahead, number_ahead, slots_leave, slots_start, path, at_end}
use Rattle.ws_isa.proofs.There.{ports_there, start_there}
use Rattle.ws_isa.proofs.Delivered.{Fits, few_ports, delivered_size, delivered_lands}
use Rattle.ws_isa.proofs.Ending.{Dead, dead_is_whole, at_leaves}
use Rattle.ws_isa.proofs.Along.{along}
use Rattle.ws_words.proofs.Numbers.{zeros_count as zeros_length}
use Rattle.ws_words.specs.Items.{or_else}

pub zeros_index : (n i : ℕ) → slice_index (zeros n) i ≡ 0
zeros_index (suc n) (suc i) = zeros_index n i
zeros_index n i = grind arith

module _ (image : Image) (world : World) (ok : Walkable image) where
  abbrev P : ℕ → Pos
  P t = pos image world t

  -- at the start of the first block of a wave exactly its advances are open
  first_step : (t : ℕ) → (P (suc t)).over ≡ false → (P (suc t)).next ≡ first_number image (P (suc t)).block
      → is_first image (P (suc t)).block ≡ true → StepCase image world t
      → AdvancesOpen image (P (suc t)).block (slots_at image world (suc t))
  first_step t o n f (stands a e x) =
      absurd (both_ways true (sym a ∙ ap (λ (p : Pos). p.over) (sym e) ∙ o) refl)
  first_step t o n f (turns a l e x) =
      let nx : (P (suc t)).next ≡ suc (P t).next = ap (λ (p : Pos). p.next) e in
      let bl : first_number image (P (suc t)).block ≡ first_number image (P t).block =
      ap (λ (p : Pos). first_number image p.block) e in
      let lo : first_number image (P t).block ≤ (P t).next = (place image world ok.shape t a).low in
      absurd (omega arith)
  first_step t o n f (ends a l s e x) = absurd (both_ways true (ap (λ (p : Pos). p.over) (sym e) ∙ o) refl)
  first_step t o n f (leaves a l s e x) =
      let there = ports_there image ok.suited.references in
      let bl = ap (λ (p : Pos). p.block) e in
      let fst = ap (is_first image) (sym bl) ∙ f in
      let open_ = ok.slots.crossing (P t).block _ _ (along (path image world there ok.shape ok.slots t a)
      (at_end image world there ok.shape ok.slots t a l) s (choice image (P t))) fst in
      rw (bl, slots_leave image world t a l) open_

  first_open : (t : ℕ) → (P t).over ≡ false → (P t).next ≡ first_number image (P t).block
      → is_first image (P t).block ≡ true → AdvancesOpen image (P t).block (slots_at image world t)
  unfolding opening
  first_open zero o n f = rw (pos_start image world ok.shape, slots_start image world) ok.slots.begins
  first_open (suc t) o n f = first_step t o n f (step_case image world t)

  -- before an empty first block of a wave the walk is whole
  pub dead_final : (firings t b : ℕ) (w : Walker) → AtStart image world t b w → is_first image b ≡ true
      → first_number image (suc b) ≡ first_number image b → Final image world firings true w
  dead_final firings t b w at f e =
      let n : (P t).next ≡ first_number image (P t).block = at.next ∙ ap (first_number image)
      (sym at.block) in
      let fst : is_first image (P t).block ≡ true = ap (is_first image) at.block ∙ f in
      let size : first_number image (suc (P t).block) ≡ first_number image (P t).block =
      ap (λ (x : ℕ). first_number image (suc x)) at.block ∙ e ∙ ap (first_number image) (sym at.block) in
      let d : Dead image world ok t = record {
        next = n;
        none = λ j q. elim (cases_Bool (slots_at image world t j q)) [
          | inl y ↦ absurd (let i : IsIn image (P t).block j = ((first_open t at.running n fst j q).0 y).0 in
              let lo : first_number image (P t).block ≤ j = i.0 in
              let hi : j < first_number image (suc (P t).block) = i.1 in omega arith)
          | inr n ↦ n
        ];
      } in
      record {
        steps = t;
        leaves = at_leaves image world t b (first_number image b) w at;
        whole_is = rw at.fired (dead_is_whole image world ok t at.running d);
      }

  -- before the first step
  module _ (w : Walker) (total : ℕ) (et : total ≡ suc (length (flat image.blocks)))
      (eo : w.table.operands ≡ delivered (start_dests image) 0 (zeros (4 * total)))
      (er : w.table.results ≡ zeros total) (out : OutIs (opening_memory image world) w.memory)
      (ef : w.fired ≡ 0) (eg : w.fault ≡ None) where
    fits : Fits (start_dests image) (length (zeros (4 * total)))
    fits = grind (arith, start_there, few_ports, zeros_length)

    opened : (j q : ℕ) → slots_at image world 0 j q ≡ true → slice_index w.table.operands (4 * j + q)
        ≡ or_else ((opening image world).sent (turn_number image (opening image world) j) j q) 0
    unfolding opening start_tokens is_first
    opened j q s =
        let s' : all_opened (start_dests image) none_open j q ≡ true = ap (λ (x : OpenSlots). x j q)
        (sym (slots_start image world)) ∙ s in
        let h : HasDest (start_dests image) j q = elim (all_opened_from (start_dests image) none_open j q s')
        [ inl x ↦ absurd (both_ways true (sym x) refl) | inr x ↦ x ] in
        let a = (ok.slots.begins j q).0 s' in
        let ah : Ahead image (opening image world) j = record { advance = a.1; low = a.0.0; high = a.0.1 } in
        let num : turn_number image (opening image world) j ≡ 0 = number_ahead image (opening image world) j
        ah in
        let land : with_tokens (tokens_to 0 0 (start_dests image)) no_ports 0 j q ≡ Some 0 =
        with_tokens_lands 0 0 (start_dests image) no_ports j q h in
        ap (λ (xs : List ℕ). slice_index xs (4 * j + q)) eo
        ∙ delivered_lands (start_dests image) 0 (zeros (4 * total)) j q fits h
        ∙ sym (ap (λ (n : ℕ). or_else ((opening image world).sent n j q) 0) num
        ∙ ap (λ (x : Option ℕ). or_else x 0) land)

    -- at the start the code stands where the walk stands
    pub opened_at : AtStart image world 0 1 w
    unfolding pos mem walk opening
    opened_at = grind (arith, delivered_size, zeros_length, opened, slice_index, zeros_index)
