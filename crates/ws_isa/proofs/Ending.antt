-- How a walk ends: it is over, no token is left, or another instance would fire.
use Rattle.std.proofs.Common.{ℕ, zero, suc, ◌+◌, ◌-◌, ◌≡◌, ◌<◌, ◌≤◌, ◌⊎◌, true, false, List, [], ◌∷◌, ◌++◌}
use Rattle.std.proofs.Common.{length, Option, Some, None, refl, sym, ap, ◌∙◌, subst, inl, inr, arith}
use Rattle.std.proofs.Common.{length-append}
use Rattle.std.proofs.lemmas.Bool.{cases_Bool, cases_order, both_ways}
use Rattle.ws_words.specs.Outside.{World}
use Rattle.ws_isa.specs.declared.instr.Op.{Op}
use Rattle.ws_isa.specs.Image.{Image, instr_at, first_number, size_of, ports, ports_of, stops}
use Rattle.ws_isa.specs.Walk.{Inst, Pos, pos, mem, walk, fires, choice, with_inst, CostAtMost}
use Rattle.ws_isa.specs.Sound.{OpenSlots, HasDest, opens_at, edge_all}
use Rattle.ws_isa.specs.Open.{Walkable}
use Rattle.ws_isa.specs.Standing.{slots_at}
use Rattle.ws_isa.specs.declared.walker.Walker.{Walker}
use Rattle.ws_isa.specs.Shows.{At, AtEnd, Short, Leaves, Final}
use Rattle.ws_isa.proofs.Slots.{all_opened_from}
use Rattle.ws_isa.proofs.Steps.{StepCase, stands, turns, ends, leaves, step_case}
use Rattle.ws_isa.proofs.Flow.{slots_leave, path}
use Rattle.ws_isa.proofs.There.{ports_there}
use Rattle.ws_isa.proofs.Firing.{turning}

some_port : (op : Op) → 1 ≤ ports_of op
some_port op = grind arith

ports_some : (image : Image) (k : ℕ) → 1 ≤ ports image k
unfolding ports
ports_some image k = some_port (instr_at image k).op

module _ (image : Image) (world : World) where
  pub walk_silent : (t : ℕ) → fires image world t ≡ None → walk image world (suc t) ≡ walk image world t
  unfolding walk
  walk_silent t e = ap (with_inst (walk image world t)) e

  longer : (xs : List Inst) (o : Option Inst) → length xs ≤ length (with_inst xs o)
  longer xs o = grind (arith, length-append)

  pub walk_grows : (t : ℕ) → length (walk image world t) ≤ length (walk image world (suc t))
  unfolding walk
  walk_grows t = longer (walk image world t) (fires image world t)

  pub walk_up : (d t : ℕ) → length (walk image world t) ≤ length (walk image world (d + t))
  walk_up zero t = let e : 0 + t ≡ t = omega arith in rw e (omega arith)
  walk_up (suc d) t = grind (arith, walk_grows, walk_up d t)

  -- where nothing fires from step t on, the walk has no more instances
  pub quiet_from : (t : ℕ) → ((d : ℕ) → walk image world (d + t) ≡ walk image world t)
      → CostAtMost image world (length (walk image world t))
  quiet_from t h u = elim (cases_order u t) [
    | inl e ↦ rw e (omega arith)
    | inr o ↦ elim o [
      | inl l ↦ (let a : length (walk image world u) ≤ length (walk image world ((t - u) + u)) =
          walk_up (t - u) u in
          let e : (t - u) + u ≡ t = omega arith in
          subst (λ (n : ℕ). length (walk image world u) ≤ length (walk image world n)) e a)
      | inr l ↦ (let a : walk image world ((u - t) + t) ≡ walk image world t = h (u - t) in
          let e : (u - t) + t ≡ u = omega arith in
          let f : length (walk image world u) ≡ length (walk image world t) =
          ap (λ (n : ℕ). length (walk image world n)) (sym e) ∙ ap length a in omega arith)
    ]
  ]

  over_step : (t : ℕ) → (pos image world t).over ≡ true → StepCase image world t
      → ((pos image world (suc t)).over ≡ true) × (walk image world (suc t) ≡ walk image world t)
  over_step t o h = grind (arith, walk_silent, both_ways)

  over_stays : (t : ℕ) → (pos image world t).over ≡ true → (d : ℕ) → ((pos image world (d + t)).over ≡ true)
      × (walk image world (d + t) ≡ walk image world t)
  over_stays t o zero = let e : 0 + t ≡ t = omega arith in rw e (o, refl)
  over_stays t o (suc d) =
      let e : suc d + t ≡ suc (d + t) = omega arith in
      let h = over_stays t o d in
      let s = over_step (d + t) h.0 (step_case image world (d + t)) in
      rw e (s.0, s.1 ∙ h.1)

  -- a walk that is over is whole
  pub over_is_whole : (t : ℕ) → (pos image world t).over ≡ true
      → CostAtMost image world (length (walk image world t))
  over_is_whole t o = quiet_from t (λ d. (over_stays t o d).1)

  -- what an ended walk leaves
  ended_step : (t : ℕ) → (pos image world t).over ≡ false → first_number image (suc (pos image world t).block)
      ≤ (pos image world t).next → stops image (pos image world t).block ≡ true → StepCase image world t →
      (pos image world (suc t) ≡ record (pos image world t) { over = true }) × (fires image world t ≡ None)
  ended_step t o w s h = grind (arith, both_ways)

  -- a block that stops ends the walk
  pub stopped : (t b : ℕ) (w : Walker) → AtEnd image world t b w → stops image b ≡ true
      → (u : ℕ) × ((pos image world u).over ≡ true) × Leaves image world u w
  unfolding mem
  stopped t b w at s = grind (arith, at.block, ended_step, step_case, walk_silent)

  -- what the code holds is what the walk leaves
  pub at_leaves : (t b k : ℕ) (w : Walker) → At image world t b k w → Leaves image world t w
  at_leaves t b k w at = record { outside = at.outside; fired = at.fired; fault = at.fault }

  -- a walk that is over is the whole answer
  pub over_final : (firings t : ℕ) (w : Walker) → (pos image world t).over ≡ true → Leaves image world t w
      → Final image world firings true w
  over_final firings t w o l = record { steps = t; leaves = l; whole_is = rw l.fired (over_is_whole t o) }

  module _ (ok : Walkable image) where
    more : (b firings : ℕ) (w : Walker) (s : Short image world b firings w) → CostAtMost image world firings
        → (x : Inst) → fires image world s.steps ≡ Some x → ⊥
    unfolding walk
    more b firings w s cost x e =
        let n : length (walk image world (suc s.steps)) ≤ firings = cost (suc s.steps) in
        let y : walk image world (suc s.steps) ≡ walk image world s.steps ++ x ∷ [] =
        ap (with_inst (walk image world s.steps)) e in
        let z : length (walk image world (suc s.steps)) ≡ length (walk image world s.steps) + 1 =
        ap length y ∙ length-append (walk image world s.steps) (x ∷ []) in
        let f : w.fired ≡ length (walk image world s.steps) = s.at.fired in
        let g : w.fired ≡ firings = s.spent in
        omega arith

    -- where no firing is left before an instruction, the walk is cut
    pub short_final : (b firings : ℕ) (w : Walker) → Short image world b firings w
        → Final image world firings false w
    short_final b firings w s =
        let within : (pos image world s.steps).next < first_number image
        (suc (pos image world s.steps).block) = rw (s.at.next, s.at.block) s.within in
        let tn = turning image world ok s.steps s.at.running within in
        record {
          steps = s.steps;
          leaves = at_leaves s.steps b s.instr w s.at;
          whole_is = (s.spent, λ cost. more b firings w s cost _ tn.fires);
        }

    -- no slot is open before the first instruction of a block
    pub record Dead (t : ℕ) : Type 0 where
      pub next : (pos image world t).next ≡ first_number image (pos image world t).block
      pub none : (j q : ℕ) → slots_at image world t j q ≡ false

    dead_step : (t : ℕ) → (pos image world t).over ≡ false → Dead t → StepCase image world t
        → (((pos image world (suc t)).over ≡ true) ⊎ (((pos image world (suc t)).over ≡ false)
        × Dead (suc t))) × (walk image world (suc t) ≡ walk image world t)
    unfolding opens_at size_of
    dead_step t o d (stands a e f) = absurd (both_ways (pos image world t).over o a)
    dead_step t o d (turns a l e f) =
        absurd (both_ways (slots_at image world t (pos image world t).next 0)
        (d.none (pos image world t).next 0)
        ((ok.slots.turns (pos image world t).block (pos image world t).next (slots_at image world t)
        (path image world (ports_there image ok.suited.references) ok.shape ok.slots t a) l).has_all 0
        (ports_some image (pos image world t).next)))
    dead_step t o d (ends a l s e f) = (inl (ap (λ (p : Pos). p.over) e), walk_silent t f)
    dead_step t o d (leaves a l s e f) = (
      inr (
        ap (λ (p : Pos). p.over) e,
        record {
          next = ap (λ (p : Pos). p.next) e ∙ ap (first_number image) (sym (ap (λ (p : Pos). p.block) e));
          none = λ j q. elim (cases_Bool (slots_at image world (suc t) j q)) [
            | inl y ↦
                absurd (nothing j q
                (all_opened_from (opens_at image (pos image world t).block (choice image (pos image world t)))
                (slots_at image world t) j q
                (ap (λ (x : OpenSlots). x j q) (sym (slots_leave image world t a l)) ∙ y)))
            | inr n ↦ n
          ];
        },
      ),
      walk_silent t f,
    )
      where
        empty : (n : ℕ) → n ≡ 0 → (k j q : ℕ)
            → HasDest (edge_all image (pos image world t).block (choice image (pos image world t)) k n) j q
            → ⊥
        empty zero e k j q h = h
        empty (suc n) e k j q h = absurd (omega arith)

        none_sent : (j q : ℕ)
            → HasDest (opens_at image (pos image world t).block (choice image (pos image world t))) j q → ⊥
        none_sent j q h =
            let n : (pos image world t).next ≡ first_number image (pos image world t).block = d.next in
            empty (first_number image (suc (pos image world t).block) - first_number image
            (pos image world t).block) (omega arith) (first_number image (pos image world t).block) j q h

        nothing : (j q : ℕ) → (slots_at image world t j q ≡ true) ⊎ HasDest
            (opens_at image (pos image world t).block (choice image (pos image world t))) j q → ⊥
        nothing j q (inl h) = both_ways (slots_at image world t j q) (d.none j q) h
        nothing j q (inr h) = none_sent j q h

    dead_on : (t : ℕ) → (pos image world t).over ≡ false → Dead t → (d : ℕ)
        → (((pos image world (d + t)).over ≡ true) ⊎ (((pos image world (d + t)).over ≡ false)
        × Dead (d + t))) × (walk image world (d + t) ≡ walk image world t)
    dead_on t o x zero = let e : 0 + t ≡ t = omega arith in rw e (inr (o, x), refl)
    dead_on t o x (suc d) =
        let e : suc d + t ≡ suc (d + t) = omega arith in
        rw e (go (dead_on t o x d))
      where
        go : (((pos image world (d + t)).over ≡ true) ⊎ (((pos image world (d + t)).over ≡ false)
            × Dead (d + t))) × (walk image world (d + t) ≡ walk image world t) →
            (((pos image world (suc (d + t))).over ≡ true) ⊎ (((pos image world (suc (d + t))).over ≡ false)
            × Dead (suc (d + t)))) × (walk image world (suc (d + t)) ≡ walk image world t)
        go (inl h, w) = let s = over_step (d + t) h (step_case image world (d + t)) in (inl s.0, s.1 ∙ w)
        go (inr h, w) = let s = dead_step (d + t) h.0 h.1 (step_case image world (d + t)) in (s.0, s.1 ∙ w)

    -- where no token comes the walk is whole
    pub dead_is_whole : (t : ℕ) → (pos image world t).over ≡ false → Dead t
        → CostAtMost image world (length (walk image world t))
    dead_is_whole t o x = quiet_from t (λ d. (dead_on t o x d).1)

-- it never gets shorter
pub goes_up : (image : Image) (world : World) (t u : ℕ) → t ≤ u → length (walk image world t)
    ≤ length (walk image world u)
goes_up image world t u l = let e : (u - t) + t ≡ u = omega arith in
    subst (λ (n : ℕ). length (walk image world t) ≤ length (walk image world n)) e
    (walk_up image world (u - t) t)
