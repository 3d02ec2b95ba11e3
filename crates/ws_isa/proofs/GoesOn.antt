-- Laws of a walk: it goes on, its acts grow, its wave numbers never fall, and loads have no effect.
use Rattle.std.proofs.Common.{ℕ, zero, suc, ◌+◌, ◌≡◌, ◌≤◌, Bool, true, false, List, [], ◌∷◌, ◌++◌, Option}
use Rattle.std.proofs.Common.{Some, None, refl, sym, ap, ◌∙◌, arith, append_assoc}
use Rattle.std.proofs.lemmas.Bool.{cond-true, cond-false}
use Rattle.std.proofs.lemmas.List.{append-nil}
use Rattle.ws_words.specs.Outside.{Act, loads, stores, reads, prints, gives, takes, Outside, World}
use Rattle.ws_isa.specs.declared.instr.Op.{Op}
use Rattle.ws_isa.specs.declared.instr.Op.TheVariants.{Const, Alu, Merge, Advance, Steer, Phi, Send, Load}
use Rattle.ws_isa.specs.declared.instr.Op.TheVariants.{Store, Input, Output, Give, Take, Nop, Halt}
use Rattle.ws_isa.specs.Image.{Image, is_memory, is_load_op, answer_op, after, after_op}
use Rattle.ws_isa.specs.Formed.{Formed}
use Rattle.ws_isa.specs.Walk.{Inst, Pos, pos, mem, walk, fires, fire, with_inst}
use Rattle.ws_isa.specs.Operations.{without_loads, effect_of}
use Rattle.ws_isa.specs.Sound.{PortsThere, ShapeRules, Sound}
use Rattle.ws_isa.specs.Open.{Walkable}
use Rattle.ws_isa.proofs.Steps.{StepCase, stands, turns, ends, leaves, step_case, later_step, running}
use Rattle.ws_isa.proofs.There.{ports_there}

-- in a formed image destinations are ports
pub formed_there : (image : Image) → Formed image → PortsThere image
formed_there image f = ports_there image f.suited.references

-- a formed and sound image can be walked
pub sound_walks : (image : Image) → Formed image → Sound image → Walkable image
sound_walks image f s = record { suited = f.suited; shape = s.shape; slots = s.slots }

drop_load : (acts : List Act) (a i : ℕ) → without_loads (acts ++ loads a i ∷ []) ≡ without_loads acts
drop_load [] a i = refl
drop_load (loads b j ∷ acts) a i = drop_load acts a i
drop_load (stores b j w ∷ acts) a i = ap (λ (x : List Act). stores b j w ∷ x) (drop_load acts a i)
drop_load (reads ∷ acts) a i = ap (λ (x : List Act). reads ∷ x) (drop_load acts a i)
drop_load (prints w ∷ acts) a i = ap (λ (x : List Act). prints w ∷ x) (drop_load acts a i)
drop_load (gives p ∷ acts) a i = ap (λ (x : List Act). gives p ∷ x) (drop_load acts a i)
drop_load (takes p w ∷ acts) a i = ap (λ (x : List Act). takes p w ∷ x) (drop_load acts a i)

pub keep_others : (acts more : List Act) → without_loads (acts ++ more) ≡ without_loads acts ++ without_loads
    more
keep_others [] more = refl
keep_others (loads b j ∷ acts) more = keep_others acts more
keep_others (stores b j w ∷ acts) more = ap (λ (x : List Act). stores b j w ∷ x) (keep_others acts more)
keep_others (reads ∷ acts) more = ap (λ (x : List Act). reads ∷ x) (keep_others acts more)
keep_others (prints w ∷ acts) more = ap (λ (x : List Act). prints w ∷ x) (keep_others acts more)
keep_others (gives p ∷ acts) more = ap (λ (x : List Act). gives p ∷ x) (keep_others acts more)
keep_others (takes p w ∷ acts) more = ap (λ (x : List Act). takes p w ∷ x) (keep_others acts more)

-- an answer depends on the effect alone
pub answer_by_effect : (op : Op) (xs : List ℕ) (o : Outside) → answer_op op xs (effect_of o) ≡ answer_op op xs
    o
answer_by_effect op xs o = grind arith

-- what is outside, with these acts
abbrev pub with_acts_of : Outside → List Act → Outside
with_acts_of o acts = record { cells = o.cells; input = o.input; left = o.left; acts = acts }

-- a load has no effect
pub load_has_no_effect : (op : Op) (xs : List ℕ) (o : Outside) → is_load_op op ≡ true
    → effect_of (after_op op xs o) ≡ effect_of o
load_has_no_effect op xs o e = grind (arith, drop_load, o.acts)

-- all others take the same effect whenever loads were answered
pub others_take_effect : (op : Op) (xs : List ℕ) (o : Outside) → is_load_op op ≡ false
    → effect_of (after_op op xs o) ≡ after_op op xs (effect_of o)
others_take_effect op xs o e = grind (arith, keep_others, o.acts)

-- the acts of an operation come after those before
more_acts : (op : Op) (xs : List ℕ) (o : Outside) → (acts : List Act)
    × ((after_op op xs o).acts ≡ o.acts ++ acts)
more_acts (Load a) xs o = (_, refl)
more_acts (Store a) xs o = (_, refl)
more_acts Input xs o = (_, refl)
more_acts Output xs o = (_, refl)
more_acts (Give p) xs o = (_, refl)
more_acts (Take p) xs o = (_, refl)
more_acts Nop xs o = ([], sym (append-nil o.acts))
more_acts Halt xs o = ([], sym (append-nil o.acts))
more_acts (Const n) xs o = ([], sym (append-nil o.acts))
more_acts (Alu f) xs o = ([], sym (append-nil o.acts))
more_acts Merge xs o = ([], sym (append-nil o.acts))
more_acts Advance xs o = ([], sym (append-nil o.acts))
more_acts Steer xs o = ([], sym (append-nil o.acts))
more_acts Phi xs o = ([], sym (append-nil o.acts))
more_acts (Send k) xs o = ([], sym (append-nil o.acts))

module _ (image : Image) (world : World) where
  abbrev pub Grows : ℕ → ℕ → Type 0
  Grows t u = (acts : List Act) × ((mem image world u).acts ≡ (mem image world t).acts ++ acts)

  still : (t : ℕ) → (pos image world (suc t)).memory ≡ (pos image world t).memory → Grows t (suc t)
  unfolding mem
  still t e = (grind (arith, append-nil))

  fired_acts : (t : ℕ) (b : Bool) → is_memory image (pos image world t).next ≡ b
      → pos image world (suc t) ≡ fire image (pos image world t) → Grows t (suc t)
  unfolding mem after
  fired_acts t b m e = grind (arith, more_acts, cond-true, still, cond-false)

  acts_step : (t : ℕ) → StepCase image world t → Grows t (suc t)
  acts_step t (stands a e f) = still t (ap (λ (p : Pos). p.memory) e)
  acts_step t (turns a l e f) = fired_acts t (is_memory image (pos image world t).next) refl e
  acts_step t (ends a l s e f) = still t (ap (λ (p : Pos). p.memory) e)
  acts_step t (leaves a l s e f) = still t (ap (λ (p : Pos). p.memory) e)

  -- acts of fewer steps stand before those of more
  pub acts_grow : (d t : ℕ) → Grows t (d + t)
  acts_grow zero t = grind (arith, append-nil)
  acts_grow (suc d) t =
      let e : suc d + t ≡ suc (d + t) = omega arith in
      let a = acts_grow d t in
      let b = acts_step (d + t) (step_case image world (d + t)) in
      rw e (
        a.0 ++ b.0,
        b.1 ∙ ap (λ (x : List Act). x ++ b.0) a.1 ∙ append_assoc (mem image world t).acts a.0
            b.0,
      )

  one_more : (xs : List Inst) (o : Option Inst) → (more : List Inst) × (with_inst xs o ≡ xs ++ more)
  one_more xs None = ([], sym (append-nil xs))
  one_more xs (Some x) = (x ∷ [], refl)

  -- so do instances
  pub walk_goes_on : (d t : ℕ) → (more : List Inst) × (walk image world (d + t) ≡ walk image world t ++ more)
  unfolding walk
  walk_goes_on zero t = grind (arith, append-nil)
  walk_goes_on (suc d) t =
      let e : suc d + t ≡ suc (d + t) = omega arith in
      let a = walk_goes_on d t in
      let b = one_more (walk image world (d + t)) (fires image world (d + t)) in
      rw e (
        a.0 ++ b.0,
        b.1 ∙ ap (λ (x : List Inst). x ++ b.0) a.1 ∙ append_assoc (walk image world t) a.0
            b.0,
      )

  wave_step : (shape : ShapeRules image) (t : ℕ) → (pos image world (suc t)).over ≡ false
      → (pos image world t).wave ≤ (pos image world (suc t)).wave
  wave_step shape t o = grind (arith, later_step, step_case)

  -- wave numbers never fall
  pub waves_rise : (shape : ShapeRules image) (d t : ℕ) → (pos image world (d + t)).over ≡ false
      → (pos image world t).wave ≤ (pos image world (d + t)).wave
  waves_rise shape zero t o = let e : 0 + t ≡ t = omega arith in rw e (omega arith)
  waves_rise shape (suc d) t o =
      let e : suc d + t ≡ suc (d + t) = omega arith in
      let o' : (pos image world (suc (d + t))).over ≡ false = rw e at o in
      let a : (pos image world t).wave ≤ (pos image world (d + t)).wave =
      waves_rise shape d t (running image world shape (d + t) o') in
      let b : (pos image world (d + t)).wave ≤ (pos image world (suc (d + t))).wave =
      wave_step shape (d + t) o' in
      rw e (omega arith)
