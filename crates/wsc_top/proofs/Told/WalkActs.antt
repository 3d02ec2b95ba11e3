-- The acts of a walk: what is outside is what they leave, and loads and stores past the end are the acts past
-- the end.
use Rattle.std.specs.Prelude.{◌≡◌, ℕ, zero, suc, ◌-◌, ◌<◌, ◌≤◌, Bool, true, false, not, List, [], ◌∷◌, ◌++◌}
use Rattle.std.specs.Prelude.{map, Option, Some, None, slice_index, refl, ltb}
use Rattle.std.proofs.Common.{sym, ap, ◌∙◌, subst, arith}
use Rattle.std.proofs.lemmas.Bool.{cond-true, cond-false, ltb-true, ltb-false}
use Rattle.ws_words.specs.Outside.{Act, loads, stores, World}
use Rattle.ws_words.specs.Past.{IsPast, AreWithin, FirstPast, after_acts}
use Rattle.ws_words.specs.Past as past
use Rattle.ws_isa.specs.declared.instr.Op.{Op}
use Rattle.ws_isa.specs.declared.instr.Op.TheVariants.{Load, Store}
use Rattle.ws_isa.specs.Image.{Array, Image, instr_at, is_memory, is_memory_op, acts_of_op, after, is_past}
use Rattle.ws_isa.specs.Image.{is_past_op, array_at, array_of_op, array_length}
use Rattle.ws_isa.specs.Walk.{Inst, Pos, pos, mem, fires, fire, operands_at, opening, opening_memory}
use Rattle.ws_isa.specs.Operations.{past as is_past_inst, FaultsAt}
use Rattle.ws_isa.proofs.Steps.{StepCase, step_case}
use Rattle.seq_run.proofs.FirstPasts.{within_both}
use Rattle.ws_words.proofs.Acts.{acts_of, after_append}

abbrev pub sizes : List Array → List ℕ
sizes arrays = map (λ a. a.length) arrays

quiet : (op : Op) (xs : List ℕ) → is_memory_op op ≡ false → acts_of_op op xs ≡ []
quiet op xs e = grind arith

-- one index against one length
not_past : (i n : ℕ) → not (ltb i n) ≡ false → i < n
not_past i n e = grind (arith, ltb-true)

is_past_at : (i n : ℕ) → not (ltb i n) ≡ true → n ≤ i
is_past_at i n e = grind (arith, ltb-false)

-- the length of an array that has a number
size_at : (arrays : List Array) (a : ℕ) → array_length arrays (suc a) ≡ past.length_of (sizes arrays) (suc a)
size_at (x ∷ xs) (suc a) = let e : suc (suc a) - 1 ≡ suc a = omega arith in let f : suc a - 1 ≡ a =
    omega arith in size_at xs a ∙ ap (slice_index (sizes xs)) f ∙ ap (slice_index (sizes (x ∷ xs))) (sym e)
size_at arrays a = refl

-- an index that is not past lies within its array
index_within : (arrays : List Array) (a i : ℕ) → not (ltb i (array_length arrays a)) ≡ false
    → i < past.length_of (sizes arrays) a
index_within arrays a i e = grind (arith, not_past, size_at)

index_past : (arrays : List Array) (a i : ℕ) → 1 ≤ a → not (ltb i (array_length arrays a)) ≡ true
    → past.length_of (sizes arrays) a ≤ i
index_past arrays a i one e = grind (arith, size_at, is_past_at)

op_within : (arrays : List Array) (op : Op) (xs : List ℕ) → is_past_op arrays op xs ≡ false
    → AreWithin (sizes arrays) (acts_of_op op xs)
op_within arrays op xs e = grind (arith, index_within)

-- an operation past the end has one act, which is
record OnePast (arrays : List Array) (op : Op) (xs : List ℕ) : Type 0 where
  act : Act
  is : acts_of_op op xs ≡ act ∷ []
  past : IsPast (sizes arrays) (array_of_op op) act

abbrev pub HasArray : Op → Type 0
HasArray (Load a) = 1 ≤ a
HasArray (Store a) = 1 ≤ a
HasArray _ = Unit {0}

op_past : (arrays : List Array) (op : Op) (xs : List ℕ) → HasArray op → is_past_op arrays op xs ≡ true
    → OnePast arrays op xs
op_past arrays (Load a) xs h e = record {
  act = loads a (slice_index xs 0);
  is = refl;
  past = (refl, index_past arrays a (slice_index xs 0) h e);
}
op_past arrays (Store a) xs h e = record {
  act = stores a (slice_index xs 0) (slice_index xs 1);
  is = refl;
  past = (refl, index_past arrays a (slice_index xs 0) h e);
}
op_past arrays op xs h e = absurd (cc)

module _ (image : Image) (world : World) where
  -- the acts of an instance, and of none
  abbrev acts_at : Option Inst → List Act
  acts_at None = []
  acts_at (Some x) = acts_of_op (instr_at image x.instr).op x.operands

  -- the acts of the first t steps
  abbrev acts_upto : ℕ → List Act
  acts_upto zero = []
  acts_upto (suc t) = acts_upto t ++ acts_at (fires image world t)

  fired : (p : Pos) (b : Bool) → is_memory image p.next ≡ b → (fire image p).memory ≡ after_acts p.memory
      (acts_of_op (instr_at image p.next).op (operands_at image p))
  unfolding after is_memory
  fired p b e = grind (arith, cond-true, cond-false, quiet)

  abbrev StepLeaves : ℕ → Type 0
  StepLeaves t = mem image world (suc t) ≡ after_acts (mem image world t) (acts_at (fires image world t))

  same_step : (t : ℕ) → (pos image world (suc t)).memory ≡ (pos image world t).memory
      → fires image world t ≡ None → StepLeaves t
  unfolding mem
  same_step t e f = e ∙ sym (ap (λ (o : Option Inst). after_acts (pos image world t).memory (acts_at o)) f)

  step_leaves : (t : ℕ) → StepCase image world t → StepLeaves t
  unfolding mem
  step_leaves t x = grind (arith, same_step, fired)

  mem_start : mem image world zero ≡ opening_memory image world
  unfolding mem pos opening
  mem_start = refl

  mem_upto : (t : ℕ) → mem image world t ≡ after_acts (opening_memory image world) (acts_upto t)
  mem_upto zero = mem_start
  mem_upto (suc t) = grind (arith, step_leaves, step_case, after_append, mem_upto t)

  no_acts : (opening_memory image world).acts ≡ []
  unfolding opening_memory
  no_acts = refl

  acts_are : (t : ℕ) → (mem image world t).acts ≡ acts_upto t
  acts_are t = grind (arith, mem_upto, acts_of, no_acts)

  -- what is outside is what the acts leave
  pub mem_is : (t : ℕ) → mem image world t ≡ after_acts (opening_memory image world) (mem image world t).acts
  mem_is t = mem_upto t ∙ ap (after_acts (opening_memory image world)) (sym (acts_are t))

  one_within : (o : Option Inst) → ((x : Inst) → o ≡ Some x → is_past_inst image x ≡ false)
      → AreWithin (sizes image.arrays) (acts_at o)
  unfolding is_past_inst is_past
  one_within o h = grind (arith, op_within)

  -- where no instance of the first steps is past the end, no act is
  pub acts_within : (t : ℕ) → ((u : ℕ) (x : Inst) → u < t → fires image world u ≡ Some x
      → is_past_inst image x ≡ false) → AreWithin (sizes image.arrays) (acts_upto t)
  acts_within zero h = tt
  acts_within (suc t) h = within_both (sizes image.arrays) (acts_upto t) (acts_at (fires image world t))
      (acts_within t (grind arith)) (grind (arith, one_within))

  pub mem_within : (t : ℕ) → ((u : ℕ) (x : Inst) → u < t → fires image world u ≡ Some x
      → is_past_inst image x ≡ false) → AreWithin (sizes image.arrays) (mem image world t).acts
  mem_within t h = subst (AreWithin (sizes image.arrays)) (sym (acts_are t)) (acts_within t h)

  -- the acts of a step come behind those before it
  pub acts_next : (t : ℕ) (x : Inst) → fires image world t ≡ Some x → (mem image world (suc t)).acts
      ≡ (mem image world t).acts ++ acts_of_op (instr_at image x.instr).op x.operands
  acts_next t x e = grind (arith, acts_are)

  -- the first fault is the first act past the end
  pub fault_is_first : (t : ℕ) (f : FaultsAt image world t) → HasArray (instr_at image f.inst.instr).op
      → FirstPast (sizes image.arrays) (mem image world (suc t)).acts (mem image world t).acts
      (array_at image f.inst.instr)
  unfolding is_past_inst is_past array_at
  fault_is_first t f h =
      let p = op_past image.arrays (instr_at image f.inst.instr).op f.inst.operands h f.is_past in
      record {
        within = mem_within t f.first;
        act = p.act;
        past = p.past;
        after = [];
        split = acts_next t f.inst f.fired ∙ ap (λ (xs : List Act). (mem image world t).acts ++ xs) p.is;
      }
