-- Effects of operations, where loads leave no trace.
use Rattle.std.proofs.Common.{arith, ℕ, ◌-◌, ◌≡◌, slice_index, slice_set, true, false, List, [], ◌∷◌, ◌++◌}
use Rattle.std.proofs.Common.{refl, sym, ap, ◌∙◌}
use Rattle.std.proofs.lemmas.Bool.{both_ways}
use Rattle.ws_words.specs.Outside.{Act, loads, stores, reads, prints, gives, takes, Outside, World, with_act}
use Rattle.ws_words.specs.Outside.{with_row, array_of, rest_of, row}
use Rattle.ws_isa.specs.declared.instr.Op.{Op}
use Rattle.ws_isa.specs.declared.instr.Op.TheVariants.{Load, Store, Input, Output, Give, Take, Halt}
use Rattle.ws_isa.specs.Image.{Image, instr_at, is_writing, is_writing_op, answer, after, after_op}
use Rattle.ws_isa.specs.Walk.{mem, pos, opening, opening_memory}
use Rattle.ws_isa.specs.Operations.{without_loads, effect_of}
use Rattle.df_core.specs.Effect.{effect_at, effect_after}
use Rattle.ws_isa.proofs.GoesOn.{answer_by_effect as answer_effect_op, keep_others as loads_gone}
use Rattle.ws_isa.proofs.GoesOn.{with_acts_of}

gone_twice : (xs : List Act) → without_loads (without_loads xs) ≡ without_loads xs
gone_twice [] = refl
gone_twice (loads a i ∷ xs) = gone_twice xs
gone_twice (stores a i v ∷ xs) = ap (λ (l : List Act). stores a i v ∷ l) (gone_twice xs)
gone_twice (reads ∷ xs) = ap (λ (l : List Act). reads ∷ l) (gone_twice xs)
gone_twice (prints v ∷ xs) = ap (λ (l : List Act). prints v ∷ l) (gone_twice xs)
gone_twice (gives p ∷ xs) = ap (λ (l : List Act). gives p ∷ l) (gone_twice xs)
gone_twice (takes p v ∷ xs) = ap (λ (l : List Act). takes p v ∷ l) (gone_twice xs)

effect_again : (o : Outside) → effect_of (effect_of o) ≡ effect_of o
effect_again o = ap (with_acts_of o) (gone_twice o.acts)

-- one more act
act_more : (cells : List (List ℕ)) (input : List ℕ) (left : List (List ℕ)) (acts : List Act) (act : Act) →
    effect_of (with_act (record { cells = cells; input = input; left = left; acts = without_loads acts }) act)
    ≡ effect_of (with_act (record { cells = cells; input = input; left = left; acts = acts }) act)
act_more cells input left acts act = grind (arith, loads_gone, gone_twice)

after_effect_op : (op : Op) (xs : List ℕ) (o : Outside) → effect_of (after_op op xs (effect_of o)) ≡ effect_of
    (after_op op xs o)
after_effect_op (Load a) xs o = act_more o.cells o.input o.left o.acts _
after_effect_op (Store a) xs o =
    act_more (with_row o.cells (a - 1) (slice_set (array_of o a) (slice_index xs 0) (slice_index xs 1)))
    o.input o.left o.acts _
after_effect_op Input xs o = act_more o.cells (rest_of o.input) o.left o.acts _
after_effect_op Output xs o = act_more o.cells o.input o.left o.acts _
after_effect_op (Give p) xs o =
    act_more o.cells o.input (with_row o.left (p - 1) (rest_of (row o.left (p - 1)))) o.acts _
after_effect_op (Take p) xs o = act_more o.cells o.input o.left o.acts _
after_effect_op _ xs o = effect_again o

quiet_op : (op : Op) (xs : List ℕ) (o : Outside) → is_writing_op op ≡ false
    → effect_of (after_op op xs (effect_of o)) ≡ effect_of o
quiet_op (Store a) xs o e = absurd (both_ways true e refl)
quiet_op Input xs o e = absurd (both_ways true e refl)
quiet_op Output xs o e = absurd (both_ways true e refl)
quiet_op (Give p) xs o e = absurd (both_ways true e refl)
quiet_op (Take p) xs o e = absurd (both_ways true e refl)
quiet_op Halt xs o e = absurd (both_ways true e refl)
quiet_op (Load a) xs o e = ap (with_acts_of o) (loads_gone (without_loads o.acts) (loads a _ ∷ [])
    ∙ append_none (without_loads (without_loads o.acts)) ∙ gone_twice o.acts)
  where
    append_none : (l : List Act) → l ++ [] ≡ l
    append_none [] = refl
    append_none (x ∷ l) = ap (λ (m : List Act). x ∷ m) (append_none l)
quiet_op _ xs o e = effect_again o

module _ (image : Image) where
  pub answer_effect : (k : ℕ) (xs : List ℕ) (o : Outside) → answer image k xs (effect_of o) ≡ answer image k
      xs o
  unfolding answer
  answer_effect k xs o = answer_effect_op (instr_at image k).op xs o

  pub after_effect : (k : ℕ) (xs : List ℕ) (o : Outside) → effect_of (after image k xs o) ≡ effect_after image
      k xs (effect_of o)
  unfolding after effect_after
  after_effect k xs o = sym (after_effect_op (instr_at image k).op xs o)

  module _ (world : World) where
    pub effect_is : (t : ℕ) → effect_at image world t ≡ effect_of (mem image world t)
    unfolding effect_at
    effect_is t = refl

    pub effect_quiet : (k : ℕ) (xs : List ℕ) (t : ℕ) → is_writing image k ≡ false
        → effect_after image k xs (effect_at image world t) ≡ effect_at image world t
    unfolding is_writing effect_after effect_at after
    effect_quiet k xs t e = quiet_op (instr_at image k).op xs (mem image world t) e

    pub effect_start : opening_memory image world ≡ effect_at image world 0
    unfolding effect_at mem pos opening opening_memory
    effect_start = refl
