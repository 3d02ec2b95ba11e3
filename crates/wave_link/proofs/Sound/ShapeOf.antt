-- The image of a draft that is open to notes keeps the rules on shape.
use Rattle.std.proofs.Common.{ℕ, suc, ◌+◌, ◌-◌, ◌≡◌, ◌<◌, ◌≤◌, ◌⊎◌, true, false, cond, List, [], ◌∷◌, ◌++◌}
use Rattle.std.proofs.Common.{length, map, get_or, Some, refl, sym, ap, ◌∙◌, inl, inr, subst, arith}
use Rattle.std.proofs.lemmas.Bool.{cases_Bool, cases_eq, cases_lt}
use Rattle.ws_isa.specs.declared.instr.Op.{Op}
use Rattle.ws_isa.specs.declared.instr.Op.TheVariants.{Steer, Send, Nop, Halt}
use Rattle.ws_isa.specs.declared.instr.Dest.{Dest}
use Rattle.ws_isa.specs.Image.{Exit, Branch, Landings, Pad, Block, Image, instr_at, block_at, block_of}
use Rattle.ws_isa.specs.Image.{first_number, is_memory, is_memory_op, is_advance, is_giving, stops, target}
use Rattle.ws_isa.specs.Image.{is_first, now_dests, IsIn, IsBlock, IsInstr}
use Rattle.ws_isa.specs.Formed.{References, WavesFrom, WavesInOrder}
use Rattle.ws_isa.specs.Sound.{HasDest, HasPad, IsAhead, BringsResult, direct, through, EdgeShape, FrontShape}
use Rattle.ws_isa.specs.Sound.{ExitShape, HangShape, HaltShape, DestShape, BlockShape, ShapeRules}
use Rattle.wave_link.specs.Fit.{FitForNotes}
use Rattle.ws_isa.proofs.Steps.{first_le, block_of_is}
use Rattle.ws_isa.proofs.Slots.{has_append_cases}
use Rattle.ws_isa.proofs.There.{dests_there, others_there, There}
use Rattle.wave_link.specs.declared.links.Passage.{Passage}
use Rattle.wave_link.specs.Layout.{Tables}
use Rattle.wave_link.specs.Grown.{extra_dest, number_in, grown_exit, grown_pad, grown_from, annotated}
use Rattle.wave_link.specs.Adds.{adds}
use Rattle.wave_link.proofs.Parted.Parts.{tables_in, places_in}
use Rattle.wave_link.proofs.Parted.Edges.{exit_kept, wave_kept, target_kept, stops_kept, first_kept}
use Rattle.wave_link.proofs.Parted.Edges.{count_kept}
use Rattle.wave_link.proofs.Parted.Numbers.{one_if, shift, new, nop, first_is, ends_are, new_is}
use Rattle.wave_link.proofs.Parted.Numbers.{instr_is_grown, nop_is_there}
use Rattle.wave_link.proofs.Grown.GrownRows.{Located, located, instr_positive, no_memory}
use Rattle.wave_link.proofs.Grown.GrownOrigin.{nop_low, nop_high, before_later}
use Rattle.wave_link.proofs.Grown.GrownTables.{giver, steer_in, steer_cases}
use Rattle.wave_link.proofs.Grown.GrownForm.{Trigger, Whole, Own, Before, renamed, own_slot, before_slot}
use Rattle.wave_link.proofs.Grown.GrownForm.{extra}
use Rattle.wave_link.proofs.Grown.GrownTriggers.{trigger, added_if, now_grown, now_giver, now_none, now_steer}
use Rattle.wave_link.proofs.Grown.GrownTriggers.{other_none, other_steer, steered_is, same_renamed, pads_kept}
use Rattle.wave_link.proofs.Grown.GrownTriggers.{steered_by}
use Rattle.wave_link.proofs.Grown.GrownOf.{op_kept, advance_kept, nop_advance, before_first}
use Rattle.ws_words.specs.Items.{nth, In}
use Rattle.ws_words.proofs.Bools.{no_both}

-- an instruction of the image's block b is one of the draft's, or the no-op
pub data ImageCase (draft : Image) (b m : ℕ) : Type 0 where
  old : (k : ℕ) → IsIn draft b k → m ≡ k + shift draft b → ImageCase draft b m
  no_op : adds draft b ≡ true → m ≡ nop draft b → ImageCase draft b m

pub image_case : (draft : Image) (b m : ℕ) → IsBlock draft b → IsIn (annotated draft) b m
    → ImageCase draft b m
unfolding nop
image_case draft b m h i = go (cases_lt (m - shift draft b) (first_number draft (suc b)))
    (cases_Bool (adds draft b))
  where
    low : first_number draft b + shift draft b ≤ m
    low = omega (arith, i.0, first_is draft b h)

    high : m < one_if (adds draft b) + (first_number draft (suc b) + shift draft b)
    high = omega (arith, i.1, ends_are draft b h)

    go : (m - shift draft b < first_number draft (suc b)) ⊎ (first_number draft (suc b) ≤ m - shift draft b)
        → (adds draft b ≡ true) ⊎ (adds draft b ≡ false) → ImageCase draft b m
    go (inl l) a = old (m - shift draft b) (omega (arith, low), l) (omega (arith, low))
    go (inr l) (inl a) = no_op a (omega (arith, low, high, ap one_if a))
    go (inr l) (inr a) = absurd (omega (arith, low, high, ap one_if a))

pub old_inside : (draft : Image) (b k : ℕ) → IsBlock draft b → IsIn draft b k
    → IsIn (annotated draft) b (k + shift draft b)
old_inside draft b k h i = (omega (arith, i.0, first_is draft b h), omega (arith, i.1, ends_are draft b h))

pub new_inside : (draft : Image) (b k : ℕ) → IsBlock draft b → IsIn draft b k
    → IsIn (annotated draft) b (new draft k)
new_inside draft b k h i = grind (arith, new_is draft b k h i, old_inside draft b k h i)

pub nop_inside : (draft : Image) (b : ℕ) → IsBlock draft b → adds draft b ≡ true
    → IsIn (annotated draft) b (nop draft b)
nop_inside draft b h a = (nop_low draft b h, nop_high draft b h a)

pub block_back : (draft : Image) (b : ℕ) → IsBlock (annotated draft) b → IsBlock draft b
block_back draft b h = (h.0, omega (arith, h.1, count_kept draft))

pub block_on : (draft : Image) (b : ℕ) → IsBlock draft b → IsBlock (annotated draft) b
block_on draft b h = (h.0, omega (arith, h.1, count_kept draft))

branch_back : (t : Tables) (x : Exit) (s b c : ℕ) → grown_exit t x ≡ Branch s b c
    → (r : ℕ) × (x ≡ Branch r b c) × (number_in t r ≡ s)
branch_back t x s b c h = grind arith

landings_back : (t : Tables) (x : Exit) (s : ℕ) (ls : List ℕ) → grown_exit t x ≡ Landings s ls
    → (r : ℕ) × (x ≡ Landings r ls) × (number_in t r ≡ s)
landings_back t x s ls h = grind arith

pub branch_of : (draft : Image) (b s x y : ℕ) → (block_at (annotated draft) b).exit ≡ Branch s x y
    → (r : ℕ) × ((block_at draft b).exit ≡ Branch r x y) × (new draft r ≡ s)
unfolding new
branch_of draft b s x y e = grind (arith, branch_back, tables_in, exit_kept)

pub landings_of : (draft : Image) (b s : ℕ) (ls : List ℕ) → (block_at (annotated draft) b).exit ≡ Landings s
    ls → (r : ℕ) × ((block_at draft b).exit ≡ Landings r ls) × (new draft r ≡ s)
unfolding new
landings_of draft b s ls e = grind (arith, landings_back, tables_in, exit_kept)

branch_on : (draft : Image) (b s x y : ℕ) → (block_at draft b).exit ≡ Branch s x y
    → (block_at (annotated draft) b).exit ≡ Branch (new draft s) x y
unfolding new
branch_on draft b s x y e = exit_kept draft b ∙ ap (grown_exit (tables_in draft.blocks)) e

landings_on : (draft : Image) (b s : ℕ) (ls : List ℕ) → (block_at draft b).exit ≡ Landings s ls
    → (block_at (annotated draft) b).exit ≡ Landings (new draft s) ls
unfolding new
landings_on draft b s ls e = exit_kept draft b ∙ ap (grown_exit (tables_in draft.blocks)) e

nop_other : (draft : Image) (b m : ℕ) (op : Op) → IsBlock draft b → adds draft b ≡ true → m ≡ nop draft b
    → (instr_at (annotated draft) m).op ≡ op → Nop ≡ op
nop_other draft b m op h a n e = grind (arith, nop_is_there)

old_op : (draft : Image) (b k m : ℕ) (op : Op) → IsBlock draft b → IsIn draft b k → m ≡ k + shift draft b
    → (instr_at (annotated draft) m).op ≡ op → (instr_at draft k).op ≡ op
old_op draft b k m op h i n e = grind (arith, op_kept)

-- The waves.

waves_from : (t : Tables) (ps : List Passage) (b k w : ℕ) (xs : List Block) → WavesFrom w xs
    → WavesFrom w (grown_from t ps b k xs)
waves_from t ps b k w [] h = tt
waves_from t ps b k w (x ∷ xs) h = grind (arith, waves_from t ps (b + 1) (k + length x.instrs) x.wave xs h.1)

waves_there : (t : Tables) (ps : List Passage) (b k : ℕ) (xs : List Block) → WavesInOrder xs
    → WavesInOrder (grown_from t ps b k xs)
waves_there t ps b k xs h = grind (arith, waves_from)

pub waves_grown : (draft : Image) → WavesInOrder draft.blocks → WavesInOrder (annotated draft).blocks
unfolding annotated
waves_grown draft h = waves_there (tables_in draft.blocks) (places_in draft.blocks) 1 1 draft.blocks h

-- Pads.

has_pad_on : (t : Tables) (ps : List Pad) (n : ℕ) → HasPad ps n → HasPad (map (grown_pad t) ps) n
has_pad_on t [] n h = h
has_pad_on t (p ∷ ps) n (inl e) = inl e
has_pad_on t (p ∷ ps) n (inr h) = inr (has_pad_on t ps n h)

pads_none : (t : Tables) (ps : List Pad) → ps ≡ [] → map (grown_pad t) ps ≡ []
pads_none t ps e = ap (map (grown_pad t)) e

pad_back : (t : Tables) (ps : List Pad) (p : Pad) → In p (map (grown_pad t) ps)
    → (q : Pad) × In q ps × (p ≡ grown_pad t q)
pad_back t [] p h = absurd h
pad_back t (x ∷ ps) p (inl e) = (x, inl refl, e)
pad_back t (x ∷ ps) p (inr h) = let r = pad_back t ps p h in (r.0, inr r.1, r.2)

pub renamed_back : (new : ℕ → ℕ) (ds : List Dest) (j q : ℕ) → HasDest (renamed new ds) j q
    → (k : ℕ) × HasDest ds k q × (new k ≡ j)
renamed_back new [] j q h = absurd h
renamed_back new (d ∷ ds) j q (inl h) = (d.instr, inl (refl, h.1), h.0)
renamed_back new (d ∷ ds) j q (inr h) = let r = renamed_back new ds j q h in (r.0, inr r.1, r.2)

nth_renamed : (new : ℕ → ℕ) (xs ys : List Dest) (place : ℕ) (d : Dest) → nth xs place ≡ Some d
    → nth (renamed new xs ++ ys) place ≡ Some (record { instr = new d.instr; port = d.port })
nth_renamed new (x ∷ xs) ys (suc place) d e = nth_renamed new xs ys place d e
nth_renamed v0 v1 v2 v3 v4 v5 = grind arith

-- The result of an instruction comes to where it comes in the draft.
carried : (draft : Image) (b s k q : ℕ) → IsBlock draft b → IsIn draft b s → BringsResult draft b s k q
    → BringsResult (annotated draft) b (new draft s) (new draft k) q
carried draft b s k q h i (direct place d e f g) =
    direct place (record { instr = new draft d.instr; port = d.port })
    (ap (λ (ds : List Dest). nth ds place) (ap (now_dests (annotated draft)) (new_is draft b s h i)
    ∙ now_grown draft b s h i)
    ∙ nth_renamed (new draft) (now_dests draft s) (own_slot (trigger draft b) (nop draft b) s) place d e)
    (ap (new draft) f) g
carried draft b s k q h i (through place d e f inside merge rest) =
    through place (record { instr = new draft d.instr; port = d.port })
    (ap (λ (ds : List Dest). nth ds place) (ap (now_dests (annotated draft)) (new_is draft b s h i)
    ∙ now_grown draft b s h i)
    ∙ nth_renamed (new draft) (now_dests draft s) (own_slot (trigger draft b) (nop draft b) s) place d e)
    f (new_inside draft b d.instr h inside)
    (ap (λ (j : ℕ). (instr_at (annotated draft) j).op) (new_is draft b d.instr h inside)
    ∙ (op_kept draft b d.instr h inside ∙ merge))
    (carried draft b d.instr k q h inside rest)

memory_at : (image : Image) (k : ℕ) (op : Op) → (instr_at image k).op ≡ op
    → is_memory image k ≡ is_memory_op op
unfolding is_memory
memory_at image k op e = ap is_memory_op e

memory_kept : (draft : Image) (b k : ℕ) → IsBlock draft b → IsIn draft b k
    → is_memory (annotated draft) (k + shift draft b) ≡ is_memory draft k
unfolding is_memory
memory_kept draft b k h i = ap is_memory_op (op_kept draft b k h i)

giving_kept : (draft : Image) (b k : ℕ) → IsBlock draft b → IsIn draft b k
    → is_giving (annotated draft) (new draft k) ≡ is_giving draft k
unfolding is_giving
giving_kept draft b k h i = grind (arith, new_is draft b k h i, op_kept draft b k h i)

pub dests_grown : (draft : Image) (b k : ℕ) → IsBlock draft b → IsIn draft b k
    → (instr_at (annotated draft) (k + shift draft b)).dests ≡ renamed (new draft) (instr_at draft k).dests
    ++ extra_dest (get_or (tables_in draft.blocks).now k 0)
dests_grown draft b k h i = grind (arith, instr_is_grown, tables_in, same_renamed)

pub others_grown : (draft : Image) (b k : ℕ) → IsBlock draft b → IsIn draft b k
    → (instr_at (annotated draft) (k + shift draft b)).others ≡ renamed (new draft) (instr_at draft k).others
    ++ extra_dest (get_or (tables_in draft.blocks).other k 0)
others_grown draft b k h i = grind (arith, instr_is_grown, tables_in, same_renamed)

pub one_extra : (n j q : ℕ) → HasDest (extra_dest n) j q → (n ≡ j)
one_extra n j q = grind arith

pub no_extra : (n j q : ℕ) → n ≡ 0 → HasDest (extra_dest n) j q → ⊥
no_extra n j q e x = rw e at x

module _ (draft : Image) (ok : FitForNotes draft) where
  shape : ShapeRules draft
  shape = ok.walkable.shape

  refs : References draft
  refs = ok.walkable.suited.references

  -- the same wave, by an instruction's block
  wave_of_block : (c m : ℕ) → IsBlock draft c → IsIn (annotated draft) c m
      → (block_at (annotated draft) (block_of (annotated draft) m)).wave ≡ (block_at draft c).wave
  wave_of_block c m h i = ap (λ (n : ℕ). (block_at (annotated draft) n).wave)
      (block_of_is (annotated draft) c m (block_on draft c h) i) ∙ wave_kept draft c

  -- a destination of the draft lies ahead in the image too
  ahead_on : (b k j : ℕ) → IsBlock draft b → IsIn draft b k → IsInstr draft j → IsAhead draft b k j
      → IsAhead (annotated draft) b (k + shift draft b) (new draft j)
  ahead_on b k j h i there a = go (located draft j there) a
    where
      go : Located draft j → IsAhead draft b k j → IsAhead (annotated draft) b (k + shift draft b)
          (new draft j)
      go x (inl e) = inl (ap (is_advance (annotated draft)) (new_is draft x.block j x.there x.inside)
          ∙ (advance_kept draft x.block j x.there x.inside ∙ e))
      go x (inr l) = grind (
        arith,
        later,
        cases_lt,
        cases_eq,
        wave_of_block,
        x.block,
        x.there,
        new_inside,
        block_of_is,
        wave_kept,
      )
        where
          later : (b < x.block) ⊎ (x.block ≤ b) → (b ≡ x.block) ⊎ (b ≡ x.block → ⊥)
              → k + shift draft b < new draft j
          later (inl m) e = before_later draft b x.block (k + shift draft b) (new draft j) h x.there m
              (old_inside draft b k h i).1 (new_inside draft x.block j x.there x.inside).0
          later (inr m) (inl e) = grind (arith, new_is, shift)
          later (inr m) (inr e) = grind (arith, first_le)

  -- the no-op of the block itself lies ahead
  own_ahead : (b k : ℕ) → IsBlock draft b → IsIn draft b k → adds draft b ≡ true
      → IsAhead (annotated draft) b (k + shift draft b) (nop draft b)
  unfolding nop
  own_ahead b k h i a = grind (arith, wave_of_block, nop, nop_inside, wave_kept)

  -- that of a block behind an edge of a branch does
  behind_ahead : (b k c r : ℕ) → IsBlock draft b → IsIn draft b k → stops draft b ≡ false
      → c ≡ target draft b r → adds draft c ≡ true → is_first draft c ≡ false
      → IsAhead (annotated draft) b (k + shift draft b) (nop draft c)
  behind_ahead b k c r h i s e a f =
      let hc : IsBlock draft c = subst (IsBlock draft) (sym e) ((shape.blocks b h).edges.there r s) in
      let l = (shape.blocks b h).edges.later r s (ap (is_first draft) (sym e) ∙ f) in
      inr (
        before_later draft b c (k + shift draft b) (nop draft c) h hc (omega arith)
            (old_inside draft b k h i).1 (nop_low draft c hc),
        wave_of_block c (nop draft c) hc (nop_inside draft c hc a)
            ∙ (ap (λ (n : ℕ). (block_at draft n).wave) e ∙ (l.1 ∙ sym (wave_kept draft b))),
      )

  -- what a steer opens for a block behind it
  steered_ahead : (b k c r j q : ℕ) → IsBlock draft b → IsIn draft b k → stops draft b ≡ false
      → c ≡ target draft b r → HasDest (extra_dest (steered_by draft c)) j q
      → IsAhead (annotated draft) b (k + shift draft b) j
  steered_ahead b k c r j q h i s e x =
      go (trigger draft c) refl (rw (steered_is draft c hc) at x)
    where
      hc : IsBlock draft c
      hc = subst (IsBlock draft) (sym e) ((shape.blocks b h).edges.there r s)

      go : (t : Trigger) → trigger draft c ≡ t → HasDest (before_slot t (nop draft c)) j q
          → IsAhead (annotated draft) b (k + shift draft b) j
      go Whole f z = absurd z
      go (Own n) f z = absurd z
      go Before f (inr z) = absurd z
      go Before f (inl z) = subst (IsAhead (annotated draft) b (k + shift draft b)) z.0
          (behind_ahead b k c r h i s e (added_if draft c (ap extra f)) (before_first draft ok c hc f))

  pub not_stop : (b s x y : ℕ) → (block_at draft b).exit ≡ Branch s x y → stops draft b ≡ false
  unfolding stops
  not_stop b s x y e = rw e refl

  pub first_edge : (b s x y : ℕ) → (block_at draft b).exit ≡ Branch s x y → x ≡ target draft b 1
  unfolding target
  first_edge b s x y e = rw e refl

  pub second_edge : (b s x y : ℕ) → (block_at draft b).exit ≡ Branch s x y → y ≡ target draft b 0
  unfolding target
  second_edge b s x y e = rw e refl

  -- the steer of a block, with the exit
  pub the_steer : (b k : ℕ) → IsBlock draft b → IsIn draft b k → steer_in draft b ≡ k
      → (instr_at draft k).op ≡ Steer
  the_steer b k h i f = grind (arith, steer_cases draft b h, instr_positive draft b k h i)

  now_ahead : (b k j q : ℕ) → IsBlock draft b → IsIn draft b k
      → HasDest (extra_dest (get_or (tables_in draft.blocks).now k 0)) j q
      → IsAhead (annotated draft) b (k + shift draft b) j
  now_ahead b k j q h i x = go (cases_eq (steer_in draft b) k) (cases_eq (giver draft b) k)
      (cases_Bool (adds draft b))
    where
      own_case : get_or (tables_in draft.blocks).now k 0 ≡ cond (adds draft b) (nop draft b) 0
          → (adds draft b ≡ true) ⊎ (adds draft b ≡ false) → IsAhead (annotated draft) b (k + shift draft b) j
      own_case e (inl a) = subst (IsAhead (annotated draft) b (k + shift draft b))
          (grind (arith, nop, one_extra, tables_in)) (own_ahead b k h i a)
      own_case e (inr a) = grind (arith, no_extra, tables_in, nop)

      go : (steer_in draft b ≡ k) ⊎ (steer_in draft b ≡ k → ⊥) → (giver draft b ≡ k) ⊎ (giver draft b ≡ k → ⊥)
          → (adds draft b ≡ true) ⊎ (adds draft b ≡ false) → IsAhead (annotated draft) b (k + shift draft b) j
      go (inl s) g a =
          let e = (shape.blocks b h).hang.steers k i (the_steer b k h i s) in
          steered_ahead b k e.1 1 j q h i (not_stop b e.0 e.1 e.2 e.3) (first_edge b e.0 e.1 e.2 e.3)
          (subst (λ (n : ℕ). HasDest (extra_dest n) j q) (now_steer draft b k e.0 e.1 e.2 h i e.3 s) x)
      go (inr s) (inl g) a = own_case (now_giver draft b k h i g s) a
      go (inr s) (inr g) a = grind (arith, no_extra, tables_in, now_none)

  other_ahead : (b k j q : ℕ) → IsBlock draft b → IsIn draft b k
      → HasDest (extra_dest (get_or (tables_in draft.blocks).other k 0)) j q
      → IsAhead (annotated draft) b (k + shift draft b) j
  other_ahead b k j q h i x = go (cases_eq (steer_in draft b) k)
    where
      go : (steer_in draft b ≡ k) ⊎ (steer_in draft b ≡ k → ⊥)
          → IsAhead (annotated draft) b (k + shift draft b) j
      go (inl s) =
          let e = (shape.blocks b h).hang.steers k i (the_steer b k h i s) in
          steered_ahead b k e.2 0 j q h i (not_stop b e.0 e.1 e.2 e.3) (second_edge b e.0 e.1 e.2 e.3)
          (subst (λ (n : ℕ). HasDest (extra_dest n) j q) (other_steer draft b k e.0 e.1 e.2 h i e.3 s) x)
      go (inr s) = grind (arith, no_extra, tables_in, other_none)

  -- one list of destinations and what is added to it
  list_ahead : (b k j q : ℕ) (ds xs : List Dest) → IsBlock draft b → IsIn draft b k → There draft ds
      → ((l p : ℕ) → HasDest ds l p → IsAhead draft b k l)
      → ((l p : ℕ) → HasDest xs l p → IsAhead (annotated draft) b (k + shift draft b) l) →
      HasDest (renamed (new draft) ds ++ xs) j q → IsAhead (annotated draft) b (k + shift draft b) j
  list_ahead b k j q ds xs h i there a c x = elim (has_append_cases (renamed (new draft) ds) xs j q x) [
    | inr z ↦ c j q z
    | inl z ↦
        (let r = renamed_back (new draft) ds j q z in subst (IsAhead (annotated draft) b (k + shift draft b))
        r.2 (ahead_on b k r.0 h i (there r.0 q r.1).0 (a r.0 q r.1)))
  ]

  nop_lists : (b m j q : ℕ) → IsBlock draft b → adds draft b ≡ true → m ≡ nop draft b
      → (HasDest (instr_at (annotated draft) m).dests j q → ⊥)
      × (HasDest (instr_at (annotated draft) m).others j q → ⊥)
  nop_lists b m j q h a n = grind (arith, nop_is_there)

  dests_in_image : (b m j q : ℕ) → IsBlock draft b → ImageCase draft b m
      → HasDest (instr_at (annotated draft) m).dests j q → IsAhead (annotated draft) b m j
  dests_in_image b m j q h (no_op a n) x = absurd ((nop_lists b m j q h a n).0 x)
  dests_in_image b m j q h (old k i n) x = subst (λ (l : ℕ). IsAhead (annotated draft) b l j) (sym n)
      (list_ahead b k j q (instr_at draft k).dests (extra_dest (get_or (tables_in draft.blocks).now k 0)) h i
      (dests_there draft refs k) (λ l p z. (shape.blocks b h).dests.dests k l p i z)
      (λ l p z. now_ahead b k l p h i z)
      (subst (λ (ds : List Dest). HasDest ds j q) (grind (arith, dests_grown)) x))

  others_in_image : (b m j q : ℕ) → IsBlock draft b → ImageCase draft b m
      → HasDest (instr_at (annotated draft) m).others j q → IsAhead (annotated draft) b m j
  others_in_image b m j q h (no_op a n) x = absurd ((nop_lists b m j q h a n).1 x)
  others_in_image b m j q h (old k i n) x = subst (λ (l : ℕ). IsAhead (annotated draft) b l j) (sym n)
      (list_ahead b k j q (instr_at draft k).others (extra_dest (get_or (tables_in draft.blocks).other k 0)) h
      i (others_there draft refs k) (λ l p z. (shape.blocks b h).dests.others k l p i z)
      (λ l p z. other_ahead b k l p h i z)
      (subst (λ (ds : List Dest). HasDest ds j q) (grind (arith, others_grown)) x))

  advances_in : (b m : ℕ) → IsBlock draft b → ImageCase draft b m → is_advance (annotated draft) m ≡ true
      → (k : ℕ) × IsIn draft b k × (m ≡ k + shift draft b) × (is_advance draft k ≡ true)
  advances_in b m h p e = grind (arith, no_both, nop_advance, advance_kept)

  front_in : (b j m : ℕ) → IsBlock draft b → ImageCase draft b j → ImageCase draft b m
      → is_advance (annotated draft) m ≡ true → j ≤ m → is_advance (annotated draft) j ≡ true
  unfolding nop
  front_in b j m h (no_op a n) c e l = grind (arith, advances_in)
  front_in b j m h (old i p n) c e l =
      let x = advances_in b m h c e in
      ap (is_advance (annotated draft)) n
      ∙ (advance_kept draft b i h p ∙ (shape.blocks b h).front.front i x.0 x.1 x.3 p.0
      (omega (arith, n, x.2, l)))

  steers_in_image : (b m : ℕ) → IsBlock draft b → ImageCase draft b m → (instr_at (annotated draft) m).op
      ≡ Steer → (s x y : ℕ) × ((block_at (annotated draft) b).exit ≡ Branch s x y)
      × BringsResult (annotated draft) b s m 1
  steers_in_image b m h (no_op a n) e = let f : Nop ≡ Steer = nop_other draft b m Steer h a n e in absurd (cc)
  steers_in_image b m h (old k i n) e =
      let r = (shape.blocks b h).hang.steers k i (old_op draft b k m Steer h i n e) in (
        new draft r.0,
        r.1,
        r.2,
        branch_on draft b r.0 r.1 r.2 r.3,
        subst (λ (l : ℕ). BringsResult (annotated draft) b (new draft r.0) l 1) (new_is draft b k h i ∙ sym n)
            (carried draft b r.0 k 1 h ((shape.blocks b h).exit.source r.0 r.1 r.2 r.3) r.4),
      )

  sends_in_image : (b m p : ℕ) → IsBlock draft b → ImageCase draft b m → (instr_at (annotated draft) m).op
      ≡ Send p → (s : ℕ) × (ls : List ℕ) × ((block_at (annotated draft) b).exit ≡ Landings s ls)
      × BringsResult (annotated draft) b s m 0
  sends_in_image b m p h (no_op a n) e = grind (arith, nop_other draft b m (Send p) h a n e)
  sends_in_image b m p h (old k i n) e =
      let r = (shape.blocks b h).hang.sends k p i (old_op draft b k m (Send p) h i n e) in (
        new draft r.0,
        r.1,
        landings_on draft b r.0 r.1 r.2,
        subst (λ (l : ℕ). BringsResult (annotated draft) b (new draft r.0) l 0) (new_is draft b k h i ∙ sym n)
            (carried draft b r.0 k 0 h ((shape.blocks b h).exit.address r.0 r.1 r.2) r.3),
      )

  landing_in : (b m p r : ℕ) → IsBlock draft b → ImageCase draft b m → (instr_at (annotated draft) m).op
      ≡ Send p → HasPad (block_at (annotated draft) (target (annotated draft) b r)).pads p
  landing_in b m p r h (no_op a n) e = grind (arith, nop_other draft b m (Send p) h a n e)
  landing_in b m p r h (old k i n) e =
      subst (λ (t : ℕ). HasPad (block_at (annotated draft) t).pads p) (sym (target_kept draft b r))
      (subst (λ (ps : List Pad). HasPad ps p) (sym (pads_kept draft (target draft b r)))
      (has_pad_on (tables_in draft.blocks) (block_at draft (target draft b r)).pads p
      ((shape.blocks b h).hang.landing_pad k p r i (old_op draft b k m (Send p) h i n e))))

  halt_in : (b m : ℕ) → IsBlock draft b → ImageCase draft b m → (instr_at (annotated draft) m).op ≡ Halt
      → (k : ℕ) × IsIn draft b k × (m ≡ k + shift draft b) × ((instr_at draft k).op ≡ Halt)
  halt_in b m h (no_op a n) e = let f : Nop ≡ Halt = nop_other draft b m Halt h a n e in absurd (cc)
  halt_in b m h (old k i n) e = (k, i, n, old_op draft b k m Halt h i n e)

  last_in : (b j m : ℕ) → IsBlock draft b → ImageCase draft b j → ImageCase draft b m
      → (instr_at (annotated draft) m).op ≡ Halt → is_memory (annotated draft) j ≡ true → j ≤ m
  last_in b j m h (no_op a n) c e y =
      let x = halt_in b m h c e in
      absurd (no_both (memory_at draft x.0 Halt x.3) (no_memory draft b x.0 h a x.1))
  last_in b j m h (old i p n) c e y =
      let x = halt_in b m h c e in
      let l : i ≤ x.0 = (shape.blocks b h).halt.halt_last i x.0 x.1 x.3 p
      (sym (memory_kept draft b i h p) ∙ (ap (is_memory (annotated draft)) (sym n) ∙ y)) in
      omega (arith, n, x.2, l)

  pads_in_image : (b j q : ℕ) (p : Pad) → IsBlock draft b → In p (block_at (annotated draft) b).pads
      → HasDest p.dests j q → IsIn (annotated draft) b j × (is_advance (annotated draft) j ≡ true)
  pads_in_image b j q p h i x =
      let r = pad_back (tables_in draft.blocks) (block_at draft b).pads p
      (subst (In p) (pads_kept draft b) i) in
      let y = renamed_back (new draft) r.0.dests j q
      (rw (ap (λ (z : Pad). z.dests) r.2 ∙ same_renamed draft r.0.dests) at x) in
      let a = (shape.blocks b h).dests.pads r.0 y.0 q r.1 y.1 in (
        subst (IsIn (annotated draft) b) y.2 (new_inside draft b y.0 h a.0),
        ap (is_advance (annotated draft)) (sym y.2 ∙ new_is draft b y.0 h a.0)
            ∙ (advance_kept draft b y.0 h a.0 ∙ a.1),
      )

  module _ (b : ℕ) (h : IsBlock draft b) where
    its : BlockShape draft b
    its = shape.blocks b h

    edge_shape : EdgeShape (annotated draft) b
    edge_shape = record {
      there = λ r s. subst (IsBlock (annotated draft)) (sym (target_kept draft b r))
          (block_on draft (target draft b r) (its.edges.there r (sym (stops_kept draft b) ∙ s)));
      later = grind (arith, its.edges.later, stops_kept, first_kept, target_kept, wave_kept);
    }

    front_shape : FrontShape (annotated draft) b
    front_shape = record {
      advances = λ m i e. (let x = advances_in b m h (image_case draft b m h i) e in
          first_kept draft b ∙ its.front.advances x.0 x.1 x.3);
      front = λ j m i e l n. front_in b j m h (image_case draft b j h (l, omega arith))
          (image_case draft b m h i) e n;
      pads = grind (arith, pads_kept, pads_none, its.front.pads, first_kept);
    }

    exit_shape : ExitShape (annotated draft) b
    exit_shape = record {
      source = λ s x y e. (let r = branch_of draft b s x y e in subst (IsIn (annotated draft) b) r.2
          (new_inside draft b r.0 h (its.exit.source r.0 x y r.1)));
      address = λ s ls e. (let r = landings_of draft b s ls e in subst (IsIn (annotated draft) b) r.2
          (new_inside draft b r.0 h (its.exit.address r.0 ls r.1)));
      source_gives = λ s x y e. (let r = branch_of draft b s x y e in
          ap (is_giving (annotated draft)) (sym r.2)
          ∙ (grind (arith, giving_kept)));
      address_gives = λ s ls e. (let r = landings_of draft b s ls e in
          ap (is_giving (annotated draft)) (sym r.2)
          ∙ (grind (arith, giving_kept)));
    }

    hang_shape : HangShape (annotated draft) b
    hang_shape = record {
      steers = λ m i e. steers_in_image b m h (image_case draft b m h i) e;
      sends = λ m p i e. sends_in_image b m p h (image_case draft b m h i) e;
      landing_pad = λ m p r i e. landing_in b m p r h (image_case draft b m h i) e;
      landing_first = λ s r ls e. (let x = landings_of draft b s ls e in
          ap (is_first (annotated draft)) (target_kept draft b r)
          ∙ (first_kept draft (target draft b r) ∙ its.hang.landing_first x.0 r ls x.1));
    }

    halt_shape : HaltShape (annotated draft) b
    halt_shape = record {
      halt_stops = λ m i e. (let x = halt_in b m h (image_case draft b m h i) e in
          stops_kept draft b ∙ its.halt.halt_stops x.0 x.1 x.3);
      stop_halts = λ s. (let x = its.halt.stop_halts (sym (stops_kept draft b) ∙ s) in
          (x.0 + shift draft b, old_inside draft b x.0 h x.1, op_kept draft b x.0 h x.1 ∙ x.2));
      halt_last = λ j m i e k y. last_in b j m h (image_case draft b j h k) (image_case draft b m h i) e y;
    }

    dest_shape : DestShape (annotated draft) b
    dest_shape = record {
      dests = λ m j q i x. dests_in_image b m j q h (image_case draft b m h i) x;
      others = λ m j q i x. others_in_image b m j q h (image_case draft b m h i) x;
      pads = λ p j q i x. pads_in_image b j q p h i x;
    }

    block_shape : BlockShape (annotated draft) b
    block_shape = grind (
      arith,
      pads_kept,
      has_pad_on,
      its.opening,
      edge_shape,
      front_shape,
      exit_shape,
      hang_shape,
      halt_shape,
      dest_shape,
    )

  pub shape_rules : ShapeRules (annotated draft)
  shape_rules = record {
    has_block = block_on draft 1 shape.has_block;
    waves = waves_grown draft shape.waves;
    blocks = λ b h. block_shape b (block_back draft b h);
  }
