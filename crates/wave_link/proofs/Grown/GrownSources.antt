-- The token of a no-op comes from its block, or from a steer of the one block before.
use Rattle.std.proofs.Common.{ℕ, zero, suc, ◌+◌, ◌≡◌, ◌<◌, ◌≤◌, ◌⊎◌, Bool, true, false, cond, List, [], ◌∷◌}
use Rattle.std.proofs.Common.{length, get_or, Some, None, refl, sym, ap, ◌∙◌, inl, inr, subst, arith}
use Rattle.std.proofs.lemmas.Bool.{cases_Bool, cases_eq, cases_lt}
use Rattle.ws_isa.specs.declared.instr.Op.{Op}
use Rattle.ws_isa.specs.declared.instr.Op.TheVariants.{Steer}
use Rattle.ws_isa.specs.declared.instr.Dest.{Dest}
use Rattle.ws_isa.specs.Image.{Instr, Exit, Branch, Image, no_instr, flat, instr_at, block_at, first_number}
use Rattle.ws_isa.specs.Image.{edges_of, is_giving_op, IsIn, IsBlock, IsInstr, is_steer_op}
use Rattle.ws_isa.specs.Formed.{References}
use Rattle.ws_isa.specs.Sound.{HasDest, ShapeRules}
use Rattle.ws_isa.specs.Open.{OnlyEdge, EnteredBySteer}
use Rattle.wave_link.specs.Fit.{FitForNotes}
use Rattle.ws_isa.proofs.Slots.{has_append_cases, has_append_right}
use Rattle.ws_isa.proofs.There.{There, dests_there, others_there}
use Rattle.wave_link.specs.Layout.{Tables}
use Rattle.wave_link.specs.Grown.{extra_dest, grown_exit, annotated}
use Rattle.wave_link.specs.Adds.{adds}
use Rattle.wave_link.specs.Triggers.{IsAdded, NamesInstr, IsSteerBefore, TriggeredNear}
use Rattle.wave_link.proofs.Parted.Parts.{tables_in}
use Rattle.wave_link.proofs.Parted.Edges.{exit_kept}
use Rattle.wave_link.proofs.Parted.Numbers.{place_of, one_if, shift, new, nop, nop_positive, ends_are}
use Rattle.wave_link.proofs.Parted.Numbers.{nop_is_there}
use Rattle.wave_link.proofs.Grown.GrownRows.{Located, located, instr_positive}
use Rattle.wave_link.proofs.Grown.GrownOrigin.{origin, origin_new, origin_none}
use Rattle.wave_link.proofs.Grown.GrownTables.{giver, steer_in, giver_cases, steer_cases, apart_blocks}
use Rattle.wave_link.proofs.Grown.GrownForm.{Trigger, Before, before_slot, renamed as by_number}
use Rattle.wave_link.proofs.Grown.GrownTriggers.{trigger, whole, before, own, trigger_case, now_giver}
use Rattle.wave_link.proofs.Grown.GrownTriggers.{now_none, now_steer, other_none, other_steer, steered_by}
use Rattle.wave_link.proofs.Grown.GrownTriggers.{steered_is, steer_steers}
use Rattle.wave_link.proofs.Grown.GrownOf.{sizes, op_kept, entered, steer_is}
use Rattle.wave_link.proofs.Sound.ShapeOf.{ImageCase, image_case, block_back, block_on, old_inside}
use Rattle.wave_link.proofs.Sound.ShapeOf.{nop_inside, renamed_back, dests_grown, others_grown, one_extra}
use Rattle.wave_link.proofs.Sound.ShapeOf.{no_extra, the_steer, not_stop, first_edge, second_edge}
use Rattle.ws_words.specs.Items.{nth, or_else}

instr_cases : (image : Image) (m : ℕ) → IsInstr image m ⊎ (instr_at image m ≡ no_instr)
unfolding instr_at
instr_cases image zero = inr refl
instr_cases image (suc k) = go (cases_lt k (length (flat image.blocks)))
  where
    past : (xs : List Instr) (n : ℕ) → length xs ≤ n → or_else (nth xs n) no_instr ≡ no_instr
    past (x ∷ xs) (suc n) l = past xs n (omega arith)
    past xs n l = grind arith

    go : (k < length (flat image.blocks)) ⊎ (length (flat image.blocks) ≤ k)
        → IsInstr image (suc k) ⊎ (or_else (nth (flat image.blocks) k) no_instr ≡ no_instr)
    go (inl l) = inl (omega arith, l)
    go (inr l) = inr (past (flat image.blocks) k l)

nothing_named : (x : Instr) (j q : ℕ) → x.dests ≡ [] → x.others ≡ [] → HasDest x.dests j q
    ⊎ HasDest x.others j q → ⊥
nothing_named x j q d o h = grind arith

no_instr_dests : (no_instr.dests ≡ []) × (no_instr.others ≡ [])
unfolding no_instr
no_instr_dests = (refl, refl)

edges_grown : (t : Tables) (x : Exit) → edges_of (grown_exit t x) ≡ edges_of x
edges_grown t x = grind arith

edges_kept : (draft : Image) (b : ℕ) → edges_of (block_at (annotated draft) b).exit ≡ edges_of
    (block_at draft b).exit
edges_kept draft b = grind (arith, exit_kept, edges_grown, tables_in)

only_edge : (draft : Image) (b place c : ℕ) → OnlyEdge draft b place c → OnlyEdge (annotated draft) b place c
only_edge draft b place c h = record {
  is = grind (arith, edges_kept);
  only = λ d e i x. h.only d e (block_back draft d i)
      (ap (λ (es : List ℕ). nth es e) (sym (edges_kept draft d)) ∙ x);
}

-- the instruction that is added is the block's no-op
pub added_is : (draft : Image) (b n : ℕ) → IsBlock draft b → IsAdded draft (annotated draft) b n
    → (adds draft b ≡ true) × (n ≡ nop draft b)
unfolding nop
added_is draft b n h a = go (cases_Bool (adds draft b))
  where
    go : (adds draft b ≡ true) ⊎ (adds draft b ≡ false) → (adds draft b ≡ true)
        × (n ≡ first_number draft (suc b) + shift draft b)
    go (inl e) = (e, omega (arith, ends_are draft b h, ap one_if e, a.last))
    go (inr e) = absurd (omega (arith, sizes draft b h, ap one_if e, a.more))

no_steer : (op : Op) → is_giving_op op ≡ true → is_steer_op op ≡ false
no_steer op e = grind arith

some_dest : (n j : ℕ) → 1 ≤ n → n ≡ j → HasDest (extra_dest n) j 0
some_dest n j l e = grind arith

module _ (draft : Image) (ok : FitForNotes draft) where
  shape : ShapeRules draft
  shape = ok.walkable.shape

  refs : References draft
  refs = ok.walkable.suited.references

  -- no instruction of the draft has the number of a no-op
  not_old : (b j : ℕ) (ds : List Dest) (q : ℕ) → IsBlock draft b → adds draft b ≡ true → There draft ds
      → HasDest (by_number (new draft) ds) (nop draft b) q → ⊥
  not_old b j ds q h a there x =
      let r = renamed_back (new draft) ds (nop draft b) q x in
      let e : Some r.0 ≡ None = sym (origin_new draft r.0 (there r.0 q r.1).0)
      ∙ (ap (origin draft) r.2 ∙ origin_none draft b h a) in
      absurd (cc)

  same_nop : (b c : ℕ) → IsBlock draft b → IsBlock draft c → adds draft b ≡ true → adds draft c ≡ true
      → nop draft c ≡ nop draft b → c ≡ b
  same_nop b c h i a e f = apart_blocks (annotated draft) c b (nop draft b) (block_on draft c i)
      (block_on draft b h) (subst (IsIn (annotated draft) c) f (nop_inside draft c i e))
      (nop_inside draft b h a)

  abbrev pub Near : ℕ → ℕ → Type 0
  Near b m = IsIn (annotated draft) b m ⊎ IsSteerBefore (annotated draft) b m

  -- a steer of block c opens it for the block behind its edge at this place
  from_steer : (b c k x place q : ℕ) → IsBlock draft b → adds draft b ≡ true → IsBlock draft c
      → IsIn draft c k → (instr_at draft k).op ≡ Steer → IsBlock draft x
      → nth (edges_of (block_at draft c).exit) place ≡ Some x →
      HasDest (extra_dest (steered_by draft x)) (nop draft b) q → IsSteerBefore (annotated draft) b
      (k + shift draft c)
  from_steer b c k x place q h a i n s j e z = go (trigger draft x) refl
      (rw (steered_is draft x j) at z)
    where
      found : trigger draft x ≡ Before → nop draft x ≡ nop draft b → IsSteerBefore (annotated draft) b
          (k + shift draft c)
      found t f =
          let ax : adds draft x ≡ true = added_before x t in
          let xb : x ≡ b = same_nop b x h j a ax f in
          let y : EnteredBySteer draft b =
          entered draft ok b h (ap (trigger draft) (sym xb) ∙ t) in
          let o = y.edge.only c place i (e ∙ ap Some xb) in
          record {
            before = c;
            place = place;
            block = block_on draft c i;
            edge = only_edge draft c place b (rw o.0 (rw o.1 y.edge));
            inside = old_inside draft c k i n;
            steers = op_kept draft c k i n ∙ s;
          }
        where
          added_before : (x : ℕ) → trigger draft x ≡ Before → adds draft x ≡ true
          added_before x t = grind (arith, trigger_case, whole, before, own)

      go : (t : Trigger) → trigger draft x ≡ t → HasDest (before_slot t (nop draft x)) (nop draft b) q
          → IsSteerBefore (annotated draft) b (k + shift draft c)
      go t f y = grind (arith, found)

  -- the blocks behind a branch are there
  arms_in : (b s x y : ℕ) → IsBlock draft b → (block_at draft b).exit ≡ Branch s x y
      → IsBlock draft x × IsBlock draft y
  arms_in b s x y h e =
      let ih1 = second_edge draft ok b s x y e in
      grind (arith, not_stop draft ok b s x y e, first_edge draft ok b s x y e)

  near_old : (b c k q : ℕ) → IsBlock draft b → adds draft b ≡ true → IsBlock draft c → IsIn draft c k →
      HasDest (instr_at (annotated draft) (k + shift draft c)).dests (nop draft b) q
      ⊎ HasDest (instr_at (annotated draft) (k + shift draft c)).others (nop draft b) q
      → Near b (k + shift draft c)
  near_old b c k q h a i n (inl x) =
      grind (arith, has_append_cases, dests_grown, not_old, dests_there, refs, now_case, cases_eq, cases_Bool)
    where
      now_case : HasDest (extra_dest (get_or (tables_in draft.blocks).now k 0)) (nop draft b) q
          → (steer_in draft c ≡ k) ⊎ (steer_in draft c ≡ k → ⊥) → (giver draft c ≡ k)
          ⊎ (giver draft c ≡ k → ⊥) → (adds draft c ≡ true) ⊎ (adds draft c ≡ false)
          → Near b (k + shift draft c)
      now_case y (inl s) g d =
          let op : (instr_at draft k).op ≡ Steer = the_steer draft ok c k i n s in
          let e = (shape.blocks c i).hang.steers k n op in
          inr (from_steer b c k e.1 0 q h a i n op (arms_in c e.0 e.1 e.2 i e.3).0
          (ap (λ (z : Exit). nth (edges_of z) 0) e.3)
          (subst (λ (l : ℕ). HasDest (extra_dest l) (nop draft b) q)
          (now_steer draft c k e.0 e.1 e.2 i n e.3 s) y))
      now_case y (inr s) (inl g) (inl d) =
          let v : nop draft c ≡ nop draft b =
          sym (now_giver draft c k i n g s ∙ ap (λ (v : Bool). cond v (nop draft c) 0) d)
          ∙ one_extra (get_or (tables_in draft.blocks).now k 0) (nop draft b) q y in
          inl (subst (λ (l : ℕ). IsIn (annotated draft) l (k + shift draft c)) (same_nop b c h i a d v)
          (old_inside draft c k i n))
      now_case y (inr s) (inl g) (inr d) =
          absurd (no_extra (get_or (tables_in draft.blocks).now k 0) (nop draft b) q
          (now_giver draft c k i n g s ∙ ap (λ (v : Bool). cond v (nop draft c) 0) d) y)
      now_case y (inr s) (inr g) d =
          absurd (no_extra (get_or (tables_in draft.blocks).now k 0) (nop draft b) q
          (now_none draft c k i n g s) y)
  near_old b c k q h a i n (inr x) =
      grind (arith, has_append_cases, others_grown, not_old, others_there, refs, other_case, cases_eq)
    where
      other_case : HasDest (extra_dest (get_or (tables_in draft.blocks).other k 0)) (nop draft b) q
          → (steer_in draft c ≡ k) ⊎ (steer_in draft c ≡ k → ⊥) → Near b (k + shift draft c)
      other_case y (inl s) =
          let op : (instr_at draft k).op ≡ Steer = the_steer draft ok c k i n s in
          let e = (shape.blocks c i).hang.steers k n op in
          inr (from_steer b c k e.2 1 q h a i n op (arms_in c e.0 e.1 e.2 i e.3).1
          (ap (λ (z : Exit). nth (edges_of z) 1) e.3)
          (subst (λ (l : ℕ). HasDest (extra_dest l) (nop draft b) q)
          (other_steer draft c k e.0 e.1 e.2 i n e.3 s) y))
      other_case y (inr s) =
          absurd (no_extra (get_or (tables_in draft.blocks).other k 0) (nop draft b) q
          (other_none draft c k i n s) y)

  near : (b m q : ℕ) → IsBlock draft b → adds draft b ≡ true → HasDest (instr_at (annotated draft) m).dests
      (nop draft b) q ⊎ HasDest (instr_at (annotated draft) m).others (nop draft b) q → Near b m
  near b m q h a x = elim (instr_cases (annotated draft) m) [
    | inr e ↦
        absurd (nothing_named (instr_at (annotated draft) m) (nop draft b) q
        (ap (λ (y : Instr). y.dests) e ∙ no_instr_dests.0) (ap (λ (y : Instr). y.others) e ∙ no_instr_dests.1)
        x)
    | inl i ↦ (let l : Located (annotated draft) m = located (annotated draft) m i in
        by_case l.block (block_back draft l.block l.there)
        (image_case draft l.block m (block_back draft l.block l.there) l.inside))
  ]
    where
      by_case : (c : ℕ) → IsBlock draft c → ImageCase draft c m → Near b m
      by_case v0 v1 v2 = grind (arith, place_of, nop_is_there, nothing_named, nop, near_old)

  two : (x y c place : ℕ) → nth (x ∷ y ∷ []) place ≡ Some c → (x ≡ c) ⊎ (y ≡ c)
  two x y c place e = grind arith

  steered_number : (b : ℕ) → IsBlock draft b → trigger draft b ≡ Before
      → HasDest (extra_dest (steered_by draft b)) (nop draft b) 0
  steered_number b h t = grind (arith, nop, steered_is, Trigger, before_slot)

  -- a steer of the block before names it
  from_before : (b : ℕ) → IsBlock draft b → trigger draft b ≡ Before → (m : ℕ)
      × NamesInstr (annotated draft) m (nop draft b)
  from_before b h t = elim (steer_cases draft y.before y.block) [
    | inl n ↦ absurd (cc (n.none y.instr y.inside, ap is_steer_op y.steers))
    | inr o ↦ (let k : ℕ = steer_in draft y.before in
        let op : (instr_at draft k).op ≡ Steer = steer_is (instr_at draft k).op o.is_one in
        let e = (shape.blocks y.before y.block).hang.steers k o.inside op in (
          k + shift draft y.before,
          (
            0,
            elim (two e.1 e.2 b y.place (ap (λ (z : Exit). nth (edges_of z) y.place) (sym e.3) ∙ y.edge.is)) [
              | inl f ↦
                  inl (rw (dests_grown draft y.before k y.block o.inside)
                  (has_append_right (by_number (new draft) (instr_at draft k).dests)
                  (extra_dest (get_or (tables_in draft.blocks).now k 0)) (nop draft b) 0
                  (rw (ap (steered_by draft) (sym f) ∙ sym
                  (now_steer draft y.before k e.0 e.1 e.2 y.block o.inside e.3 refl)) at
                  (steered_number b h t))))
              | inr f ↦
                  inr (rw (others_grown draft y.before k y.block o.inside)
                  (has_append_right (by_number (new draft) (instr_at draft k).others)
                  (extra_dest (get_or (tables_in draft.blocks).other k 0)) (nop draft b) 0
                  (rw (ap (steered_by draft) (sym f) ∙ sym
                  (other_steer draft y.before k e.0 e.1 e.2 y.block o.inside e.3 refl)) at
                  (steered_number b h t))))
            ],
          ),
        ))
  ]
    where
      y : EnteredBySteer draft b
      y = entered draft ok b h t

  from_giver : (b : ℕ) → IsBlock draft b → adds draft b ≡ true → (giver draft b ≡ 0 → ⊥)
      → (m : ℕ) × NamesInstr (annotated draft) m (nop draft b)
  from_giver b h a g = elim (giver_cases draft b h) [
    | inl n ↦ absurd (g n.zero_is)
    | inr o ↦ (let k : ℕ = giver draft b in
        let e : get_or (tables_in draft.blocks).now k 0 ≡ nop draft b =
        now_giver draft b k h o.inside refl
        (steer_steers draft b k h (instr_positive draft b k h o.inside)
        (no_steer (instr_at draft k).op o.is_one)) ∙ ap (λ (v : Bool). cond v (nop draft b) 0) a in (
          k + shift draft b,
          (grind (
            arith,
            nop,
            dests_grown,
            has_append_right,
            by_number,
            new,
            tables_in,
            some_dest,
            nop_positive,
          )),
        ))
  ]

  named : (b : ℕ) → IsBlock draft b → adds draft b ≡ true → (m : ℕ) × NamesInstr (annotated draft) m
      (nop draft b)
  named b h a = grind (arith, trigger_case, whole, before, from_before, own, from_giver)

  pub triggered_near : TriggeredNear draft (annotated draft)
  triggered_near = record {
    some = λ b n h d. (let x = added_is draft b n h d in
        subst (λ (j : ℕ). (m : ℕ) × NamesInstr (annotated draft) m j) (sym x.1) (named b h x.0));
    near = λ b n m h d s. (let x = added_is draft b n h d in
        near b m s.0 h x.0 (grind arith));
  }
