-- Each no-op that is added to a draft is needed.
use Rattle.std.proofs.Common.{ℕ, zero, suc, ◌-◌, ◌≡◌, ◌<◌, ◌≤◌, ◌⊎◌, ◌&&◌, Bool, true, false, not, List, refl}
use Rattle.std.proofs.Common.{sym, ap, ◌∙◌, inl, inr, subst, arith, length}
use Rattle.std.proofs.lemmas.Bool.{cases_eq}
use Rattle.ws_isa.specs.declared.instr.Op.TheVariants.{Nop}
use Rattle.ws_isa.specs.Image.{Image, instr_at, block_at, first_number, is_memory, is_memory_op, stops}
use Rattle.ws_isa.specs.Image.{target, is_first, IsIn, IsBlock}
use Rattle.wave_link.specs.Fit.{FitForNotes}
use Rattle.wave_link.specs.declared.outline.Way.TheVariants.{Out}
use Rattle.wave_link.specs.declared.outline.Outline.{Outline}
use Rattle.wave_link.specs.declared.states.LastOps.{LastOps}
use Rattle.wave_link.specs.Outlines.{with_nop}
use Rattle.wave_link.specs.States.{reached, state_in, is_vain, needs_nop}
use Rattle.wave_link.specs.Grown.{annotated}
use Rattle.wave_link.specs.Adds.{adds}
use Rattle.wave_link.specs.Vain.{without, Unlinkable, NeededNop, NoneInVain}
use Rattle.wave_link.proofs.Grown.GrownSources.{added_is}
use Rattle.wave_link.proofs.Parted.Edges.{count_kept, wave_kept, target_kept, stops_kept, first_kept}
use Rattle.wave_link.proofs.Parted.Numbers.{one_if, shift, nop, nop_positive, nop_is_there, ends_are}
use Rattle.wave_link.proofs.Linked.LinksTables.{outline_in, Leads}
use Rattle.wave_link.proofs.Linked.LinksRun.{reach_same}
use Rattle.wave_link.proofs.Linked.LinksBlocks.{bare_of, grown_is, outline_at, outline_is, On_in, on_in}
use Rattle.wave_link.proofs.Linked.LinksBlocks.{out_ends}
use Rattle.wave_link.proofs.Linked.LinksDraft.{low_of, heads_in, ways_in, ways_at, states_at, behind_at}
use Rattle.wave_link.proofs.Linked.LinksDraft.{ways_end, adds_is, run}
use Rattle.wave_link.proofs.Linked.LinksMarked.{sq, wr, marked, adds_empty}
use Rattle.wave_link.proofs.Vain.VainRun.{Need, needed}
use Rattle.wave_link.proofs.Vain.VainPaths.{unlinkable}

split : (r z v : Bool) → (r && (z && not v)) ≡ true → (r ≡ true) × (v ≡ false)
split r z v e = grind arith

-- the last instruction of block b of the image
abbrev last_in : Image → ℕ → ℕ
last_in draft b = first_number (annotated draft) (suc b) - 1

module _ (draft : Image) (open_to : FitForNotes draft) where
  abbrev image : Image
  image = annotated draft

  abbrev count : ℕ
  count = length draft.blocks

  in_draft : (b : ℕ) → IsBlock image b → IsBlock draft b
  in_draft b h = (h.0, omega (arith, h.1, count_kept draft))

  in_image : (b : ℕ) → IsBlock draft b → IsBlock image b
  in_image b h = (h.0, omega (arith, h.1, count_kept draft))

  wave_on : (b c : ℕ) → IsBlock image b → Leads (outline_at draft b).way c
      → (block_at image c).wave ≡ (block_at image b).wave
  wave_on b c h k =
      let o : On_in draft open_to.walkable.shape open_to.branches b c = on_in draft open_to.walkable.shape
      open_to.branches b c (in_draft b h) k in
      wave_kept draft c ∙ (o.wave ∙ sym (wave_kept draft b))

  ends_on : (b : ℕ) → IsBlock image b → (outline_at draft b).way ≡ Out → (stops image b ≡ true)
      ⊎ ((stops image b ≡ false) × ((r : ℕ) × (is_first image (target image b r) ≡ true)))
  ends_on b h w = elim (out_ends draft open_to.walkable.shape open_to.branches b (in_draft b h) w) [
    | inl s ↦ inl (stops_kept draft b ∙ s)
    | inr s ↦ grind (arith, stops_kept, first_kept, target_kept)
  ]

  -- the tables say that it is needed
  need : (b : ℕ) → IsBlock draft b → adds draft b ≡ true → (outline_at draft b).ops ≡ 1
      → Need count (outline_at draft) (low_of draft) (heads_in draft) (ways_at draft) (states_at draft)
      (behind_at draft) (run draft open_to) b
  need zero h a o = absurd (omega (arith, h.0))
  need (suc m) h a o =
      let l : m < length draft.blocks = omega (arith, h.1) in
      let minus : suc m - 1 ≡ m = omega arith in
      let y : Outline = outline_in (bare_of draft) m in
      let s : List LastOps = states_at draft (suc m) in
      let e : outline_at draft (suc m) ≡ with_nop y (adds draft (suc m)) = grown_is draft m l in
      let w : ways_at draft (suc count) ≡ ways_in draft = ways_end draft count refl in
      let n : needs_nop y (suc m) (ways_in draft) s ≡ true =
      grind (arith, outline_in, bare_of, ways_in, adds_is) in
      let q : (reached y (suc m) (ways_in draft) ≡ true)
      × (is_vain y.way (ways_in draft) (state_in y (suc m) (ways_in draft) s) ≡ false) =
      grind (arith, split, ways_in) in
      let r : reached (outline_at draft (suc m)) (suc m) (ways_at draft (suc count)) ≡ true =
      grind (arith, ways_at) in
      let g : is_vain (outline_at draft (suc m)).way (ways_at draft (suc count))
      (state_in (outline_at draft (suc m)) (suc m) (ways_at draft (suc count)) s) ≡ false =
      grind (arith, ways_at) in
      needed count (outline_at draft) (low_of draft) (heads_in draft) (ways_at draft) (states_at draft)
      (behind_at draft) (run draft open_to) (suc m) h.0 h.1
      (sym (reach_same count (outline_at draft) (low_of draft) (heads_in draft) (ways_at draft)
      (states_at draft) (behind_at draft) (run draft open_to) (suc m) h.0 h.1) ∙ r) (omega arith) g

  one_op : (b : ℕ) → IsBlock draft b → adds draft b ≡ true → (outline_at draft b).ops ≡ 1
  one_op b h a = grind (arith, outline_at, outline_is, adds_empty)

  last_is : (b : ℕ) → IsBlock draft b → adds draft b ≡ true → (last_in draft b ≡ nop draft b)
      × (first_number image (suc b) ≡ suc (nop draft b))
  unfolding nop
  last_is b h a = grind (arith, image, shift, ends_are, one_if)

  nop_op : (b : ℕ) → IsBlock draft b → adds draft b ≡ true → (instr_at image (last_in draft b)).op ≡ Nop
  nop_op b h a = grind (arith, image, last_is, nop_is_there)

  nop_memory : (b : ℕ) → IsBlock draft b → adds draft b ≡ true → is_memory image (last_in draft b) ≡ true
  unfolding is_memory
  nop_memory b h a = ap is_memory_op (nop_op b h a)

  nop_inside : (b : ℕ) → IsBlock draft b → adds draft b ≡ true → IsIn image b (last_in draft b)
  nop_inside b h a = grind (arith, cases_eq, last_is, marked, in_image, one_op)

  needed_nop : (b : ℕ) → IsBlock draft b → adds draft b ≡ true → NeededNop draft image b (last_in draft b)
  needed_nop b h a = record {
    is_nop = nop_op b h a;
    needed = subst (Unlinkable (without image (last_in draft b))) (wave_kept draft b)
        (unlinkable image count (outline_at draft) (low_of draft) (heads_in draft) (ways_at draft)
        (states_at draft) (behind_at draft) (sq draft) (wr draft) (run draft open_to)
        (marked draft open_to)
        wave_on ends_on b (last_in draft b) (in_image b h) (nop_inside b h a)
        (let p : 1 ≤ nop draft b = nop_positive draft b in omega (arith, (last_is b h a).0))
        (one_op b h a) (nop_memory b h a) (need b h a (one_op b h a)));
  }

  pub none_in_vain : NoneInVain draft (annotated draft)
  none_in_vain b n h d =
      let x = added_is draft b n h d in
      subst (NeededNop draft image b) ((last_is b h x.0).0 ∙ sym x.1) (needed_nop b h x.0)
