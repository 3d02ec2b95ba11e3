-- The walk of an image follows its draft's.
use Rattle.std.proofs.Common.{ℕ, zero, suc, ◌+◌, ◌-◌, ◌≡◌, ◌≤◌, true, length, refl, sym, ap, ap₂, ◌∙◌, arith}
use Rattle.ws_words.specs.Outside.{World}
use Rattle.ws_isa.specs.Image.{Image, size_of, IsBlock}
use Rattle.wave_link.specs.Fit.{FitForNotes}
use Rattle.ws_isa.specs.Walk.{Pos, opening, step, pos, walk, has_ended, CostAtMost}
use Rattle.ws_isa.specs.Sound.{SlotRules}
use Rattle.ws_isa.proofs.Ending.{goes_up}
use Rattle.wave_link.specs.Grown.{annotated}
use Rattle.wave_link.specs.Passed.{where_left, blocks_left, added_left, FollowsFor, WalksFor}
use Rattle.wave_link.proofs.Grown.GrownOf.{sizes, grown, grown_trigger, alike}
use Rattle.wave_link.proofs.Grown.GrownForm.{extra}
use Rattle.wave_link.proofs.Sound.SlotsKept.{slot_rules, extra_cases}
use Rattle.wave_link.proofs.Grown.GrownTriggers.{extra_is}
use Rattle.wave_link.proofs.Sound.WalksKept.{ahead, passes_at, passes_in, pos_is, keeps, opens_alike, Alike}
use Rattle.wave_link.proofs.Sound.WalksKept.{alike as walks_alike}

pub keeps_slots : (draft : Image) → FitForNotes draft → SlotRules (annotated draft)
keeps_slots draft ok = slot_rules draft (annotated draft) (grown draft ok) ok.walkable.slots

passed_once : (draft : Image) (ok : FitForNotes draft) (p : Pos) → IsBlock draft p.block
    → passes_at draft (annotated draft) (grown draft ok) (alike draft ok) p ≡ where_left draft p
    (size_of (annotated draft) p.block - size_of draft p.block)
unfolding passes_at
passed_once draft ok p h = grind (arith, extra, grown_trigger, extra_is, sizes)

passed_all : (draft : Image) (ok : FitForNotes draft) (world : World) (t : ℕ)
    → passes_in draft (annotated draft) (grown draft ok) (alike draft ok) t (opening draft world) ≡ added_left
    draft (annotated draft) world t
unfolding passes_in added_left
passed_all draft ok world zero = refl
passed_all draft ok world (suc t) =
    let k = keeps draft (annotated draft) (grown draft ok) (alike draft ok) (opening draft world)
    (opening (annotated draft) world) (opens_alike draft (annotated draft) (grown draft ok)
    (alike draft ok) world) t in
    ap₂ (λ (a b : ℕ). a + b) (passed_all draft ok world t)
    (passed_once draft ok (ahead draft t (opening draft world)) k.stands.here
    ∙ ap (λ (p : Pos). where_left draft p (size_of (annotated draft) p.block - size_of draft p.block))
    (sym (pos_is draft (annotated draft) (grown draft ok) (alike draft ok) draft world t)))

pub follows : (draft : Image) (world : World) → FitForNotes draft → (t : ℕ)
    → FollowsFor draft (annotated draft) world t
follows draft world ok t =
    let a : Alike draft (annotated draft) (grown draft ok) (alike draft ok) world t =
    grind (arith, walks_alike, grown, alike) in
    grind (arith, passed_all)

one_at_most : (draft : Image) (ok : FitForNotes draft) (p : Pos) → passes_at draft (annotated draft)
    (grown draft ok) (alike draft ok) p ≤ where_left draft p 1
unfolding passes_at
one_at_most draft ok p = grind (arith, extra_cases, grown, extra)

few_passed : (draft : Image) (ok : FitForNotes draft) (world : World) (t : ℕ)
    → passes_in draft (annotated draft) (grown draft ok) (alike draft ok) t (opening draft world)
    ≤ blocks_left draft world t
unfolding passes_in blocks_left
few_passed draft ok world zero = omega arith
few_passed draft ok world (suc t) =
    let ih1 = pos_is draft (annotated draft) (grown draft ok) (alike draft ok) draft world t in
    grind (arith, one_at_most draft ok (ahead draft t (opening draft world)), few_passed draft ok world t)

pub few_added : (draft : Image) (world : World) → FitForNotes draft → (t : ℕ)
    → added_left draft (annotated draft) world t ≤ blocks_left draft world t
few_added draft world ok t = omega (arith, few_passed draft ok world t, passed_all draft ok world t)

-- the image costs at most one more for each block that the draft's walk leaves
pub costs : (draft : Image) (world : World) → FitForNotes draft → (k : ℕ)
    → ((t : ℕ) → length (walk draft world t) + blocks_left draft world t ≤ k)
    → CostAtMost (annotated draft) world k
costs draft world ok k h t =
    let f : FollowsFor draft (annotated draft) world t = follows draft world ok t in
    omega (
      arith,
      goes_up (annotated draft) world t f.steps f.as_many,
      f.fired,
      few_added draft world ok t,
      h t,
    )

pub over_next : (image : Image) (world : World) (t : ℕ) → (pos image world t).over ≡ true
    → (pos image world (suc t)).over ≡ true
unfolding pos step
over_next image world t e = rw e refl

stays_over : (image : Image) (world : World) (t d : ℕ) → has_ended image world t ≡ true
    → has_ended image world (d + t) ≡ true
unfolding has_ended
stays_over image world t d e = go d
  where
    go : (d : ℕ) → (pos image world (d + t)).over ≡ true
    go zero = grind arith
    go (suc d) = ap (λ (n : ℕ). (pos image world n).over) (suc_plus d t)
        ∙ over_next image world (d + t) (go d)
      where
        suc_plus : (d n : ℕ) → suc d + n ≡ suc (d + n)
        suc_plus d n = omega arith

-- where the image's walk has ended, the draft's has
pub ends_too : (draft : Image) (world : World) → FitForNotes draft → (t : ℕ)
    → has_ended (annotated draft) world t ≡ true → has_ended draft world t ≡ true
ends_too draft world ok t e =
    let f : FollowsFor draft (annotated draft) world t = follows draft world ok t in
    let l : t ≤ f.steps = f.as_many in
    let s : (f.steps - t) + t ≡ f.steps = omega arith in
    sym f.ended ∙ (grind (arith, stays_over))

pub walks_for : (draft : Image) (world : World) → FitForNotes draft → WalksFor draft (annotated draft) world
walks_for draft world ok = grind (arith, follows, ends_too, few_added, costs)
