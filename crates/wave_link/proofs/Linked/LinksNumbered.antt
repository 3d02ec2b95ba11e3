-- The operations of each wave are numbered in listing order, from 1 on.
use Rattle.std.proofs.Common.{ℕ, zero, suc, ◌+◌, ◌≡◌, ◌<◌, ◌≤◌, ◌⊎◌, ◌&&◌, Bool, true, false, cond, List, []}
use Rattle.std.proofs.Common.{◌∷◌, length, get_or, refl, ap, ◌∙◌, inl, inr, arith}
use Rattle.std.proofs.lemmas.Bool.{cases_eq, cases_Bool, cases_lt}
use Rattle.ws_isa.specs.Image.{Block, Image, no_block, block_at, block_of, first_number, is_memory, is_first}
use Rattle.ws_isa.specs.Image.{IsIn, IsBlock}
use Rattle.ws_isa.specs.Formed.{WavesInOrder}
use Rattle.wave_link.specs.Fit.{FitForNotes}
use Rattle.ws_isa.proofs.Blocks.{number_one}
use Rattle.ws_isa.proofs.Steps.{block_of_is}
use Rattle.wave_link.specs.declared.outline.Outline.{Outline}
use Rattle.wave_link.specs.Notes.{low_at, lows_from}
use Rattle.wave_link.specs.Grown.{annotated}
use Rattle.wave_link.specs.Numbered.{operations_before, NumberedInOrder}
use Rattle.wave_link.proofs.Parted.Edges.{count_kept, wave_kept}
use Rattle.wave_link.proofs.Linked.LinksBlocks.{outline_at, first_is, waves_rise}
use Rattle.wave_link.proofs.Linked.LinksDraft.{low_of, run}
use Rattle.wave_link.proofs.Linked.LinksMarked.{sq, marked}
use Rattle.ws_words.specs.Items.{nth, or_else}

wave_one : (bs : List Block) → WavesInOrder bs → (or_else (nth bs 0) no_block).wave ≡ 1
wave_one bs w = grind arith

first_wave : (draft : Image) → WavesInOrder draft.blocks → (block_at draft 1).wave ≡ 1
unfolding block_at
first_wave draft w = wave_one draft.blocks w

outside_block : (image : Image) → (block_at image (block_of image 0)).wave ≡ 0
unfolding block_of block_at no_block
outside_block image = refl

-- a block that isn't its wave's first has the wave of the one before
not_first_wave : (draft : Image) (b : ℕ) → 1 ≤ b → is_first draft (suc b) ≡ false
    → (block_at draft (suc b)).wave ≡ (block_at draft b).wave
unfolding is_first
not_first_wave draft b l f = grind (arith, cases_eq)

first_wave_new : (draft : Image) (b : ℕ) → 1 ≤ b → is_first draft (suc b) ≡ true
    → (block_at draft (suc b)).wave ≡ (block_at draft b).wave → ⊥
unfolding is_first
first_wave_new draft b l f e = grind arith

abbrev one_of : Bool → ℕ
one_of v = cond v 1 0

abbrev zero_of : Bool → ℕ
zero_of v = 0

low_start : (xs : List Outline) → get_or (lows_from xs 0) 0 0 ≡ 0
low_start [] = refl
low_start (x ∷ xs) = grind (arith, zero_of)

module _ (draft : Image) (open_to : FitForNotes draft) where
  abbrev image : Image
  image = annotated draft

  abbrev wave : ℕ → ℕ
  wave b = (block_at image b).wave

  abbrev before : ℕ → ℕ → ℕ
  before w k = operations_before image w k

  order : WavesInOrder draft.blocks
  order = open_to.walkable.shape.waves

  waves_up : (b c : ℕ) → 1 ≤ b → b ≤ c → c ≤ length draft.blocks → wave b ≤ wave c
  waves_up b c l h k = grind (arith, waves_rise, order, wave_kept)

  waves_one : (b : ℕ) → 1 ≤ b → b ≤ length draft.blocks → 1 ≤ wave b
  waves_one b l h = grind (arith, waves_up 1 b (omega arith) l h, wave_kept draft 1, first_wave draft order)

  block : (b : ℕ) → 1 ≤ b → b ≤ length draft.blocks → IsBlock image b
  block b l h = (l, omega (arith, h, count_kept draft))

  counted : (v m : Bool) → v ≡ true → one_of (m && v) ≡ one_of m
  counted v m e = grind arith

  not_counted : (v m : Bool) → v ≡ false → one_of (m && v) ≡ 0
  not_counted v m e = grind arith

  -- before instruction 1 there is none
  none_first : (w : ℕ) → 1 ≤ w → before w 1 ≡ 0
  none_first w l = grind (arith, not_counted, image, outside_block)

  -- an instruction of another wave isn't counted
  other_wave : (w b k : ℕ) → IsBlock image b → IsIn image b k → (wave b ≡ w → ⊥)
      → before w (suc k) ≡ before w k
  other_wave w b k h i d = grind (arith, image, wave, block_of_is, not_counted)

  same_wave : (w b k : ℕ) → IsBlock image b → IsIn image b k → wave b ≡ w
      → before w (suc k) ≡ before w k + cond (is_memory image k) 1 0
  same_wave w b k h i d = grind (arith, image, wave, block_of_is, before, counted)

  -- along a block of another wave, and of this one
  along_other : (w b k : ℕ) → IsBlock image b → (wave b ≡ w → ⊥) → first_number image b ≤ k
      → k ≤ first_number image (suc b) → before w k ≡ before w (first_number image b)
  along_other w b zero h d l m = grind arith
  along_other w b (suc k) h d l m = go (cases_eq (suc k) (first_number image b))
      (λ q. along_other w b k h d q (omega arith))
    where
      go : (suc k ≡ first_number image b) ⊎ (suc k ≡ first_number image b → ⊥)
          → (first_number image b ≤ k → before w k ≡ before w (first_number image b))
          → before w (suc k) ≡ before w (first_number image b)
      go v0 v1 = grind (arith, other_wave)

  seq_step : (b k : ℕ) → IsBlock image b → IsIn image b k → sq draft b (suc k) ≡ sq draft b k + cond
      (is_memory image k) 1 0
  unfolding is_memory
  seq_step b k h i = grind (arith, marked, image, sq)

  along : (b k : ℕ) → IsBlock image b → before (wave b) (first_number image b) ≡ low_of draft b
      → first_number image b ≤ k → k ≤ first_number image (suc b) → before (wave b) k + 1 ≡ sq draft b k
  along b zero h s l m = grind (arith, marked)
  along b (suc k) h s l m = go (cases_eq (suc k) (first_number image b)) (λ q. along b k h s q (omega arith))
    where
      f : sq draft b (first_number image b) ≡ low_of draft b + 1
      f = (marked draft open_to).sq_first b h

      go : (suc k ≡ first_number image b) ⊎ (suc k ≡ first_number image b → ⊥)
          → (first_number image b ≤ k → before (wave b) k + 1 ≡ sq draft b k)
          → before (wave b) (suc k) + 1 ≡ sq draft b (suc k)
      go (inl e) rec = grind (arith, before, wave, f, sq)
      go (inr d) rec = grind (arith, image, before, wave, sq, same_wave, seq_step)

  -- no operation of a later wave comes before a block's end
  none_early : (b w : ℕ) → 1 ≤ b → b ≤ length draft.blocks → wave b < w
      → before w (first_number image (suc b)) ≡ 0
  none_early zero w l h k = absurd (omega arith)
  none_early (suc b) w l h k =
      along_other w (suc b) (first_number image (suc (suc b))) hb (λ e. absurd (omega arith))
      ((marked draft open_to).grows (suc b) hb) (omega arith)
      ∙ start (cases_eq b 0)
      (λ o. none_early b w o (omega arith) (grind (arith, waves_up)))
    where
      hb : IsBlock image (suc b)
      hb = block (suc b) (omega arith) h

      at_first : before w 1 ≡ 0
      at_first = none_first w (omega arith)

      start : (b ≡ 0) ⊎ (b ≡ 0 → ⊥) → (1 ≤ b → before w (first_number image (suc b)) ≡ 0)
          → before w (first_number image (suc b)) ≡ 0
      start (inr d) rec = rec (omega arith)
      start (inl z) rec = ap (λ (n : ℕ). before w (first_number image (suc n))) z
          ∙ (ap (before w) (number_one image) ∙ at_first)

  -- each block begins with the number of operations of its wave before it
  lows : (b : ℕ) → 1 ≤ b → b ≤ length draft.blocks → before (wave b) (first_number image b) ≡ low_of draft b
  lows (suc (suc b)) l h = go (cases_Bool (is_first draft (suc (suc b))))
      (lows (suc b) (omega arith) (omega arith))
    where
      hb : IsBlock image (suc b)
      hb = block (suc b) (omega arith) (omega arith)

      next : low_of draft (suc (suc b)) ≡ low_at (outline_at draft (suc (suc b)))
          (low_of draft (suc b) + (outline_at draft (suc b)).ops)
      next = (run draft open_to).low_next (suc b) (omega arith) h

      f : (outline_at draft (suc (suc b))).first ≡ is_first draft (suc (suc b))
      f = first_is draft (suc (suc b)) order (omega arith, h)

      go : (is_first draft (suc (suc b)) ≡ true) ⊎ (is_first draft (suc (suc b)) ≡ false)
          → before (wave (suc b)) (first_number image (suc b)) ≡ low_of draft (suc b)
          → before (wave (suc (suc b))) (first_number image (suc (suc b))) ≡ low_of draft (suc (suc b))
      go (inl e) rec = grind (arith, waves_up, cases_lt, first_wave_new, wave_kept, none_early, next, f)
      go (inr e) rec = grind (arith, wave_kept, not_first_wave, along, hb, marked, next, f)
  lows b l h = grind (arith, number_one, none_first, waves_one, low_start)

  pub numbered : NumberedInOrder image
  numbered b k h i m = grind (arith, count_kept, before, wave, sq, along, lows, image, marked)
