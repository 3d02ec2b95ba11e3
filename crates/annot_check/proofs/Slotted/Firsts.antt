-- First blocks of waves.
use Rattle.std.proofs.Common.{ℕ, zero, suc, ◌≡◌, ◌<◌, ◌≤◌, true, List, [], ◌∷◌, length, inl, inr, arith}
use Rattle.std.proofs.Common.{eq-eqb}
use Rattle.std.proofs.lemmas.Bool.{cases_eq, cases_lt}
use Rattle.ws_isa.specs.Image.{Block, Image, no_block, block_at, is_first, IsBlock}
use Rattle.ws_isa.specs.Formed.{WavesFrom, WavesInOrder}
use Rattle.ws_isa.specs.Sound.{OpenSlots, AdvancesOpen}
use Rattle.ws_words.specs.Items.{nth, or_else}

abbrev pub wave_of : List Block → ℕ → ℕ
wave_of bs n = (or_else (nth bs n) no_block).wave

from_low : (w : ℕ) (bs : List Block) (n : ℕ) → WavesFrom w bs → n < length bs → w ≤ wave_of bs n
from_low w [] n h l = absurd (omega arith)
from_low w (x ∷ bs) zero h l = elim (h.0) [ inl e ↦ omega (arith, e) | inr e ↦ omega (arith, e) ]
from_low w (x ∷ bs) (suc n) h l = grind (arith, from_low x.wave bs n h.1 (omega (arith, l)))

rises : (w : ℕ) (bs : List Block) (m n : ℕ) → WavesFrom w bs → m ≤ n → n < length bs →
    wave_of bs m ≤ wave_of bs n
rises w (x ∷ bs) (suc m) (suc n) h o l = rises x.wave bs m n h.1 (omega (arith, o)) (omega (arith, l))
rises w bs m n h o l = grind (arith, from_low)

in_order : (bs : List Block) → WavesInOrder bs → (m n : ℕ) → m ≤ n → n < length bs
    → wave_of bs m ≤ wave_of bs n
in_order (x ∷ bs) h zero (suc n) o l = from_low x.wave bs n (rw h.0 h.1) (omega (arith, l))
in_order (x ∷ bs) h (suc m) (suc n) o l = rises 1 bs m n h.1 (omega (arith, o)) (omega (arith, l))
in_order bs h m n o l = grind arith

-- an earlier block lies in an earlier wave than the first block of a wave
before_first : (image : Image) (a b : ℕ) → WavesInOrder image.blocks → IsBlock image a → IsBlock image b →
    is_first image b ≡ true → a < b → (block_at image a).wave < (block_at image b).wave
unfolding block_at is_first
before_first image zero b o h g f l = absurd (omega (arith, h.0))
before_first image (suc a) (suc (suc b)) o h g f l = grind (
  arith,
  in_order image.blocks o a b (omega (
    arith,
    l,
  )) (omega (arith, g.1)),
  in_order image.blocks o b (suc b) (omega arith) (omega (arith, g.1)),
  cases_eq
      (wave_of image.blocks (suc b)) (wave_of image.blocks b),
  eq-eqb,
)
before_first image (suc a) b o h g f l = absurd (omega (arith, l))

-- a wave has one first block
pub one_first : (image : Image) (a b : ℕ) → WavesInOrder image.blocks → IsBlock image a → IsBlock image b →
    is_first image a ≡ true → is_first image b ≡ true → (block_at image a).wave ≡ (block_at image b).wave →
    a ≡ b
one_first image a b o h g f e w = grind (arith, cases_lt, before_first)

-- only one set of slots is that of a block's advances
pub one_opening : (image : Image) (b : ℕ) (o p : OpenSlots) → AdvancesOpen image b o → AdvancesOpen image b p
    → o ≡ p
one_opening image b o p f g = grind arith
