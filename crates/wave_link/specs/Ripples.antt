-- Which ripple the annotator gives to an operation that doesn't write.
use Rattle.std.specs.Prelude.{ℕ, suc, ◌≡◌, ◌<◌, ◌≤◌, ◌⊎◌, true, false, List, Option}
use Rattle.ws_isa.specs.Image.{Image, first_number, is_writing, note_of}
use Rattle.ws_isa.specs.Sound.{InWave, ComesNext, seq}
use Rattle.ws_words.specs.Items.{In}

-- on some path inside the wave, writing operation j stands before instruction k
pub record MayPrecede (image : Image) (j k : ℕ) : Type 0 where
  pub block : ℕ
  pub done : List ℕ
  pub path : InWave image block k done
  pub within : k < first_number image (suc block)
  pub among : In j done
  pub writes : is_writing image j ≡ true

-- the ripple of operation k is the largest sequence number of these, or 0 if there is none
pub record ExactRipple (image : Image) (k : ℕ) : Type 0 where
  pub above : (j : ℕ) → MayPrecede image j k → seq image j ≤ (note_of image k).ripple
  pub met : ((note_of image k).ripple ≡ 0)
      ⊎ ((j : ℕ) × MayPrecede image j k × (seq image j ≡ (note_of image k).ripple))

-- that of each load and no-op that a path reaches is
abbrev pub ExactRipples : Image → Type 0
ExactRipples image = (k : ℕ) (last : Option ℕ) → ComesNext image last k → is_writing image k ≡ false →
    ExactRipple image k
