-- Tables of the slots with which the blocks of a wave are entered, closed under edges.
use Rattle.std.specs.Prelude.{ℕ, ◌≡◌, ◌⊎◌, Bool, true, false, Option, Some}
use Rattle.ws_isa.specs.Image.{Image, block_at, first_number, stops, target, is_first, start_dests, IsBlock}
use Rattle.ws_isa.specs.Sound.{OpenSlots, none_open, all_opened, Fresh, opens_at, Opens, AdvancesOpen}
use Rattle.annot_check.specs.Runs.{run, GoodRun}

-- the table says with which slots a path enters the edge's block
pub record EdgeDone (image : Image) (known : ℕ → Option OpenSlots) (b r : ℕ) (o : OpenSlots) : Type 0 where
  pub fresh : Fresh (opens_at image b r) o
  pub slots : OpenSlots
  pub lands : known (target image b r) ≡ Some slots
  pub leaves : all_opened (opens_at image b r) o ≡ slots
  pub crossing : is_first image (target image b r) ≡ true →
      AdvancesOpen image (target image b r) slots

-- the end of a block: nothing is open at a stop, and each edge is done
pub record Ended (image : Image) (known : ℕ → Option OpenSlots) (b : ℕ) (o : OpenSlots) : Type 0 where
  pub stop : stops image b ≡ true → (j q : ℕ) → o j q ≡ false
  pub edges : stops image b ≡ false → (r : ℕ) → EdgeDone image known b r o

pub record BlockDone (image : Image) (known : ℕ → Option OpenSlots) (b : ℕ) (o : OpenSlots) : Type 0 where
  pub here : IsBlock image b
  pub good : GoodRun (block_at image b).instrs (first_number image b) o
  pub ended : Ended image known b (run (block_at image b).instrs (first_number image b) o)

-- the start pulse enters block 1 with exactly the slots of its advances
pub record Begun (image : Image) : Type 0 where
  pub fresh : Fresh (start_dests image) none_open
  pub begins : AdvancesOpen image 1 (all_opened (start_dests image) none_open)

-- a path enters block b, the first of its wave, with exactly the slots of its advances
pub record CameTo (image : Image) (b : ℕ) : Type 0 where
  pub here : IsBlock image b
  pub first : is_first image b ≡ true
  pub slots : OpenSlots
  pub path : Opens image b (first_number image b) slots
  pub advances : AdvancesOpen image b slots

-- what is passed with the wave of block f: that block, and blocks that aren't the first of a wave
abbrev pub PassedWith : Image → ℕ → ℕ → Type 0
PassedWith image f b = (b ≡ f) ⊎ (is_first image b ≡ false)

-- the slots with which the blocks of the wave of block f are entered: a table that is closed under
-- edges up to first blocks of waves, which are among these
pub record WaveTable (image : Image) (among : ℕ → Type 0) (f : ℕ)
    (known : ℕ → Option OpenSlots) : Type 0 where
  pub slots : OpenSlots
  pub starts : known f ≡ Some slots
  pub begins : AdvancesOpen image f slots
  pub across : (b : ℕ) (slots : OpenSlots) → known b ≡ Some slots → is_first image b ≡ true → among b
  pub done : (b : ℕ) (slots : OpenSlots) → known b ≡ Some slots → PassedWith image f b →
      BlockDone image known b slots

pub record WaveDone (image : Image) (among : ℕ → Type 0) (f : ℕ) : Type 0 where
  pub known : ℕ → Option OpenSlots
  pub table : WaveTable image among f known

-- the first blocks of waves that are reached, each with its wave's table
pub record Closed (image : Image) (come : ℕ → Bool) : Type 0 where
  pub begun : Begun image
  pub one : come 1 ≡ true
  pub came : (b : ℕ) → come b ≡ true → CameTo image b
  pub waves : (b : ℕ) → come b ≡ true → WaveDone image (λ c. come c ≡ true) b
