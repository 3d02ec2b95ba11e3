-- That without an added no-op no annotations would do.
use Rattle.std.specs.Prelude.{ℕ, suc, ◌+◌, List, [], ◌∷◌, length, Option}
use Rattle.ws_isa.specs.declared.instr.Note.{Note}
use Rattle.ws_isa.specs.Image.{Instr, Block, Image, IsBlock}
use Rattle.ws_isa.specs.Sound.{LinkRules}
use Rattle.wave_link.specs.Triggers.{IsAdded}
use Rattle.wave_link.specs.Vain.{without}

-- The same image with other annotations: instruction k has the annotation `notes k`.

abbrev pub renoted_instrs : (ℕ → Option Note) → ℕ → List Instr → List Instr
renoted_instrs notes k [] = []
renoted_instrs notes k (i ∷ is) =
    record { op = i.op; note = notes k; dests = i.dests; others = i.others }
    ∷ renoted_instrs notes (suc k) is

abbrev pub renoted_block : (ℕ → Option Note) → ℕ → Block → Block
renoted_block notes k b = record {
  wave = b.wave;
  pads = b.pads;
  instrs = renoted_instrs notes k b.instrs;
  exit = b.exit;
}

abbrev pub renoted_blocks : (ℕ → Option Note) → ℕ → List Block → List Block
renoted_blocks notes k [] = []
renoted_blocks notes k (b ∷ bs) =
    renoted_block notes k b ∷ renoted_blocks notes (k + length b.instrs) bs

unfoldable pub renoted : Image → (ℕ → Option Note) → Image
renoted image notes = record { arrays = image.arrays; blocks = renoted_blocks notes 1 image.blocks }

-- without an added instruction the image breaks the rules on links, whatever its annotations are
abbrev pub NeverLinked : Image → Image → Type 0
NeverLinked draft image = (b n : ℕ) (notes : ℕ → Option Note) → IsBlock draft b →
    IsAdded draft image b n → LinkRules (renoted (without image n) notes) → ⊥
