-- Serves the proof of the code alone; nobody has to believe it.
-- The first instructions of an image's blocks, as the code lists them.
use Rattle.std.specs.Prelude.{◌≡◌, ℕ, suc, ◌*◌, ◌^◌, ◌<◌, ◌≤◌, List, map, length, slice_index}
use Rattle.ws_isa.specs.declared.image.Block.{Block}
use Rattle.ws_isa.specs.Image.{flat, first_of}
use Rattle.ws_isa.specs.View as view

-- these are the numbers of the blocks' first instructions, and the number after the last instruction
pub record ListsFirsts (blocks : List Block) (firsts : List ℕ) (total : ℕ) : Type 0 where
  pub firsts_length : length firsts ≡ suc (length blocks)
  pub firsts_are : (b : ℕ) → b ≤ length blocks → slice_index firsts b ≡ first_of (map view.block blocks) b
  pub total_is : total ≡ suc (length (flat (map view.block blocks)))
  pub small : 4 * total < 2 ^ 64
