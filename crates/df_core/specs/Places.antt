-- The instructions of an image by number, as the code holds them.
use Rattle.std.specs.Prelude.{◌≡◌, ℕ, List, ◌++◌}
use Rattle.ws_isa.specs.Image.{Image, Instr, instr_at, block_of, now_dests, edge_dests}
use Rattle.ws_isa.specs.declared.instr.Dest.{Dest}
use Rattle.ws_isa.specs.View as view
use Rattle.df_core.specs.declared.program.Program.{Program}

abbrev pub image_of : Program → Image
image_of p = view.image p.image.now

-- this is the instruction with a number, and this its block
pub record PlaceIs (image : Image) (number : ℕ) (i : Instr) (b : ℕ) : Type 0 where
  pub instr : i ≡ instr_at image number
  pub block : b ≡ block_of image number

-- where an instance sends its result, if this is the operand by which it chooses
unfoldable pub destinations : Image → ℕ → ℕ → List Dest
destinations image k selector = now_dests image k ++ edge_dests image (block_of image k) selector k
