-- Which blocks of a draft get a no-op.
use Rattle.std.specs.Prelude.{ℕ, zero, suc, Bool, false, get_or}
use Rattle.ws_isa.specs.Image.{Image}
use Rattle.wave_link.specs.Grown.{added_in}

-- block b of the draft gets a no-op
unfoldable pub adds : Image → ℕ → Bool
adds draft zero = false
adds draft (suc n) = get_or (added_in draft.blocks) n false
