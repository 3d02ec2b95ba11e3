-- An image keeps the blocks of its draft.
use Rattle.std.proofs.Common.{arith, ◌≡◌, refl}
use Rattle.ws_isa.specs.Image.{Image}
use Rattle.wave_link.specs.Grown.{annotated}
use Rattle.wave_link.specs.Kept.{KeepsBlocks}
use Rattle.wave_link.proofs.Parted.Edges.{wave_kept, stops_kept, target_kept, first_kept, count_kept}
use Rattle.wave_link.proofs.Parted.Ops.{ops_kept}
use Rattle.wave_link.proofs.Parted.Fewer.{few_added}

arrays_kept : (draft : Image) → (annotated draft).arrays ≡ draft.arrays
unfolding annotated
arrays_kept draft = refl

pub keeps_blocks : (draft : Image) → KeepsBlocks draft (annotated draft)
keeps_blocks draft = grind (
  arith,
  arrays_kept,
  count_kept,
  wave_kept,
  stops_kept,
  target_kept,
  first_kept,
  ops_kept,
  few_added,
)
