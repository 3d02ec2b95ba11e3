-- An image whose draft is fit for notes, and whose image with them stays within the limits, can be noted.
use Rattle.std.proofs.Common.{◌≡◌, None, inl, inr, arith}
use Rattle.ws_isa.specs.Image.{Image}
use Rattle.ws_isa.specs.Sound.{Sound}
use Rattle.wave_link.specs.Fit.{FitForNotes}
use Rattle.wave_link.specs.Grown.{annotated}
use Rattle.wave_link.specs.Plain.{noted}
use Rattle.wave_link.specs.Room.{MadeWithin}
use Rattle.wave_link.proofs.Sound.Unnoted.{slots_on, shape_on}
use Rattle.asm_link.specs.Bare.{bare}
use Rattle.asm_link.specs.Unfit.{lacks}
use Rattle.asm_link.specs.Linked.{CanBeNoted}
use Rattle.asm_link.proofs.Drafts.{back}
use Rattle.asm_link.proofs.Opens.{exits_in}
use Rattle.asm_link.proofs.Leaves.{room_back}
use Rattle.asm_link.proofs.Only.{lacks_none}
use Rattle.asm_link.proofs.Plain.{unnoted}

none_lacks : (draft : Image) → FitForNotes draft → MadeWithin (annotated draft) → lacks draft ≡ None
unfolding lacks
none_lacks draft fit stays = grind (arith, lacks_none, exits_in, room_back)

pub exact : (image : Image) → FitForNotes (bare image) → MadeWithin (annotated (bare image))
    → CanBeNoted image
exact image fit stays = record {
  shape = shape_on (bare image) image (back image) fit.walkable.shape;
  slots = slots_on (bare image) image (back image) fit.walkable.slots;
  fit = inl (none_lacks (bare image) fit stays);
}

-- with notes and nothing else it is sound
pub exact_plain : (image : Image) → Sound (noted (bare image)) → CanBeNoted image
exact_plain image sound = record {
  shape = shape_on (bare image) image (back image) (shape_on (noted (bare image)) (bare image)
      (unnoted (bare image)) sound.shape);
  slots = slots_on (bare image) image (back image) (slots_on (noted (bare image)) (bare image)
      (unnoted (bare image)) sound.slots);
  fit = inr sound;
}
