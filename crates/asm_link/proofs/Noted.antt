-- A formed image that can be noted has a draft that is fit for notes and whose image stays within the limits,
-- or that is sound with notes and nothing else.
use Rattle.std.proofs.Common.{◌≡◌, ◌⊎◌, None, arith}
use Rattle.ws_isa.specs.Image.{Image}
use Rattle.ws_isa.specs.Formed.{Formed}
use Rattle.ws_isa.specs.Sound.{Sound}
use Rattle.wave_link.specs.Fit.{FitForNotes}
use Rattle.wave_link.specs.Grown.{annotated}
use Rattle.wave_link.specs.Plain.{noted}
use Rattle.wave_link.specs.Room.{MadeWithin}
use Rattle.asm_link.specs.Bare.{bare}
use Rattle.asm_link.specs.Unfit.{lack_in, room_in, lacks}
use Rattle.asm_link.specs.Linked.{CanBeNoted}
use Rattle.asm_link.proofs.Arms.{none_both}
use Rattle.asm_link.proofs.Drafts.{bare_has_none}
use Rattle.asm_link.proofs.Opens.{fits, walkable}
use Rattle.asm_link.proofs.Leaves.{stays}

pub parts : (draft : Image) → lacks draft ≡ None
    → (lack_in draft.blocks ≡ None) × (room_in draft.blocks (annotated draft).blocks ≡ None)
unfolding lacks
parts draft e = none_both (lack_in draft.blocks) (room_in draft.blocks (annotated draft).blocks) e

-- a formed image whose shape and slots are right, and whose draft lacks nothing
pub fits_notes : (image : Image) → Formed image → CanBeNoted image → lacks (bare image) ≡ None
    → FitForNotes (bare image)
fits_notes image formed can e = fits (bare image) (bare_has_none image)
    (walkable image formed can.shape can.slots) (parts (bare image) e).0

pub room_made : (image : Image) → lacks (bare image) ≡ None → MadeWithin (annotated (bare image))
room_made image e = stays (bare image).blocks (annotated (bare image)) (parts (bare image) e).1

-- what can be noted
pub noted_how : (image : Image) → Formed image → CanBeNoted image
    → (FitForNotes (bare image) × MadeWithin (annotated (bare image))) ⊎ Sound (noted (bare image))
noted_how image formed can = grind (arith, fits_notes, room_made)
