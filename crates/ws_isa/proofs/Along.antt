-- A path that has come to the end of a block, as the rules on slots speak of it.
use Rattle.std.proofs.Common.{arith, ℕ, suc, ◌≡◌, false, subst}
use Rattle.ws_isa.specs.Image.{Image, first_number, stops, target}
use Rattle.ws_isa.specs.Sound.{OpenSlots, all_opened, opens_at, Opens, EdgeInto}

-- it stands there
pub path_end : {image : Image} {b k : ℕ} {o : OpenSlots} → Opens image b k o → k ≡ first_number image (suc b)
    → Opens image b (first_number image (suc b)) o
path_end {image} {b} {k} {o} path at = subst (λ n. Opens image b n o) at path

-- it leads along each edge
pub along : {image : Image} {b k : ℕ} {o : OpenSlots} → Opens image b k o → k ≡ first_number image (suc b)
    → stops image b ≡ false → (r : ℕ) →
    EdgeInto image b (target image b r) (all_opened (opens_at image b r) o)
along path at s r = grind (arith, path_end)
