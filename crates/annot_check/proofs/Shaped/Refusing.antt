-- Refusals, and that the images that they refuse aren't sound.
use Rattle.std.proofs.Common.{arith}
use Rattle.ws_isa.specs.Image.{Image}
use Rattle.ws_isa.specs.Sound.{Sound}
use Rattle.annot_check.specs.declared.fault.Bad.{Bad}
use Rattle.annot_check.specs.Breach.{BadBreach}
use Rattle.annot_check.proofs.Slotted.Breach.{port_unsound, pending_unsound}
use Rattle.annot_check.proofs.Chained.Unlinked.{link_unsound, ripple_unsound}

pub bad_unsound : (image : Image) (bad : Bad) → BadBreach image bad → Sound image → ⊥
bad_unsound image bad h s = grind (arith, port_unsound, pending_unsound, link_unsound, ripple_unsound)
