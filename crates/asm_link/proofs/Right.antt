-- What is refused can't be noted.
use Rattle.std.proofs.Common.{arith}
use Rattle.ws_isa.specs.Image.{Image}
use Rattle.annot_check.specs.declared.fault.Bad.{Bad}
use Rattle.annot_check.proofs.Slotted.Breach.{port_unsound, pending_unsound}
use Rattle.asm_link.specs.declared.fault.LinkRefusal.{LinkRefusal}
use Rattle.asm_link.specs.Linked.{BreaksDraft, BreaksImage, CanBeNoted}

of_draft : (image : Image) (bad : Bad) → BreaksDraft image bad → CanBeNoted image → ⊥
of_draft image bad h can = grind (arith, port_unsound, pending_unsound)

pub right : (image : Image) (refusal : LinkRefusal) → BreaksImage image refusal → CanBeNoted image → ⊥
right image refusal h can = grind (arith, of_draft)
