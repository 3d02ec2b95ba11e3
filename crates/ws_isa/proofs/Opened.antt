-- Lemmas on open slots.
use Rattle.std.proofs.Common.{ℕ, ◌≡◌, true, refl, eq-eqb}
use Rattle.ws_isa.specs.declared.instr.Dest.{Dest}
use Rattle.ws_isa.specs.Sound.{OpenSlots, opened}

pub opened_here : (d : Dest) (o : OpenSlots) (j q : ℕ) → d.instr ≡ j → d.port ≡ q → opened d o j q ≡ true
opened_here d o j q e f = rw (eq-eqb d.instr j e, eq-eqb d.port q f) refl
