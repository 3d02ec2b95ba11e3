-- Drafts without no-ops.
use Rattle.std.specs.Prelude.{ℕ, ◌≡◌}
use Rattle.ws_isa.specs.declared.instr.Op.TheVariants.{Nop}
use Rattle.ws_isa.specs.Image.{Image, instr_at, IsInstr}

-- no instruction is a no-op
abbrev pub HasNoNop : Image → Type 0
HasNoNop image = (k : ℕ) → IsInstr image k → (instr_at image k).op ≡ Nop → ⊥
