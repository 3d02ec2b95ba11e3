-- Only loads and stores go past an end.
use Rattle.std.proofs.Common.{arith, ℕ, ◌≡◌, true, false, List, refl}
use Rattle.std.proofs.lemmas.Bool.{both_ways}
use Rattle.ws_isa.specs.declared.instr.Op.{Op}
use Rattle.ws_isa.specs.Image.{Image, Array, instr_at, is_memory, is_memory_op, is_past, is_past_op}
use Rattle.ws_isa.specs.Walk.{Inst}
use Rattle.ws_isa.specs.Operations.{past}

plain_within_op : (arrays : List Array) (op : Op) (xs : List ℕ) → is_memory_op op ≡ false
    → is_past_op arrays op xs ≡ false
plain_within_op arrays op xs e = grind (arith, both_ways)

past_memory_op : (arrays : List Array) (op : Op) (xs : List ℕ) → is_past_op arrays op xs ≡ true
    → is_memory_op op ≡ true
past_memory_op arrays op xs e = grind (arith, both_ways)

pub plain_within : (image : Image) (k : ℕ) (xs : List ℕ) → is_memory image k ≡ false
    → is_past image k xs ≡ false
unfolding is_memory is_past
plain_within image k xs e = plain_within_op image.arrays (instr_at image k).op xs e

pub past_memory : (image : Image) (k : ℕ) (xs : List ℕ) → is_past image k xs ≡ true → is_memory image k ≡ true
unfolding is_memory is_past
past_memory image k xs e = past_memory_op image.arrays (instr_at image k).op xs e

pub past_is : (image : Image) (x : Inst) → past image x ≡ is_past image x.instr x.operands
unfolding past
past_is image x = refl
