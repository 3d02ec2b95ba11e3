-- The code's tokens are the result tokens.
use Rattle.std.proofs.Common.{ℕ, ◌≡◌, true, arith}
use Rattle.ws_isa.specs.Image.{Image, is_memory, sends, tokens_to}
use Rattle.df_core.specs.Places.{destinations}
use Rattle.df_core.proofs.Parts.Arriving.{memory_is_op, sends_are}
use Rattle.store_buf.specs.declared.kept.Kept.{Kept}
use Rattle.part_store.specs.Rules.{operands_at}

pub sent : (image : Image) (k : Kept) (word : ℕ) → is_memory image k.instr ≡ true →
    tokens_to k.wave word (destinations image k.instr 0) ≡ sends image k.wave k.instr
    (operands_at image k) word
sent image k word m =
    grind (arith, memory_is_op image k.instr, sends_are image k.wave k.instr (operands_at image k) word)
