use Rattle.std.proofs.Common.{◌≡◌, length}
use Rattle.asm_text.specs.Forms.{targets_at}
use Rattle.asm_text.proofs.Scanning.Lists.{with_front}
use Rattle.asm_text.proofs.parts.targets.Given as goal

abbrev pub invariant-loop-target : goal.invariant-loop-target
invariant-loop-target l = with_front l.all (targets_at l.rest) ≡ targets_at l.lexemes

abbrev pub decreases-loop-target : goal.decreases-loop-target
decreases-loop-target l = length l.rest
