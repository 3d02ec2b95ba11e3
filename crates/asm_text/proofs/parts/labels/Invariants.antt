use Rattle.std.proofs.Common.{◌≡◌, length}
use Rattle.asm_text.specs.Forms.{labels_at}
use Rattle.asm_text.proofs.Scanning.Lists.{with_front}
use Rattle.asm_text.proofs.parts.labels.Given as goal

abbrev pub invariant-loop-label : goal.invariant-loop-label
invariant-loop-label l = with_front l.all (labels_at l.rest) ≡ labels_at l.lexemes

abbrev pub decreases-loop-label : goal.decreases-loop-label
decreases-loop-label l = length l.rest
