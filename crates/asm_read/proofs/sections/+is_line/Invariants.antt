use Rattle.std.proofs.Common.{length}
use Rattle.asm_read.proofs.sections.+is_line.Given as goal

abbrev pub decreases-is_line : goal.decreases-is_line
decreases-is_line l = length l.line.now
