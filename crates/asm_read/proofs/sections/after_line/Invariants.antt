use Rattle.std.proofs.Common.{◌≡◌, ◌≤◌, length}
use Rattle.asm_read.specs.Sections.{after_line}
use Rattle.asm_read.proofs.sections.after_line.Given as goal

abbrev pub invariant-lines : goal.invariant-lines
invariant-lines l = record {
  same : after_line l.rest ≡ after_line l.fn.text;
  within : length l.rest ≤ length l.fn.text;
}

abbrev pub decreases-lines : goal.decreases-lines
decreases-lines l = length l.rest
