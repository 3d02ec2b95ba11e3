use Rattle.std.proofs.Common.{◌+◌, ◌<◌, ◌≤◌, ◌^◌, length}
use Rattle.asm_read.proofs.Inputs.{Reading}
use Rattle.asm_read.proofs.input.words.Given as goal

abbrev pub invariant-items : goal.invariant-items
invariant-items l = record {
  read : Reading l.fn.at l.fn.text l.words l.place l.rest;
  line : 0 < l.place.line;
  column : 0 < l.place.column;
  room : l.place.line + l.place.column + length l.rest ≤ 2 ^ 32;
}

abbrev pub decreases-items : goal.decreases-items
decreases-items l = length l.rest
