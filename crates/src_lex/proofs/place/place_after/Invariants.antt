use Rattle.std.proofs.Common.{◌≡◌, ◌+◌, ◌<◌, ◌≤◌, take}
use Rattle.src_ast.specs.Lexemes.{after}
use Rattle.src_lex.proofs.place.place_after.Given as goal

abbrev pub invariant-loop-byte : goal.invariant-loop-byte
invariant-loop-byte l = record {
  read : l.place ≡ after l.fn.at (take l.byte-index l.bytes);
  line : 0 < l.place.line;
  column : 0 < l.place.column;
  room : l.place.line + l.place.column ≤ l.fn.at.line + l.fn.at.column + l.byte-index;
}
