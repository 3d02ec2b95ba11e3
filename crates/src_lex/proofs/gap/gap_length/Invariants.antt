use Rattle.std.proofs.Common.{◌≤◌, ◌-◌, length, take, IsTrue}
use Rattle.src_ast.specs.Lexemes.{is_gap}
use Rattle.src_lex.proofs.gap.gap_length.Given as goal

abbrev pub invariant-loop-length : goal.invariant-loop-length
invariant-loop-length l = record {
  within : l.length ≤ length l.text;
  gap : IsTrue (is_gap (take l.length l.text));
}

abbrev pub decreases-loop-length : goal.decreases-loop-length
decreases-loop-length l = length l.text - l.length
