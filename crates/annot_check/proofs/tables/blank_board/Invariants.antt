use Rattle.std.proofs.Common.{◌≡◌, ℕ, length, get_or, false}
use Rattle.annot_check.proofs.tables.blank_board.Given as goal

abbrev pub invariant-loop : goal.invariant-loop
invariant-loop l = record {
  size : length l.board.items ≡ l.counter;
  blank : (k : ℕ) →
      get_or l.board.items k false ≡ false;
}
