use Rattle.std.proofs.Common.{◌≡◌, ◌+◌, ◌≤◌, ℕ, length, get_or}
use Rattle.ws_isa.specs.View as view
use Rattle.ws_isa.specs.Image.{first_number}
use Rattle.annot_check.proofs.tables.first_numbers.Given as goal

abbrev pub invariant-loop-block : goal.invariant-loop-block
invariant-loop-block l = record {
  size : length l.starts.items ≡ l.block-index + 1;
  starts : (b : ℕ) → b ≤ l.block-index → get_or l.starts.items b 0 ≡ first_number (view.image l.image) b;
  number : l.number ≡ first_number (view.image l.image) (l.block-index + 1);
}
