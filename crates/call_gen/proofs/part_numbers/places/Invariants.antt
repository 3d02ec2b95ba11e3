use Rattle.std.proofs.Common.{ℕ, ◌≡◌, ◌<◌, ◌≤◌, length, slice_index}
use Rattle.call_gen.specs.Part.{before}
use Rattle.call_gen.proofs.part_numbers.places.Given as goal
use Rattle.ws_words.specs.Items.{flag_at}

abbrev pub invariant-loop-b : goal.invariant-loop-b
invariant-loop-b l = record {
  count : length l.places.items ≡ l.b;
  places : (k : ℕ) → k < l.b → slice_index l.places.items k ≡ before (flag_at l.flags) k;
  sum : l.count ≡ before (flag_at l.flags) l.b;
  few : l.count ≤ l.b;
}
