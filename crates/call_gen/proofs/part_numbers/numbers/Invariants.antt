use Rattle.std.proofs.Common.{ℕ, ◌≡◌, ◌<◌, ◌≤◌, length, slice_index}
use Rattle.cfg_core.specs.Tables.{graph_in}
use Rattle.cfg_core.specs.View as view
use Rattle.call_gen.specs.Part.{number}
use Rattle.call_gen.proofs.part_numbers.numbers.Given as goal
use Rattle.ws_words.specs.Items.{flag_at}

abbrev pub invariant-loop-f : goal.invariant-loop-f
invariant-loop-f l = record {
  count : length l.numbers.items ≡ l.f;
  numbers : (k : ℕ) → k < l.f → slice_index l.numbers.items k ≡ number (view.graph (graph_in l.table))
      (flag_at l.flags) k;
  sum : l.count ≡ number (view.graph (graph_in l.table)) (flag_at l.flags) l.f;
  few : l.count ≤ l.f;
}
