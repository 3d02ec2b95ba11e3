use Rattle.std.proofs.Common.{ℕ, ◌≡◌, ◌<◌, ◌≤◌, length, take, slice_index}
use Rattle.cfg_core.specs.Graph.{spots}
use Rattle.cfg_core.specs.Tables.{graph_in}
use Rattle.cfg_core.specs.View as view
use Rattle.call_gen.specs.Spelled.{count_of, is_call, moved}
use Rattle.call_gen.proofs.numbering.places.Given as goal

abbrev pub invariant-loop-b : goal.invariant-loop-b
invariant-loop-b l = record {
  count : length l.places.items ≡ l.b;
  places : (k : ℕ) → k < l.b → slice_index l.places.items k ≡ moved (view.graph (graph_in l.table)) k;
  calls : l.calls ≡ count_of is_call (take l.b (spots (view.graph (graph_in l.table))));
  few : l.calls ≤ l.b;
}
