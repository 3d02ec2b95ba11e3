use Rattle.std.proofs.Common.{ℕ, ◌≡◌, ◌<◌, length, slice_index}
use Rattle.cfg_core.specs.Tables.{graph_in}
use Rattle.cfg_core.specs.View as view
use Rattle.call_gen.specs.Plans.{Tallied, CallPlaced}
use Rattle.call_gen.proofs.numbering.addresses.Given as goal

abbrev pub invariant-loop-b : goal.invariant-loop-b
invariant-loop-b l = record {
  count : length l.list.items ≡ l.b;
  tallied : Tallied (view.graph (graph_in l.table)) l.counts.items l.b;
  list : (k : ℕ) → k < l.b → CallPlaced (view.graph (graph_in l.table)) k (slice_index l.list.items k);
}
