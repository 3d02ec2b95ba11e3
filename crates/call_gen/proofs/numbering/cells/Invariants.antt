use Rattle.std.proofs.Common.{ℕ, ◌≡◌, ◌<◌, ◌^◌, length, slice_index}
use Rattle.cfg_core.specs.Tables.{graph_in}
use Rattle.cfg_core.specs.View as view
use Rattle.call_gen.specs.Spelled.{first_cell}
use Rattle.call_gen.proofs.numbering.cells.Given as goal

abbrev pub invariant-loop-f : goal.invariant-loop-f
invariant-loop-f l = record {
  count : length l.starts.items ≡ l.f;
  starts : (k : ℕ) → k < l.f → slice_index l.starts.items k ≡ first_cell (view.graph (graph_in l.table)) k;
  total : l.total ≡ first_cell (view.graph (graph_in l.table)) l.f;
  some : l.total < 2 ^ 32;
}
