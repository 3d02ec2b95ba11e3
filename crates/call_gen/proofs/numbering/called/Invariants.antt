use Rattle.std.proofs.Common.{ℕ, ◌≡◌, ◌<◌, false, length, slice_index_or}
use Rattle.cfg_core.specs.Tables.{graph_in}
use Rattle.cfg_core.specs.View as view
use Rattle.call_gen.specs.Spelled.{is_called}
use Rattle.call_gen.proofs.numbering.called.Given as goal

abbrev pub invariant-loop-f : goal.invariant-loop-f
invariant-loop-f l = record {
  count : length l.flags.items ≡ l.f;
  flags : (k : ℕ) → k < l.f → slice_index_or l.flags.items k false ≡ is_called (view.graph (graph_in l.table))
      k;
}
