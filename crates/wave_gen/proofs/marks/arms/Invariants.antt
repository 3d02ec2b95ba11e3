use Rattle.std.proofs.Common.{ℕ, ◌≡◌, ◌<◌, length, drop}
use Rattle.cfg_core.specs.Graph.{spots}
use Rattle.cfg_core.specs.Tables.{graph_in}
use Rattle.cfg_core.specs.View as view
use Rattle.wave_gen.specs.Listing.{in_some, arms_of}
use Rattle.wave_gen.proofs.marks.arms.Given as goal
use Rattle.ws_words.specs.Items.{flag_at}

abbrev pub invariant-loop-i : goal.invariant-loop-i
invariant-loop-i l = record {
  count : length l.flags.items ≡ length (spots (view.graph (graph_in l.table)));
  marked : (b : ℕ) → b < length (spots (view.graph (graph_in l.table)))
      → flag_at l.flags.items b ≡ in_some arms_of (drop l.i (spots (view.graph (graph_in l.table)))) b;
}
