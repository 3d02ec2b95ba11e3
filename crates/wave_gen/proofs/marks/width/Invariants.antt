use Rattle.std.proofs.Common.{◌≡◌, drop}
use Rattle.cfg_core.specs.Graph.{spots}
use Rattle.cfg_core.specs.Tables.{graph_in}
use Rattle.cfg_core.specs.View as view
use Rattle.wave_gen.specs.Listing.{most_vars}
use Rattle.wave_gen.proofs.marks.width.Given as goal

abbrev pub invariant-loop-i : goal.invariant-loop-i
invariant-loop-i l = l.most ≡ most_vars (drop l.i (spots (view.graph (graph_in l.table))))
