use Rattle.std.proofs.Common.{refl}
use Rattle.cfg_core.specs.Graph.{spot_at}
use Rattle.cfg_core.specs.Tables.{graph_in}
use Rattle.cfg_core.specs.View as view
use Rattle.wave_gen.specs.Listing.{arms_of}
use Rattle.wave_gen.proofs.Tables.Marked.{none_marked}
use Rattle.wave_gen.proofs.marks.mark_arms_at.Goals as goal

pub returns-in-None-clause-marked : goal.returns-in-None-clause-marked
returns-in-None-clause-marked c =
    λ b l. none_marked arms_of (spot_at (view.graph (graph_in c.args.table.now)) c.args.i) b _ refl
    c.in-None.ensures
