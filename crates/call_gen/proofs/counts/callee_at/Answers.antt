use Rattle.cfg_core.specs.Graph.{spot_at}
use Rattle.call_gen.specs.Spelled.{callee}
use Rattle.cfg_core.specs.Tables.{graph_in}
use Rattle.cfg_core.specs.View as view
use Rattle.call_gen.proofs.Spelled.Counting.{exit_of_none}
use Rattle.call_gen.proofs.counts.callee_at.Goals as goal

pub returns-in-None : goal.returns-in-None
returns-in-None c = exit_of_none callee (spot_at (view.graph (graph_in c.args.table.now)) c.args.b)
    c.in-None.ensures
