use Rattle.cfg_core.specs.Graph.{spot_at}
use Rattle.cfg_core.specs.Tables.{graph_in}
use Rattle.cfg_core.specs.View as view
use Rattle.wave_gen.proofs.Tables.Marked.{none_vars}
use Rattle.wave_gen.proofs.marks.vars_at.Goals as goal

pub returns-in-None : goal.returns-in-None
returns-in-None c = none_vars (spot_at (view.graph (graph_in c.args.table.now)) c.args.i) c.in-None.ensures
