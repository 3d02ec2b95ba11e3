use Rattle.std.proofs.Common.{sym, subst}
use Rattle.cfg_core.specs.Graph.{Spot, no_spot}
use Rattle.cfg_core.specs.Walk.{passed, run_ops}
use Rattle.cfg_core.specs.Shows.{NextIs}
use Rattle.cfg_core.specs.View as view
use Rattle.cfg_core.specs.Tables.{graph_in}
use Rattle.cfg_core.specs.declared.exits.Next.TheVariants.{Over}
use Rattle.cfg_core.proofs.walker.Walker.pass.Goals as goal

pub returns-in-None : goal.returns-in-None
unfolding no_spot
returns-in-None c = λ s frames k sh.
    subst (λ (x : Spot). NextIs (passed (view.graph (graph_in c.args.table.now)) (run_ops x.block.ops s k)
    x.block.exit frames) Over c.args.self.now) (sym c.in-None.ensures) (sh.outside, sh.turns)
