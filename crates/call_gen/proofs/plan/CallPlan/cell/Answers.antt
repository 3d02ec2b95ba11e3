use Rattle.std.proofs.Common.{arith}
use Rattle.cfg_core.specs.Tables.{graph_in}
use Rattle.cfg_core.specs.View as view
use Rattle.call_gen.proofs.Spelled.Planning.{first_in_all}
use Rattle.call_gen.proofs.plan.CallPlan.cell.Goals as goal

pub overflow_add-number : goal.overflow_add-number
overflow_add-number c = omega (
  arith,
  first_in_all (view.graph (graph_in c.args.self.now.table)) c.args.home
      (omega (arith, c.requires.there)),
  c.requires.plan.total,
  c.requires.plan.some,
  c.first_cell.ensures,
)
