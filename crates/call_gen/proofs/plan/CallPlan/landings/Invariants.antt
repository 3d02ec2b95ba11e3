use Rattle.std.proofs.Common.{◌≡◌, take}
use Rattle.cfg_core.specs.Graph.{spots}
use Rattle.cfg_core.specs.Tables.{graph_in}
use Rattle.cfg_core.specs.View as view
use Rattle.call_gen.specs.Spelled.{landings_from}
use Rattle.call_gen.proofs.plan.CallPlan.landings.Given as goal

abbrev pub invariant-loop-b : goal.invariant-loop-b
invariant-loop-b l = l.points.items ≡ landings_from l.f 0 0
    (take l.b (spots (view.graph (graph_in l.self.table))))
