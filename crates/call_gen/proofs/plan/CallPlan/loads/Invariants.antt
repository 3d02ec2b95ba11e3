use Rattle.std.proofs.Common.{◌≡◌, ◌++◌, map, drop}
use Rattle.cfg_core.specs.Tables.{graph_in}
use Rattle.cfg_core.specs.View as view
use Rattle.call_gen.specs.Spelled.{load}
use Rattle.call_gen.proofs.plan.CallPlan.loads.Given as goal

abbrev pub invariant-loop-x : goal.invariant-loop-x
invariant-loop-x l = map view.op l.ops.items ++ map (load (view.graph (graph_in l.self.table)) l.home)
    (drop l.x-index l.xs) ≡ map (load (view.graph (graph_in l.self.table)) l.home) l.xs
