use Rattle.std.proofs.Common.{◌≡◌, map}
use Rattle.std.specs.List.{filter}
use Rattle.cfg_core.specs.Tables.{graph_in}
use Rattle.cfg_core.specs.View as view
use Rattle.call_gen.specs.Spelled.{below, is_unset, clear}
use Rattle.call_gen.proofs.plan.CallPlan.clears.Given as goal

abbrev pub invariant-loop-x : goal.invariant-loop-x
invariant-loop-x l = map view.op l.ops.items ≡ map clear
    (filter (is_unset (view.graph (graph_in l.self.table)) l.self.live.now l.f l.params) (below l.x))
