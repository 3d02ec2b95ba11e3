use Rattle.std.proofs.Common.{◌≡◌}
use Rattle.std.specs.List.{filter}
use Rattle.cfg_core.specs.Tables.{graph_in}
use Rattle.cfg_core.specs.View as view
use Rattle.call_gen.specs.Spelled.{below, is_saved}
use Rattle.call_gen.proofs.plan.CallPlan.saved.Given as goal

abbrev pub invariant-loop-x : goal.invariant-loop-x
invariant-loop-x l = l.list.items ≡ filter (is_saved (view.graph (graph_in l.self.table)) l.self.live.now
    l.home l.vars l.target l.back) (below l.x)
