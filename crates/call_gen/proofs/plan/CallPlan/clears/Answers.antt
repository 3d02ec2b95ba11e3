use Rattle.std.proofs.Common.{map, ◌+◌, arith}
use Rattle.cfg_core.specs.Tables.{graph_in}
use Rattle.cfg_core.specs.View as view
use Rattle.call_gen.specs.Spelled.{is_unset}
use Rattle.call_gen.proofs.Spelled.Planning.{clears_next}
use Rattle.call_gen.proofs.plan.CallPlan.clears.Goals as goal

pub loop-x-preserved : goal.loop-x-preserved
loop-x-preserved c =
    let s = c.args.self.now in let g = view.graph (graph_in s.table) in
    clears_next (is_unset g s.live.now c.args.f c.args.params) c.loop-x.x (c.loop-x.x + 1)
    (map view.op c.loop-x.ops.items) (map view.op c.clear_if.new.ops.items) c.is_unset-hit.result
    (omega arith) c.is_unset-hit.ensures c.loop-x.invariant c.in_ok-clear_if.ensures
