use Rattle.std.proofs.Common.{arith}
use Rattle.cfg_core.specs.Tables.{graph_in}
use Rattle.cfg_core.specs.View as view
use Rattle.call_gen.specs.Spelled.{is_saved}
use Rattle.call_gen.proofs.Spelled.Planning.{saved_end}
use Rattle.call_gen.proofs.plan.CallPlan.saved.Goals as goal

pub returns : goal.returns
returns c =
    let s = c.args.self.now in
    saved_end (is_saved (view.graph (graph_in s.table)) s.live.now c.args.home c.args.vars c.args.target
    c.args.back) c.loop-x.x c.args.vars c.loop-x.list.items (omega arith) c.loop-x.invariant
