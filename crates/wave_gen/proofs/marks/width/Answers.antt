use Rattle.std.proofs.Common.{arith}
use Rattle.cfg_core.specs.Tables.{graph_in}
use Rattle.cfg_core.specs.View as view
use Rattle.wave_gen.proofs.Tables.Marked.{vars_more, vars_less}
use Rattle.wave_gen.proofs.marks.width.Goals as goal

pub loop-i-preserved-then-most-vars : goal.loop-i-preserved-then-most-vars
loop-i-preserved-then-most-vars c =
    let t = c.args.table.now in
    vars_more (view.graph (graph_in t)) c.loop-i.i c.loop-i.most c.vars_at-vars.result (omega arith)
    (omega (arith, c.block_count-i.ensures)) c.loop-i.invariant
    c.vars_at-vars.ensures c.if-most-vars.true

pub loop-i-preserved : goal.loop-i-preserved
loop-i-preserved c =
    let t = c.args.table.now in
    vars_less (view.graph (graph_in t)) c.loop-i.i c.loop-i.most c.vars_at-vars.result (omega arith)
    (omega (arith, c.block_count-i.ensures)) c.loop-i.invariant
    c.vars_at-vars.ensures c.if-most-vars.false
