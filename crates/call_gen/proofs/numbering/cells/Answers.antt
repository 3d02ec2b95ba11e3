use Rattle.std.proofs.Common.{arith}
use Rattle.cfg_core.specs.Tables.{graph_in}
use Rattle.cfg_core.specs.View as view
use Rattle.call_gen.proofs.Spelled.Planning.{cells_all}
use Rattle.call_gen.proofs.numbering.cells.Goals as goal

pub overflow_cast-f-end : goal.overflow_cast-f-end
overflow_cast-f-end c = omega (arith, c.proc_count-f-end.ensures, c.requires.few.blocks)

pub returns-clause-cells : goal.returns-clause-cells
returns-clause-cells c = λ f lt. c.loop-f.invariant.starts f
    (omega (arith, lt, c.proc_count-f-end.ensures))

pub returns-clause-total : goal.returns-clause-total
returns-clause-total c = Rattle.std.proofs.Common.◌∙◌ c.loop-f.invariant.total
    (cells_all (view.graph (graph_in c.args.table.now)) c.loop-f.f
    (omega (arith, c.proc_count-f-end.ensures)))
