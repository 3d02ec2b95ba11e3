use Rattle.std.proofs.Common.{◌∙◌, sym, true, false, arith}
use Rattle.cfg_core.specs.Tables.{graph_in}
use Rattle.cfg_core.specs.View as view
use Rattle.call_gen.proofs.Spelled.Planning.{own_is}
use Rattle.call_gen.proofs.numbering.own.Goals as goal

pub returns-then-is_calling-clause-cells : goal.returns-then-is_calling-clause-cells
returns-then-is_calling-clause-cells c = own_is (view.graph (graph_in c.args.table.now)) c.args.f
    c.from.result true (sym c.if-is_calling.true ∙ c.is_calling.ensures)
    (omega (arith, c.from.ensures, c.room.ensures.vars))

pub returns-else-is_calling-clause-cells : goal.returns-else-is_calling-clause-cells
returns-else-is_calling-clause-cells c = own_is (view.graph (graph_in c.args.table.now)) c.args.f _ false
    (sym c.if-is_calling.false ∙ c.is_calling.ensures) (Rattle.std.proofs.Common.refl)
