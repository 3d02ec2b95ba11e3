use Rattle.seq_run.proofs.Whole.{cells_more}
use Rattle.seq_run.proofs.plain.empty_cells.Goals as goal

pub loop-array-preserved : goal.loop-array-preserved
loop-array-preserved c = cells_more c.args.arrays.now c.loop-array.array-index c.array-item.result
    c.loop-array.cells c.push.new.self c.in_ok-zeros.field-0 c.loop-array-test.true c.array-item.is
    c.loop-array.invariant c.in_ok-zeros.ensures c.in_ok-push.ensures.ok
