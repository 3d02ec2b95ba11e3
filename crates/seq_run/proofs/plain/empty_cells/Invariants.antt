use Rattle.std.proofs.Common.{◌≡◌, take}
use Rattle.src_ast.specs.Meaning.{empty_cells}
use Rattle.seq_run.specs.View as view
use Rattle.seq_run.proofs.plain.empty_cells.Given as goal

abbrev pub invariant-loop-array : goal.invariant-loop-array
invariant-loop-array l = l.cells ≡ empty_cells (view.lengths (take l.array-index l.arrays))
