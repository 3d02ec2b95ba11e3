use Rattle.std.proofs.Common.{◌≡◌, ◌++◌}
use Rattle.df_core.specs.Outdoors.{rows_of}
use Rattle.df_core.proofs.answer.cells_of.Given as goal

abbrev pub invariant-loop-row : goal.invariant-loop-row
invariant-loop-row l = l.cells ++ rows_of l.row-iterator.rest.items ≡ rows_of l.fn.rows.items
