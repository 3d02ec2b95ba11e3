use Rattle.std.proofs.Common.{◌≡◌, ◌++◌, drop, map}
use Rattle.cfg_core.specs.Walk as walks
use Rattle.cfg_core.specs.View as view
use Rattle.cfg_core.proofs.run.empty_cells.Given as goal

abbrev pub invariant-loop-array : goal.invariant-loop-array
invariant-loop-array l = l.cells ++ walks.cells_of (map view.array (drop l.array-index l.arrays))
    ≡ walks.cells_of (map view.array l.arrays)
