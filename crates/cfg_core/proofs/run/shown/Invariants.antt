use Rattle.std.proofs.Common.{◌≡◌, ◌++◌, drop, map}
use Rattle.cfg_core.specs.View as view
use Rattle.cfg_core.specs.Shown.{shown_cells}
use Rattle.cfg_core.proofs.run.shown.Given as goal

abbrev pub invariant-loop-i : goal.invariant-loop-i
invariant-loop-i l = l.rows ++ shown_cells (map view.array (drop l.i l.arrays)) (drop l.i l.cells)
    ≡ shown_cells (map view.array l.arrays) l.cells
