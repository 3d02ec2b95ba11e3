use Rattle.std.proofs.Common.{◌≡◌, ◌++◌, drop, map}
use Rattle.ws_isa.specs.Image.{cells_of}
use Rattle.ws_isa.specs.View as view
use Rattle.store_buf.proofs.outer.empty_cells.Given as goal

abbrev pub invariant-loop-array : goal.invariant-loop-array
invariant-loop-array l = l.cells ++ cells_of (map view.array (drop l.array-index l.arrays)) ≡ cells_of
    (map view.array l.arrays)
