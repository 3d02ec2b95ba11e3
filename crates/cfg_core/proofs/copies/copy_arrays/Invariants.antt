use Rattle.std.proofs.Common.{◌≡◌, ◌++◌, map, drop}
use Rattle.cfg_core.specs.View as view
use Rattle.cfg_core.proofs.copies.copy_arrays.Given as goal

abbrev pub invariant-loop-a : goal.invariant-loop-a
invariant-loop-a l = map view.array l.list.items ++ map view.array (drop l.a-index l.arrays) ≡ map view.array
    l.arrays
