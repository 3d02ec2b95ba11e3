use Rattle.std.proofs.Common.{◌≡◌, ◌++◌, map, drop}
use Rattle.seq_run.specs.View as source
use Rattle.cfg_core.specs.View as view
use Rattle.cfg_build.specs.Lowered as lowered
use Rattle.cfg_build.proofs.arrays.arrays.Given as goal

abbrev pub invariant-loop-shape : goal.invariant-loop-shape
invariant-loop-shape l = map view.array l.list.items ++ lowered.arrays
    (source.names (drop l.shape-index l.shapes)) (source.lengths (drop l.shape-index l.shapes))
    ≡ lowered.arrays (source.names l.shapes) (source.lengths l.shapes)
