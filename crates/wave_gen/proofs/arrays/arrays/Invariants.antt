use Rattle.std.proofs.Common.{◌≡◌, ◌++◌, map, drop}
use Rattle.ws_isa.specs.View as image
use Rattle.cfg_core.specs.View as view
use Rattle.wave_gen.specs.Words.{array_of}
use Rattle.wave_gen.proofs.arrays.arrays.Given as goal

abbrev pub invariant-loop-a : goal.invariant-loop-a
invariant-loop-a l = map image.array l.list.items ++ map array_of
    (map view.array (drop l.a-index l.graph.arrays.items)) ≡ map array_of
    (map view.array l.graph.arrays.items)
