use Rattle.std.proofs.Common.{◌≡◌, ◌++◌, map, drop}
use Rattle.cfg_core.specs.Graph.{spots, spots_from}
use Rattle.cfg_core.specs.View as view
use Rattle.call_gen.proofs.numbering.homes.Given as goal

abbrev pub invariant-loop-f : goal.invariant-loop-f
invariant-loop-f l = l.homes.items ++ map (λ s. s.home)
    (spots_from l.f (map view.proc (drop l.f l.graph.procs.items))) ≡ map (λ s. s.home)
    (spots (view.graph l.graph))
