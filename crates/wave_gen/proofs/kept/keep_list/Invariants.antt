use Rattle.std.proofs.Common.{◌≡◌, ◌++◌, drop}
use Rattle.wave_gen.specs.Kept.{wants_of}
use Rattle.wave_gen.proofs.kept.keep_list.Given as goal

abbrev pub invariant-loop-spot : goal.invariant-loop-spot
invariant-loop-spot l = l.wants.items ++ wants_of l.name (drop l.spot-index l.spots) ≡ l.initial.wants.items
    ++ wants_of l.name l.spots
