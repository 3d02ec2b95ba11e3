use Rattle.std.proofs.Common.{◌≡◌, ◌++◌, drop}
use Rattle.wave_gen.specs.Wire.{dests_of}
use Rattle.wave_gen.specs.Numbered.{number_at}
use Rattle.wave_gen.proofs.numbering.dests.Given as goal

abbrev pub invariant-loop-spot : goal.invariant-loop-spot
invariant-loop-spot l = l.dests.items ++ dests_of (number_at l.numbers) (drop l.spot-index l.spots) ≡ dests_of
    (number_at l.numbers) l.spots
