use Rattle.std.proofs.Common.{◌≡◌, drop}
use Rattle.wave_gen.specs.Plans.{same_spots}
use Rattle.wave_gen.proofs.fork.same_spots.Given as goal

abbrev pub invariant-loop-i : goal.invariant-loop-i
invariant-loop-i l = same_spots (drop l.i l.one) (drop l.i l.other) ≡ same_spots l.one l.other
