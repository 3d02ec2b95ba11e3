use Rattle.std.proofs.Common.{◌≡◌, drop}
use Rattle.wave_gen.specs.Plans.{has_front}
use Rattle.wave_gen.proofs.frame.has_front.Given as goal

abbrev pub invariant-loop-spot : goal.invariant-loop-spot
invariant-loop-spot l = has_front l.block (drop l.spot-index l.spots) ≡ has_front l.block l.spots
