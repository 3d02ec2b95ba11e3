use Rattle.std.proofs.Common.{◌≡◌, drop}
use Rattle.phi_conv.specs.Joined as joined
use Rattle.phi_conv.proofs.written.is_among.Given as goal

abbrev pub invariant-loop-y : goal.invariant-loop-y
invariant-loop-y l = joined.is_among (drop l.y-index l.numbers) l.x ≡ joined.is_among l.numbers l.x
