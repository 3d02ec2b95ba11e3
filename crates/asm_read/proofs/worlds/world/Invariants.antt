use Rattle.std.proofs.Common.{◌≡◌}
use Rattle.asm_read.proofs.Empties.{empties}
use Rattle.asm_read.proofs.worlds.world.Given as goal

abbrev pub invariant-loop : goal.invariant-loop
invariant-loop l = l.left ≡ empties l.counter
