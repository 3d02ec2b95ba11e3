use Rattle.std.proofs.Common.{◌≡◌, ◌++◌, drop, map}
use Rattle.wave_gen.specs.Plans.{sends}
use Rattle.wave_gen.specs.Tables.{tail_of}
use Rattle.wave_gen.proofs.fork.sends.Given as goal

abbrev pub invariant-loop-pad : goal.invariant-loop-pad
invariant-loop-pad l = map tail_of l.tails.items ++ sends l.pad (drop l.pad l.values) ≡ sends 0 l.values
