use Rattle.std.proofs.Common.{ℕ, ◌≤◌, drop, length}
use Rattle.wave_gen.specs.Wire.{Made}
use Rattle.wave_gen.specs.Plans.{advances}
use Rattle.wave_gen.specs.Tables.{HasMade}
use Rattle.wave_gen.proofs.maker.Maker.advance.Given as goal

abbrev pub invariant-loop-left : goal.invariant-loop-left
invariant-loop-left l = (l.left ≤ length l.entries) × ((b : ℕ) (s : Made) → HasMade b l.initial.self s
    → HasMade b l.self (advances b (drop l.left l.entries) s))

abbrev pub decreases-loop-left : goal.decreases-loop-left
decreases-loop-left l = l.left
