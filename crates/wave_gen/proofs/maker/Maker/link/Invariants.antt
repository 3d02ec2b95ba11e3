use Rattle.std.proofs.Common.{ℕ, ◌+◌, ◌-◌, ◌≤◌}
use Rattle.wave_gen.specs.Wire.{Made, wire}
use Rattle.wave_gen.specs.Plans.{chain}
use Rattle.wave_gen.specs.Tables.{HasMade}
use Rattle.wave_gen.proofs.maker.Maker.link.Given as goal

abbrev pub invariant-loop-left : goal.invariant-loop-left
invariant-loop-left l = (l.left ≤ l.links) × ((b : ℕ) (s : Made) → HasMade b l.initial.self s
    → HasMade b l.self (wire b (chain (l.test + l.left) (l.links - l.left)) s))

abbrev pub decreases-loop-left : goal.decreases-loop-left
decreases-loop-left l = l.left
