use Rattle.std.proofs.Common.{ℕ, ◌≤◌, map, drop, length}
use Rattle.wave_gen.specs.Wire.{Made, wire}
use Rattle.wave_gen.specs.View as view
use Rattle.wave_gen.specs.Tables.{HasMade}
use Rattle.wave_gen.proofs.maker.Maker.wire.Given as goal

abbrev pub invariant-loop-left : goal.invariant-loop-left
invariant-loop-left l = (l.left ≤ length l.items) × ((b : ℕ) (s : Made) → HasMade b l.initial.self s
    → HasMade b l.self (wire b (map view.item (drop l.left l.items)) s))

abbrev pub decreases-loop-left : goal.decreases-loop-left
decreases-loop-left l = l.left
