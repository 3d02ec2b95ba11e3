use Rattle.std.proofs.Common.{◌≡◌, ◌≤◌, length, drop}
use Rattle.wave_gen.specs.Wire.{Wants}
use Rattle.wave_gen.specs.Plans.{fronts}
use Rattle.wave_gen.specs.Tables.{listed}
use Rattle.wave_gen.proofs.at_start.fronts.Given as goal

abbrev pub invariant-loop-left : goal.invariant-loop-left
invariant-loop-left l = (l.left ≤ length l.entries)
    × (◌≡◌ {A = Wants} (listed l.table.lists.items) (fronts l.block l.left (drop l.left l.entries)))

abbrev pub decreases-loop-left : goal.decreases-loop-left
decreases-loop-left l = l.left
