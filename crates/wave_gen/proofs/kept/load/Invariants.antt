use Rattle.std.proofs.Common.{◌≡◌, ◌≤◌, length, drop}
use Rattle.wave_gen.specs.Wire.{Wants}
use Rattle.wave_gen.specs.Tables.{listed}
use Rattle.wave_gen.specs.Kept.{wanted}
use Rattle.wave_gen.proofs.kept.load.Given as goal

abbrev pub invariant-loop-left : goal.invariant-loop-left
invariant-loop-left l = (l.left ≤ length l.wants)
    × (◌≡◌ {A = Wants} (listed l.table.lists.items) (wanted (drop l.left l.wants)))

abbrev pub decreases-loop-left : goal.decreases-loop-left
decreases-loop-left l = l.left
