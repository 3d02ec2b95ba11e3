use Rattle.std.proofs.Common.{◌≡◌, ◌+◌, length, map}
use Rattle.wave_gen.specs.View as view
use Rattle.wave_gen.specs.Kept.{KeptBehind}
use Rattle.wave_gen.proofs.block.make_blocks.Given as goal

abbrev pub invariant-loop-left : goal.invariant-loop-left
invariant-loop-left l = (length l.kept.items + l.left ≡ length l.plans)
    × KeptBehind l.width (map view.plan l.plans) l.left l.kept.items

abbrev pub decreases-loop-left : goal.decreases-loop-left
decreases-loop-left l = l.left
