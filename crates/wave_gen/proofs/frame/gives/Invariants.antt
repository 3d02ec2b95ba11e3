use Rattle.std.proofs.Common.{◌≡◌, ◌≤◌, length, take, map, reverse}
use Rattle.wave_gen.specs.Plans.{gives}
use Rattle.wave_gen.specs.Tables.{line_of}
use Rattle.wave_gen.proofs.frame.gives.Given as goal

abbrev pub invariant-loop-left : goal.invariant-loop-left
invariant-loop-left l = (l.left ≤ length l.code)
    × (gives (reverse (map line_of (take l.left l.code))) ≡ gives (reverse (map line_of l.code)))

abbrev pub decreases-loop-left : goal.decreases-loop-left
decreases-loop-left l = l.left
