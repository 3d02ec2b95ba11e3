use Rattle.std.proofs.Common.{◌≡◌, ◌≤◌, ◌++◌, length, take, reverse}
use Rattle.wave_gen.specs.Numbered.{numbers_from}
use Rattle.wave_gen.proofs.numbering.first_numbers.Given as goal

abbrev pub invariant-loop-left : goal.invariant-loop-left
invariant-loop-left l = (l.left ≤ length l.kept)
    × (l.numbers.items ++ numbers_from l.next (reverse (take l.left l.kept)) ≡ numbers_from 1
    (reverse l.kept))

abbrev pub decreases-loop-left : goal.decreases-loop-left
decreases-loop-left l = l.left
