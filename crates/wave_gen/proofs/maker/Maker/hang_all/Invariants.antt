use Rattle.std.proofs.Common.{ℕ, ◌≡◌, List, ◌++◌, length, map}
use Rattle.wave_gen.specs.declared.tails.Tail.{Tail}
use Rattle.wave_gen.specs.Wire.{Made}
use Rattle.wave_gen.specs.Tables.{HasMade, tail_of, hangs}
use Rattle.wave_gen.proofs.maker.Maker.hang_all.Given as goal

abbrev pub invariant-loop-tail : goal.invariant-loop-tail
invariant-loop-tail l = (rest : List Tail) × (l.fn.tails.items ≡ l.tails.items ++ rest)
    × ((b : ℕ) (s : Made) → HasMade b l.initial.self s
    → HasMade b l.self (hangs b l.test (length l.tails.items) (map tail_of rest) s))

abbrev pub decreases-loop-tail : goal.decreases-loop-tail
decreases-loop-tail l = length l.tails.items
