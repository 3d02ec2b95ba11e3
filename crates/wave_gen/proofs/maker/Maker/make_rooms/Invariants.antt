use Rattle.std.proofs.Common.{ℕ, take, length}
use Rattle.wave_gen.specs.Wire.{Made, with_rooms}
use Rattle.wave_gen.specs.Tables.{HasMade}
use Rattle.wave_gen.proofs.maker.Maker.make_rooms.Given as goal

abbrev pub invariant-loop-name : goal.invariant-loop-name
invariant-loop-name l = (b : ℕ) (s : Made) → HasMade b l.initial.self s
    → HasMade b l.self (with_rooms b (length l.from) (take l.name-index l.from) s)
