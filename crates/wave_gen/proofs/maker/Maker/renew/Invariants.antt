use Rattle.std.proofs.Common.{ℕ, take}
use Rattle.wave_gen.specs.Wire.{Made}
use Rattle.wave_gen.specs.Plans.{renew}
use Rattle.wave_gen.specs.Tables.{HasMade}
use Rattle.wave_gen.proofs.maker.Maker.renew.Given as goal

abbrev pub invariant-loop-name : goal.invariant-loop-name
invariant-loop-name l = (b : ℕ) (s : Made) → HasMade b l.initial.self s
    → HasMade b l.self (renew b (take l.name-index l.entries) s)
