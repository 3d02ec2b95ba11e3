use Rattle.std.proofs.Common.{[], ◌∷◌, subst}
use Rattle.ws_isa.specs.declared.instr.Op.TheVariants.{Halt}
use Rattle.wave_gen.specs.declared.spot.Line.{Line}
use Rattle.wave_gen.specs.Wire as plain
use Rattle.wave_gen.specs.Wire.{rest}
use Rattle.wave_gen.specs.Plans.{pulse}
use Rattle.wave_gen.specs.Tables.{HasMade}
use Rattle.wave_gen.proofs.Tables.Making.{bare_line}
use Rattle.wave_gen.proofs.maker.Maker.halt.Goals as goal

pub returns-clause-made : goal.returns-clause-made
returns-clause-made c b s st =
    let l : Line = record { op = Halt; dests = c.new.result; others = c.new-2.result } in
    subst (λ (k : plain.WiredInstr). HasMade b c.rest.new.self (rest b k (pulse ∷ []) s))
    (bare_line l c.new.ensures.items c.new-2.ensures.items) (c.in_ok-rest.ensures b s st)
