use Rattle.std.proofs.Common.{List, ℕ, ap, sym, subst}
use Rattle.std.proofs.lemmas.Result.{on_ok_weaker}
use Rattle.ws_isa.specs.declared.instr.Op.{Op}
use Rattle.wave_gen.specs.Wire.{rest}
use Rattle.wave_gen.specs.Plans.{operands_of}
use Rattle.wave_gen.specs.Tables.{HasMade, line_of}
use Rattle.wave_gen.proofs.Tables.Hanging.{operands_other}
use Rattle.wave_gen.proofs.maker.Maker.hang.Goals as goal

pub returns-in-Send : goal.returns-in-Send
returns-in-Send c =
    let t = c.args.tail in
    on_ok_weaker c.rest.result
    (λ e b s st. subst (λ (xs : List ℕ). HasMade b c.rest.new.self (rest b (line_of t.line) xs s))
    (sym (ap (λ (o : Op). operands_of o t.held c.args.selector) c.in-Send.is)) (e b s st)) c.rest.ensures

pub returns-in_default : goal.returns-in_default
returns-in_default c =
    let t = c.args.tail in
    on_ok_weaker c.rest-in_default.result
    (λ e b s st. subst (λ (xs : List ℕ). HasMade b c.rest-in_default.new.self
    (rest b (line_of t.line) xs s))
    (sym (operands_other t.line.op t.held c.args.selector c.in_default.not-Send)) (e b s st))
    c.rest-in_default.ensures
