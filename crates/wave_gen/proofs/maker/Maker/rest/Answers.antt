use Rattle.std.proofs.Common.{refl, ◌∙◌}
use Rattle.std.proofs.lemmas.Result.{on_ok_weaker}
use Rattle.wave_gen.specs.declared.maker.Maker.{Maker}
use Rattle.wave_gen.proofs.Tables.Making.{rest_stands}
use Rattle.wave_gen.proofs.maker.Maker.rest.Goals as goal

pub returns : goal.returns
returns c =
    let m = c.args.self.now in
    let n : Maker = record { block = m.block; code = c.push.new.self; wants = c.add_uses.new.self } in
    on_ok_weaker c.add_uses.result (λ e b s st. rest_stands b m n s c.args.line c.len-back.result
    c.args.from.now refl c.in_ok-push.ensures.items (c.len-back.ensures ∙ m.code.ok.0) e st)
    c.add_uses.ensures
