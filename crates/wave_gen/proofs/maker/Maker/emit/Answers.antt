use Rattle.std.proofs.Common.{refl}
use Rattle.std.proofs.lemmas.Result.{on_ok_weaker}
use Rattle.wave_gen.specs.declared.spot.Line.{Line}
use Rattle.wave_gen.specs.declared.maker.Maker.{Maker}
use Rattle.wave_gen.proofs.Tables.Making.{emit_stands}
use Rattle.wave_gen.proofs.maker.Maker.emit.Goals as goal

pub returns : goal.returns
returns c =
    let m = c.args.self.now in let t = c.take-dests in
    let k : Maker = record { block = m.block; code = m.code; wants = t.new.self } in
    let l : Line = record { op = c.args.op; dests = t.result; others = c.new-others.result } in
    on_ok_weaker c.rest.result (λ e b s st. emit_stands b c.args.name c.args.op c.args.from.now m k
    c.rest.new.self s l refl refl t.ensures.wants refl t.ensures.list c.new-others.ensures.items (e b) st)
    c.rest.ensures
