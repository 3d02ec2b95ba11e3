use Rattle.std.proofs.Common.{length, subst}
use Rattle.std.proofs.lemmas.Result.{on_ok_weaker}
use Rattle.wave_gen.specs.declared.spot.Line.{Line}
use Rattle.wave_gen.specs.Wire as plain
use Rattle.wave_gen.specs.Wire.{rest, with_rooms}
use Rattle.wave_gen.specs.Tables.{HasMade}
use Rattle.wave_gen.proofs.Tables.Making.{bare_line}
use Rattle.wave_gen.proofs.maker.Maker.act.Goals as goal

pub returns : goal.returns
returns c =
    let from = c.args.from.now in
    let l : Line = record { op = c.args.op; dests = c.new-dests.result; others = c.new-others.result } in
    on_ok_weaker c.rest.result (λ e b s st.
    subst (λ (k : plain.WiredInstr). HasMade b c.rest.new.self
    (rest b k from (with_rooms b (length from) from s)))
    (bare_line l c.new-dests.ensures.items c.new-others.ensures.items)
    (e b (with_rooms b (length from) from s) (c.in_ok-make_rooms.ensures b s st))) c.rest.ensures
