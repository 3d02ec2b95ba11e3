use Rattle.std.proofs.lemmas.Result.{on_ok_weaker}
use Rattle.wave_gen.proofs.Tables.Making.{room_made}
use Rattle.wave_gen.proofs.maker.Maker.make_room.Goals as goal

pub returns-then-is_full : goal.returns-then-is_full
returns-then-is_full c =
    let m = c.args.self.now in
    on_ok_weaker c.gather.result (λ e b s st. room_made b c.args.more c.args.name m c.gather.new.self s
    c.is_full.result c.is_full.ensures c.if-is_full.true st (e b s st)) c.gather.ensures
