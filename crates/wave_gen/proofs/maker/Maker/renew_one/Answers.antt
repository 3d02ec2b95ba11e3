use Rattle.std.proofs.lemmas.Result.{on_ok_weaker}
use Rattle.wave_gen.proofs.Tables.Making.{renewed, not_renewed}
use Rattle.wave_gen.proofs.maker.Maker.renew_one.Goals as goal

pub returns-then-has_front : goal.returns-then-has_front
returns-then-has_front c =
    on_ok_weaker c.gather.result (λ e b s st. renewed b c.args.name c.args.self.now c.gather.new.self s
    c.list.result.now c.has_front.result c.list.ensures c.has_front.ensures c.if-has_front.true st
    (e b s st)) c.gather.ensures

pub returns-else-has_front : goal.returns-else-has_front
returns-else-has_front c b s st = not_renewed b c.args.name c.args.self.now s c.list.result.now
    c.has_front.result c.list.ensures c.has_front.ensures c.if-has_front.false st
