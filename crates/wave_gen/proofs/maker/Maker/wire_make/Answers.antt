use Rattle.std.proofs.lemmas.Result.{on_ok_weaker}
use Rattle.wave_gen.proofs.Tables.Making.{make_busy}
use Rattle.wave_gen.proofs.maker.Maker.wire_make.Goals as goal

pub returns-else-is_idle : goal.returns-else-is_idle
returns-else-is_idle c =
    on_ok_weaker c.make.result (λ e b s st. make_busy b c.args.name c.args.op c.args.from.now c.args.self.now
    c.make.new.self s c.is_idle.result c.is_idle.ensures c.if-is_idle.false st (e b s st)) c.make.ensures
