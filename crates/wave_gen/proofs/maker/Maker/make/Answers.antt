use Rattle.std.proofs.lemmas.Result.{on_ok_weaker}
use Rattle.wave_gen.proofs.maker.Maker.make.Goals as goal

pub returns : goal.returns
returns c = on_ok_weaker c.emit.result (λ e b s st. e b _ (c.in_ok-make_rooms.ensures b s st)) c.emit.ensures
