use Rattle.std.proofs.lemmas.Result.{on_ok_weaker}
use Rattle.wave_gen.proofs.Tables.Keepings.{compared_same, compared_other}
use Rattle.wave_gen.proofs.fork.Arms.compare.Goals as goal

pub returns-then-same_spots : goal.returns-then-same_spots
returns-then-same_spots c w v xs free was =
    compared_same c.args.name xs w v c.args.self.now c.list.result.now c.list-2.result.now c.same_spots.result
    c.list.ensures c.list-2.ensures c.same_spots.ensures c.if-same_spots.true free was

pub returns-else-same_spots : goal.returns-else-same_spots
returns-else-same_spots c =
    on_ok_weaker c.steer.result (λ e w v xs free was.
    compared_other c.args.name xs w v c.args.self.now c.steer.new.self c.list.result.now c.list-2.result.now
    c.same_spots.result c.list.ensures c.list-2.ensures c.same_spots.ensures c.if-same_spots.false free
    was (e w v xs free was)) c.steer.ensures
