use Rattle.std.proofs.Common.{arith}
use Rattle.match_table.specs.Spots.{instance_key}
use Rattle.match_table.proofs.Listed.{fired_now, place_has}
use Rattle.match_table.proofs.table.Table.fired_on.Goals as goal

pub fired_with-requires : goal.fired_with-requires
fired_with-requires g c = let k = instance_key c.listed-instance.result in
    place_has c.args.self.now.fired c.args.self.now.fired c.args.place k (λ w i h. h) c.requires
    (grind (arith, fired_now))
