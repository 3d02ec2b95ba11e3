use Rattle.wave_gen.specs.Wire.{with_uses}
use Rattle.wave_gen.specs.Tables.{listed}
use Rattle.std.proofs.Common.{slice_index, refl}
use Rattle.wave_gen.proofs.Tables.Listed.{used_more}
use Rattle.wave_gen.proofs.table.Table.add_uses.Goals as goal

pub loop-port-preserved : goal.loop-port-preserved
loop-port-preserved c =
    used_more c.args.block c.args.back c.args.from.now c.loop-port.port
    (slice_index c.args.from.now c.loop-port.port) (listed c.loop-port.self.lists.items)
    (listed c.add.new.self.lists.items) (with_uses c.args.block c.args.back 0 c.args.from.now
    (listed c.args.self.now.lists.items)) c.loop-port-test.true refl c.in_ok-add.ensures
    c.loop-port.invariant
