use Rattle.std.proofs.Common.{arith}
use Rattle.wave_gen.proofs.Tables.Keepings.{kept_all}
use Rattle.wave_gen.proofs.kept.keep.Goals as goal

pub returns : goal.returns
returns c = kept_all c.args.table.now.lists.items c.loop-name.name c.loop-name.wants.items
    (omega (arith, c.args.table.now.lists.ok.0)) c.loop-name.invariant
