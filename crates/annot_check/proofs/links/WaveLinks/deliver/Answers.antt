use Rattle.std.proofs.Common.{refl, arith}
use Rattle.annot_check.proofs.Chained.Leaving.{order_entered}
use Rattle.annot_check.proofs.links.WaveLinks.deliver.Goals as goal

pub returns-clause-ready : goal.returns-clause-ready
returns-clause-ready c = order_entered c.args.self.now _ c.args.to c.in_ok-more.more c.requires.ready refl
    refl refl (omega (arith, c.requires.ready.table_size, c.requires.block.1)) c.requires.block
    c.in_ok-more.ensures.ok
