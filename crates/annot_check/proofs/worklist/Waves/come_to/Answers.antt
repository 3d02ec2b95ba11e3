use Rattle.std.proofs.Common.{refl}
use Rattle.annot_check.proofs.Slotted.Come.{come_more, read_false}
use Rattle.annot_check.proofs.worklist.Waves.come_to.Goals as goal

pub returns-clause-more : goal.returns-clause-more
returns-clause-more c = come_more c.args.self.now _ c.args.number c.requires
    (read_false c.args.self.now.come.items c.args.number c.index.result.now c.requires c.index.ensures
    c.if-index.false) refl c.in_ok-push.ensures.items
