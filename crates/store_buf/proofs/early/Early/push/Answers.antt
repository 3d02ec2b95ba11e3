use Rattle.std.specs.BinaryHeap.{heap_items}
use Rattle.store_buf.proofs.Earlies as E
use Rattle.store_buf.proofs.early.Early.push.Goals as goal

pub returns-clause-more : goal.returns-clause-more
returns-clause-more c = E.one_more (heap_items c.args.self.now.heap) (heap_items c.push.new.self)
    c.args.number c.args.instr (E.ok_so c.push.result _ (c.push.ensures.succeeds c.requires.room)
    c.push.ensures.permutation)

pub returns-clause-numbered : goal.returns-clause-numbered
returns-clause-numbered c = λ image is before. E.one_numbered image (heap_items c.args.self.now.heap)
    (heap_items c.push.new.self) c.args.number c.args.instr
    (E.ok_so c.push.result _ (c.push.ensures.succeeds c.requires.room) c.push.ensures.permutation) is before
