use Rattle.std.specs.BinaryHeap.{heap_items, heap_len}
use Rattle.store_buf.proofs.Earlies as E
use Rattle.store_buf.proofs.Tops as T
use Rattle.store_buf.proofs.early.Early.drop_top.Goals as goal

pub returns-clause-others : goal.returns-clause-others
returns-clause-others c = λ a b n i t h. let old = c.args.self.now.heap in
    T.left_after (heap_items old) (heap_items c.pop.new.self) c.pop.result (heap_len old) a b n i t.some
    (old.data.ok.0) c.pop.ensures.none c.pop.ensures.top c.pop.ensures.permutation t.first h

pub returns-clause-back : goal.returns-clause-back
returns-clause-back c = λ n i h. E.before_gone (heap_items c.args.self.now.heap) (heap_items c.pop.new.self)
    c.pop.result (E.same_items c.pop.result _ _ c.pop.ensures.unchanged) c.pop.ensures.permutation n i h
