use Rattle.std.specs.BinaryHeap.{heap_items, heap_len}
use Rattle.store_buf.proofs.Tops as T
use Rattle.store_buf.proofs.places.Places.drop_top.Goals as goal

pub returns-clause-others : goal.returns-clause-others
returns-clause-others c = λ a b n p t h. let old = c.args.self.now.heap in
    T.left_after (heap_items old) (heap_items c.pop.new.self) c.pop.result (heap_len old) a b n p t.some
    (old.data.ok.0) c.pop.ensures.none c.pop.ensures.top c.pop.ensures.permutation t.first h
