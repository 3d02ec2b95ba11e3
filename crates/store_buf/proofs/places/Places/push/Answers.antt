use Rattle.std.specs.BinaryHeap.{heap_items}
use Rattle.store_buf.specs.Ranks.{under}
use Rattle.store_buf.proofs.Tops as T
use Rattle.store_buf.proofs.places.Places.push.Goals as goal

pub returns-clause-ok : goal.returns-clause-ok
returns-clause-ok c = T.came_here (heap_items c.args.self.now.heap) (heap_items c.push.new.self)
    (under c.args.number c.args.place) c.in_ok-push.ensures.permutation

pub returns-clause-kept : goal.returns-clause-kept
returns-clause-kept c = λ n p h. T.came_beside (heap_items c.args.self.now.heap) (heap_items c.push.new.self)
    (under n p) (under c.args.number c.args.place) c.in_ok-push.ensures.permutation h
