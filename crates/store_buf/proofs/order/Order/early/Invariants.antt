use Rattle.std.proofs.Common.{◌≡◌}
use Rattle.std.specs.BinaryHeap.{heap_len}
use Rattle.df_core.specs.Places.{image_of}
use Rattle.store_buf.specs.Ordering.{AllFiled}
use Rattle.store_buf.proofs.order.Order.early.Given as goal

abbrev pub invariant-loop-ripple : goal.invariant-loop-ripple
invariant-loop-ripple l = record {
  filed : AllFiled (image_of l.program) l.self;
  same : l.self ≡ record l.initial.self { near = l.self.near };
}

abbrev pub decreases-loop-ripple : goal.decreases-loop-ripple
decreases-loop-ripple l = heap_len l.self.near.loads.heap
