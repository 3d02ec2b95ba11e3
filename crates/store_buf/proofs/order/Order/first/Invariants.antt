use Rattle.std.proofs.Common.{◌≡◌}
use Rattle.std.specs.BinaryHeap.{heap_len}
use Rattle.df_core.specs.Places.{image_of}
use Rattle.store_buf.specs.Ordering.{AllFiled}
use Rattle.store_buf.proofs.order.Order.first.Given as goal

abbrev pub invariant-loop-number : goal.invariant-loop-number
invariant-loop-number l = record {
  filed : AllFiled (image_of l.program) l.self;
  same : l.self ≡ record l.initial.self { near = l.self.near };
}

abbrev pub decreases-loop-number : goal.decreases-loop-number
decreases-loop-number l = heap_len l.self.near.turns.heap
