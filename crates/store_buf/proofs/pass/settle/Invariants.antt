use Rattle.std.proofs.Common.{ℕ, ◌≡◌, ◌≤◌, List}
use Rattle.std.specs.BinaryHeap.{heap_len, heap_capacity}
use Rattle.df_core.specs.Core as plain
use Rattle.df_core.specs.Stands.{Settles}
use Rattle.df_core.specs.Chains.{chain_of}
use Rattle.df_core.specs.Places.{image_of}
use Rattle.store_buf.specs.Earlies.{Numbered, early_ops}
use Rattle.store_buf.proofs.pass.settle.Given as goal

abbrev pub invariant-loop-number : goal.invariant-loop-number
invariant-loop-number l = record {
  settles : (d : plain.Chain) (left : List ℕ) → Settles (image_of l.program) (chain_of l.at)
      (early_ops l.early) d left → Settles (image_of l.program) (chain_of l.initial.at)
      (early_ops l.initial.early) d left;
  numbered : Numbered (image_of l.program) l.early;
  wave : l.at.wave ≡ l.initial.at.wave;
  fewer : heap_len l.early.heap ≤ heap_len l.initial.early.heap;
  room : heap_capacity l.early.heap ≡ heap_capacity l.initial.early.heap;
}

abbrev pub decreases-loop-number : goal.decreases-loop-number
decreases-loop-number l = heap_len l.early.heap
