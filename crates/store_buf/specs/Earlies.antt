-- Issued operations of a wave that the chain hasn't passed.
use Rattle.std.specs.Prelude.{ℕ, ◌≡◌, ◌<◌, ◌≤◌, List, map, slice_index_or}
use Rattle.std.specs.List.{Contains}
use Rattle.std.specs.BinaryHeap.{heap_items, heap_len, heap_capacity}
use Rattle.std.specs.declared.cmp.Reverse.{Reverse}
use Rattle.ws_isa.specs.Image.{Image, note_of}
use Rattle.store_buf.specs.Ranks.{under}
use Rattle.store_buf.specs.declared.early.Early.{Early}

-- the operations with their numbers
abbrev pub early_items : Early → List (Reverse (ℕ × ℕ))
early_items early = heap_items early.heap

-- how many there are
abbrev pub early_len : Early → ℕ
early_len early = heap_len early.heap

-- how many there is room for
abbrev pub early_capacity : Early → ℕ
early_capacity early = heap_capacity early.heap

-- the operations
abbrev pub early_ops : Early → List ℕ
early_ops early = map (λ r. r.0.1) (heap_items early.heap)

-- the operation is there, under this number
abbrev pub StandsUnder : Early → ℕ → ℕ → Type 0
StandsUnder early n i = Contains (heap_items early.heap) (under n i)

-- each is there under its sequence number
abbrev pub Numbered : Image → Early → Type 0
Numbered image early = (n i : ℕ) → StandsUnder early n i → n ≡ (note_of image i).seq

-- this is the top, and none is under a smaller number
pub record IsFirst (early : Early) (n i : ℕ) : Type 0 where
  pub some : 0 < heap_len early.heap
  pub first : slice_index_or (heap_items early.heap) 0 (under n i) ≡ under n i
  pub least : (a b : ℕ) → StandsUnder early a b → n ≤ a
