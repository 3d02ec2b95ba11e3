-- Sequence numbers in listing order.
use Rattle.std.specs.Prelude.{ℕ, zero, suc, ◌+◌, ◌≡◌, true, cond, ◌&&◌, eqb}
use Rattle.ws_isa.specs.Image.{Image, block_at, block_of, is_memory, note_of, IsIn, IsBlock}

-- how many operations of wave w have numbers below k
abbrev pub operations_before : Image → ℕ → ℕ → ℕ
operations_before image w zero = 0
operations_before image w (suc k) = operations_before image w k
    + cond (is_memory image k && eqb (block_at image (block_of image k)).wave w) 1 0

-- the operations of each wave are numbered in listing order, from 1 on
abbrev pub NumberedInOrder : Image → Type 0
NumberedInOrder image = (b k : ℕ) → IsBlock image b → IsIn image b k → is_memory image k ≡ true →
    (note_of image k).seq ≡ suc (operations_before image (block_at image b).wave k)
