use Rattle.std.proofs.Common.{ℕ, ◌≤◌, ◌<◌, ◌-◌, length, slice_index}
use Rattle.ws_isa.specs.Image.{note_of}
use Rattle.df_core.specs.Core.{IsNext}
use Rattle.df_core.specs.Chains.{chain_of}
use Rattle.df_core.specs.Places.{image_of}
use Rattle.df_core.proofs.order.find_next.Given as goal

abbrev pub invariant-loop-front : goal.invariant-loop-front
invariant-loop-front l = record {
  within : l.back ≤ length l.early;
  before : (k : ℕ) → k < l.front → k < length l.early → IsNext (chain_of l.chain)
      (note_of (image_of l.program) (slice_index l.early k)) → ⊥;
  behind : (k : ℕ) → l.back ≤ k → k < length l.early → IsNext (chain_of l.chain)
      (note_of (image_of l.program) (slice_index l.early k)) → ⊥;
}

abbrev pub decreases-loop-front : goal.decreases-loop-front
decreases-loop-front l = l.back - l.front
