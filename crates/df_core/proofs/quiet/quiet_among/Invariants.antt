use Rattle.std.proofs.Common.{ℕ, ◌≡◌, ◌≤◌, ◌<◌, true, length, slice_index_or}
use Rattle.df_core.specs.Places.{image_of}
use Rattle.df_core.specs.Ways.{token_of, no_token}
use Rattle.df_core.specs.Quiet.{fills}
use Rattle.df_core.proofs.quiet.quiet_among.Given as goal

abbrev pub invariant-loop-place : goal.invariant-loop-place
invariant-loop-place l = record {
  within : l.place ≤ length l.tokens;
  behind : (k : ℕ) → l.place ≤ k → k < length l.tokens → fills (image_of l.program) l.slots
      (token_of (slice_index_or l.tokens k no_token)) ≡ true;
}

abbrev pub decreases-loop-place : goal.decreases-loop-place
decreases-loop-place l = l.place
