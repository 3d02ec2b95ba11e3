use Rattle.std.proofs.Common.{ℕ, ◌≤◌, ◌<◌, length}
use Rattle.df_core.specs.Ways.{IsTokenAt}
use Rattle.df_core.proofs.way.find_token.Given as goal

abbrev pub invariant-loop-place : goal.invariant-loop-place
invariant-loop-place l = record {
  within : l.place ≤ length l.tokens;
  behind : (k : ℕ) → l.place ≤ k → k < length l.tokens → IsTokenAt l.tokens k l.wave l.instr l.port → ⊥;
}

abbrev pub decreases-loop-place : goal.decreases-loop-place
decreases-loop-place l = l.place
