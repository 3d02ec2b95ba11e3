use Rattle.std.proofs.Common.{ℕ, ◌≡◌, ◌≤◌, ◌<◌, length}
use Rattle.df_core.specs.Places.{image_of}
use Rattle.df_core.specs.Flows.{asked_at, AskedMay}
use Rattle.df_core.proofs.flow.Flow.ready.Given as goal

abbrev pub invariant-loop-place : goal.invariant-loop-place
invariant-loop-place l = record {
  within : l.place ≤ length l.self.asked.items;
  behind : (k : ℕ) → l.place ≤ k → k < length l.self.asked.items → (asked_at l.self k).wave ≡ l.wave
      → (asked_at l.self k).instr ≡ l.instr → AskedMay (image_of l.program) l.self k → ⊥;
}

abbrev pub decreases-loop-place : goal.decreases-loop-place
decreases-loop-place l = l.place
