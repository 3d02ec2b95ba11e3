use Rattle.std.proofs.Common.{ℕ, ◌≡◌, ◌≤◌, ◌<◌, length, false}
use Rattle.df_core.specs.Chains.{chain_of, may_flag}
use Rattle.df_core.specs.Places.{image_of}
use Rattle.df_core.specs.Flows.{asked_at}
use Rattle.df_core.proofs.flow.Flow.issuable.Given as goal

abbrev pub invariant-loop-place : goal.invariant-loop-place
invariant-loop-place l = record {
  within : l.place ≤ length l.self.asked.items;
  behind : (k : ℕ) → l.place ≤ k → k < length l.self.asked.items → may_flag (image_of l.program)
      (chain_of l.self.chain) (asked_at l.self k).wave (asked_at l.self k).instr
      (asked_at l.self k).operands.first ≡ false;
}

abbrev pub decreases-loop-place : goal.decreases-loop-place
decreases-loop-place l = l.place
