use Rattle.std.proofs.Common.{◌⊎◌, ℕ, length}
use Rattle.df_core.specs.Core.{IsSent}
use Rattle.store_buf.specs.Runs.{Covers}
use Rattle.store_buf.proofs.rounds.Rounds.pour.Given as goal

abbrev pub invariant-loop-token : goal.invariant-loop-token
invariant-loop-token g l = Covers l.initial.self l.self ×
    ((w i p v : ℕ) → IsSent l.fn.tokens w i p v → IsSent l.self w i p v ⊎ IsSent l.rest w i p v)

abbrev pub decreases-loop-token : goal.decreases-loop-token
decreases-loop-token g l = length l.rest
