use Rattle.std.proofs.Common.{ℕ, ◌≡◌, ◌≤◌, List, vec_len, vec_capacity}
use Rattle.df_core.specs.Core as plain
use Rattle.df_core.specs.Stands.{Settles}
use Rattle.df_core.specs.Chains.{chain_of}
use Rattle.df_core.specs.Places.{image_of}
use Rattle.df_core.proofs.order.settle.Given as goal

abbrev pub invariant-loop-place : goal.invariant-loop-place
invariant-loop-place l = record {
  settles : (d : plain.Chain) (left : List ℕ) → Settles (image_of l.program) (chain_of l.at) l.early.items d
      left → Settles (image_of l.program) (chain_of l.initial.at) l.initial.early.items d left;
  wave : l.at.wave ≡ l.initial.at.wave;
  fewer : vec_len l.early ≤ vec_len l.initial.early;
  room : vec_capacity l.early ≡ vec_capacity l.initial.early;
}

abbrev pub decreases-loop-place : goal.decreases-loop-place
decreases-loop-place l = vec_len l.early
