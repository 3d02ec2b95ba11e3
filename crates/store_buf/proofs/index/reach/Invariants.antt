use Rattle.std.proofs.Common.{ℕ, suc, ◌≡◌, ◌-◌, length}
use Rattle.store_buf.specs.Trees.{root_of}
use Rattle.store_buf.proofs.index.reach.Given as goal

abbrev pub invariant-loop-roots : goal.invariant-loop-roots
invariant-loop-roots l = (w : ℕ) → root_of l.roots.items w ≡ root_of l.initial.roots.items w

abbrev pub decreases-loop-roots : goal.decreases-loop-roots
decreases-loop-roots l = suc l.wave - length l.roots.items
