-- Free names only grow.
use Rattle.std.proofs.Common.{ℕ, ◌≤◌, List, [], ◌∷◌, arith}
use Rattle.cfg_core.specs.Graph as graph
use Rattle.wave_gen.specs.Gen.{gen_op, gen_ops}
use Rattle.wave_gen.specs.Drawn.{exit_next}
use Rattle.wave_gen.proofs.OfItems.ReadTerms.{next_after}
use Rattle.wave_gen.proofs.OfItems.ReadExits.{source_next, many_next}

pub op_next : (op : graph.Op) (k : ℕ) → k ≤ (gen_op k op).next
op_next op k = grind (arith, next_after)

pub ops_next : (ops : List graph.Op) (k : ℕ) → k ≤ (gen_ops k ops).next
ops_next [] k = omega arith
ops_next (op ∷ ops) k = grind (arith, op_next, ops_next ops (gen_op k op).next)

pub next_of_exit : (exit : graph.Exit) (k : ℕ) → k ≤ exit_next k exit
next_of_exit exit k = grind (arith, source_next, next_after, many_next)
