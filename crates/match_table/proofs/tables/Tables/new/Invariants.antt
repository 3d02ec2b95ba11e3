use Rattle.std.proofs.Common.{◌≡◌, ◌-◌, ◌≤◌}
use Rattle.std.specs.Prelude.{vec_capacity, vec_len}
use Rattle.match_table.proofs.Phased.{Fresh}
use Rattle.match_table.proofs.tables.Tables.new.Given as goal

abbrev pub invariant-loop-alloc : goal.invariant-loop-alloc
invariant-loop-alloc g l = Fresh l.all.items × (vec_capacity l.all ≡ 16) × (vec_len l.all ≤ 16)

abbrev pub decreases-loop-alloc : goal.decreases-loop-alloc
decreases-loop-alloc g l = 16 - vec_len l.all
