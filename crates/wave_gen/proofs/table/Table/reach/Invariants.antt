use Rattle.std.proofs.Common.{◌≡◌, ◌+◌, ◌-◌, vec_len}
use Rattle.wave_gen.specs.Tables.{listed}
use Rattle.wave_gen.specs.Wire.{Wants}
use Rattle.wave_gen.proofs.table.Table.reach.Given as goal

abbrev pub invariant-loop-alloc : goal.invariant-loop-alloc
invariant-loop-alloc l = ◌≡◌ {A = Wants} (listed l.self.lists.items) (listed l.initial.self.lists.items)

abbrev pub decreases-loop-alloc : goal.decreases-loop-alloc
decreases-loop-alloc l = (l.name + 1) - vec_len l.self.lists
