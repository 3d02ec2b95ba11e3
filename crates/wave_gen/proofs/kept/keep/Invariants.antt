use Rattle.std.proofs.Common.{◌≡◌}
use Rattle.wave_gen.specs.Tables.{listed}
use Rattle.wave_gen.specs.Kept.{wants_below}
use Rattle.wave_gen.proofs.kept.keep.Given as goal

abbrev pub invariant-loop-name : goal.invariant-loop-name
invariant-loop-name l = l.wants.items ≡ wants_below (listed l.table.lists.items) l.name
