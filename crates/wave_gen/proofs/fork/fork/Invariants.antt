use Rattle.std.proofs.Common.{◌-◌, ◌≤◌}
use Rattle.wave_gen.specs.Plans.{differing}
use Rattle.wave_gen.specs.Tables.{listed}
use Rattle.wave_gen.specs.Kept.{Forked}
use Rattle.wave_gen.proofs.fork.fork.Given as goal

abbrev pub invariant-loop-name : goal.invariant-loop-name
invariant-loop-name l = (l.name ≤ l.width) × Forked (listed l.fn.some.lists.items)
    (listed l.fn.none.lists.items) (differing (listed l.fn.some.lists.items) (listed l.fn.none.lists.items)
    l.name (l.width - l.name)) l.arms

abbrev pub decreases-loop-name : goal.decreases-loop-name
decreases-loop-name l = l.name
