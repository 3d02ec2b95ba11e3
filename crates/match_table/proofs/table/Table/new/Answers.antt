use Rattle.std.proofs.Common.{arith}
use Rattle.match_table.proofs.Kept.{fresh_ok}
use Rattle.match_table.proofs.Spots.{no_lists}
use Rattle.match_table.proofs.table.Table.new.Goals as goal

pub invariant_of-result : goal.invariant_of-result
invariant_of-result g c = let lists = no_lists g.J.Job.image g.J.Job.world c.new.result.entries c.none.result
    c.none-2.result c.none.ensures.spots c.none.ensures.others c.none-2.ensures.spots c.none-2.ensures.others
    (fresh_ok g.J.Job.image g.J.Job.world c.new.result.entries c.new.ensures) in (grind arith)
