use Rattle.std.proofs.Common.{◌∙◌, ap}
use Rattle.wave_gen.specs.Tables.{listed}
use Rattle.wave_gen.proofs.Tables.Listed.{list_push}
use Rattle.wave_gen.proofs.table.Table.reach.Goals as goal

pub loop-alloc-preserved : goal.loop-alloc-preserved
loop-alloc-preserved c =
    ap listed c.in_ok-push.ensures.items ∙ list_push c.loop-alloc.self.lists.items c.new.result
    c.new.ensures.items ∙ c.loop-alloc.invariant
