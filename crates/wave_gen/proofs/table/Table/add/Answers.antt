use Rattle.std.proofs.lemmas.Result.{on_ok_weaker}
use Rattle.wave_gen.specs.Tables.{listed}
use Rattle.wave_gen.proofs.Tables.Listed.{wanted_more}
use Rattle.wave_gen.proofs.table.Table.add.Goals as goal

pub returns : goal.returns
returns c =
    let t = c.take-list in
    on_ok_weaker c.put.result (λ e. wanted_more (listed c.args.self.now.lists.items)
    (listed t.new.self.lists.items) (listed c.put.new.self.lists.items) c.args.name c.args.spot
    t.result.items c.insert.new.self.items t.ensures.list c.in_ok-insert.ensures.items t.ensures.wants e)
    c.put.ensures
