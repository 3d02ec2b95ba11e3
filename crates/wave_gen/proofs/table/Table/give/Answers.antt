use Rattle.std.proofs.Common.{ap, ◌++◌, ◌∙◌, List}
use Rattle.std.proofs.lemmas.Result.{on_ok_weaker}
use Rattle.wave_gen.specs.Wire.{Target}
use Rattle.wave_gen.specs.Tables.{listed}
use Rattle.wave_gen.proofs.Tables.Listed.{wanted_moved}
use Rattle.wave_gen.proofs.table.Table.give.Goals as goal

pub returns : goal.returns
returns c =
    let t = c.take-list in
    on_ok_weaker c.put.result (λ e. wanted_moved (listed c.args.self.now.lists.items)
    (listed t.new.self.lists.items) (listed c.put.new.self.lists.items) c.args.name c.args.other
    t.result.items c.extend_from_slice.new.self.items c.requires t.ensures.list t.ensures.wants
    (c.in_ok-extend_from_slice.ensures.items ∙ ap (λ (l : List Target). t.result.items ++ l)
    c.list.ensures) e) c.put.ensures
