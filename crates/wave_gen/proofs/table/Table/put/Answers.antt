use Rattle.std.proofs.Common.{refl, ap, ◌∙◌}
use Rattle.wave_gen.specs.Wire.{Wants, with_wants}
use Rattle.wave_gen.proofs.Tables.Listed.{list_set}
use Rattle.wave_gen.proofs.table.Table.put.Goals as goal

pub returns : goal.returns
returns c =
    list_set c.reach.new.self.lists.items c.args.name c.args.list c.args.list.items c.in_ok-reach.ensures.room
    refl
    ∙ ap (λ (w : Wants). with_wants w c.args.name c.args.list.items) c.in_ok-reach.ensures.wants
