use Rattle.std.proofs.Common.{[], sym, ap, ◌∙◌, arith}
use Rattle.std.specs.Prelude.{Vec}
use Rattle.std.specs.declared.alloc.Global.{Global}
use Rattle.wave_gen.specs.Wire.{Target}
use Rattle.wave_gen.specs.Tables.{listed}
use Rattle.wave_gen.proofs.Tables.Listed.{list_at, list_past, list_set, none_wanted}
use Rattle.wave_gen.proofs.table.Table.take.Goals as goal

pub returns-then-name-len-clause-list : goal.returns-then-name-len-clause-list
returns-then-name-len-clause-list c =
    ap (λ (v : Vec Target Global). v.items) c.replace.ensures.value
    ∙ list_at c.args.self.now.lists.items c.args.name c.index_mut.result.now
    (omega (arith, c.args.self.now.lists.ok.0)) c.index_mut.ensures.value

pub returns-then-name-len-clause-wants : goal.returns-then-name-len-clause-wants
returns-then-name-len-clause-wants c =
    list_set c.args.self.now.lists.items c.args.name c.replace.new.dest []
    (omega (arith, c.args.self.now.lists.ok.0))
    (ap (λ (v : Vec Target Global). v.items) c.replace.ensures.after ∙ c.new.ensures.items)

pub returns-else-name-len-clause-list : goal.returns-else-name-len-clause-list
returns-else-name-len-clause-list c = c.new-else-name-len.ensures.items
    ∙ sym (list_past c.args.self.now.lists.items c.args.name (omega (arith, c.args.self.now.lists.ok.0)))

pub returns-else-name-len-clause-wants : goal.returns-else-name-len-clause-wants
returns-else-name-len-clause-wants c = none_wanted (listed c.args.self.now.lists.items) c.args.name
    (list_past c.args.self.now.lists.items c.args.name (omega (arith, c.args.self.now.lists.ok.0)))
