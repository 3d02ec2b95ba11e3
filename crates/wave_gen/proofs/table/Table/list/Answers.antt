use Rattle.std.proofs.Common.{sym, ◌∙◌, arith}
use Rattle.wave_gen.proofs.Tables.Listed.{list_at, list_past}
use Rattle.wave_gen.proofs.table.Table.list.Goals as goal

pub returns-then-name-len : goal.returns-then-name-len
returns-then-name-len c = c.deref.ensures.value ∙ list_at c.args.self.now.lists.items c.args.name
    c.index.result.now (omega (arith, c.args.self.now.lists.ok.0)) c.index.ensures

pub returns-else-name-len : goal.returns-else-name-len
returns-else-name-len c =
    sym (list_past c.args.self.now.lists.items c.args.name (omega (arith, c.args.self.now.lists.ok.0)))
