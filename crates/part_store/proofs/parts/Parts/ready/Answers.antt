use Rattle.std.proofs.Common.{◌∙◌, sym}
use Rattle.df_core.specs.Places.{image_of}
use Rattle.part_store.specs.declared.parts.Parts.{Parts}
use Rattle.part_store.proofs.Running.Sought as S
use Rattle.part_store.proofs.parts.Parts.ready.Goals as goal

pub returns-else-may_go-2-clause-goes : goal.returns-else-may_go-2-clause-goes
returns-else-may_go-2-clause-goes g c =
    let image = image_of c.args.program.now in
    let old = c.args.self.now in
    let mid : Parts g.row.P.Denot = record old { order = c.first.new.self } in
    let new : Parts g.row.P.Denot = record old { order = c.early.new.self } in
    let is = c.in-Some-first.ensures.first in
    S.sought_early _ _ _ (record { filed = c.early.ensures.filed; stores = c.requires.filed.stores })
    c.early.ensures.early c.early.ensures.may (S.first_on image mid c.early.new.self c.early.ensures.same
    c.in-Some-first.place is (sym (c.may_go-2.ensures.goes is.here.within) ∙ c.if-may_go-2.false))
