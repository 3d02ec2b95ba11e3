use Rattle.std.proofs.Common.{arith, refl}
use Rattle.match_table.proofs.Phased.{rest_next, rest_out}
use Rattle.match_table.proofs.lent.take_out.Goals as goal

pub new-requires-2 : goal.new-requires-2
new-requires-2 g c =
    let next = rest_next _ _ _ _ _ _ _ c.requires.rest c.tables.view_is c.requires.there
    c.index_mut.ensures.value c.replace-table.ensures.value in
    (omega arith, (next.0, ((c.requires.most, rw c.requires.most next.1), next.2)))

pub returns : goal.returns
returns g c = rest_out _ _ _ _ _ _ (rw c.tables.view_is c.requires.rest) refl
