use Rattle.std.proofs.Common.{refl}
use Rattle.match_table.proofs.Phased.{rest_back}
use Rattle.match_table.proofs.lent.put_back.Goals as goal

pub returns : goal.returns
returns g c = rest_back _ _ _ _ _ _ (rw c.tables.view_is c.requires.rest)
    (c.into_table.ensures.serves, c.into_table.ensures.within, c.into_table.ensures.grows) refl
