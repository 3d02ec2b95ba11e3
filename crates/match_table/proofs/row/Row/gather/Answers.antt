use Rattle.std.proofs.Common.{refl}
use Rattle.match_table.proofs.Phased.{rest_home}
use Rattle.match_table.proofs.row.Row.gather.Goals as goal

pub returns-clause-fits : goal.returns-clause-fits
returns-clause-fits g c = (rest_home _ _ _ _ refl c.put_back-4.ensures).0

pub returns-clause-grow : goal.returns-clause-grow
returns-clause-grow g c = (rest_home _ _ _ _ refl c.put_back-4.ensures).1
