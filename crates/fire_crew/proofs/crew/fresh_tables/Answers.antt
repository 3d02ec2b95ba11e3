use Rattle.std.proofs.Common.{arith}
use Rattle.fire_crew.proofs.crew.fresh_tables.Goals as goal

pub fitting-requires-clause-fits : goal.fitting-requires-clause-fits
fitting-requires-clause-fits g c = grind arith
