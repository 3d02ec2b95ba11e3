use Rattle.std.proofs.Common.{arith}
use Rattle.fire_crew.proofs.Telling.{tells}
use Rattle.fire_crew.proofs.laws.ends_are_told.Goals as goal

pub returns : goal.returns
returns c = grind (arith, tells)
