use Rattle.std.proofs.Common.{arith}
use Rattle.std.proofs.lemmas.List.{get_or_past}
use Rattle.fire_crew.proofs.shares.listed_at.Goals as goal

pub returns-then-number-count_of : goal.returns-then-number-count_of
returns-then-number-count_of g c = grind (arith, get_or_past)
