use Rattle.std.proofs.Common.{arith}
use Rattle.grid_clock.proofs.Firsts.{next_is_first}
use Rattle.grid_clock.proofs.issuing.next_issue.Goals as goal

pub returns-in-Some : goal.returns-in-Some
returns-in-Some c = grind (arith, next_is_first)
