use Rattle.std.proofs.Common.{arith}
use Rattle.grid_clock.proofs.Firsts.{least_taken, least_kept, least_found}
use Rattle.grid_clock.proofs.issuing.first_issue.Goals as goal
use Rattle.grid_clock.proofs.issuing.first_issue.Goals.{then-may_before, else-may_before}

pub loop-place-preserved : goal.loop-place-preserved
loop-place-preserved c = grind (arith, then-may_before, least_taken, else-may_before, least_kept)

pub returns : goal.returns
returns c = grind (arith, least_found)
