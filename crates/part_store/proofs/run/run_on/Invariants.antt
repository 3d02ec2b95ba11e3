use Rattle.std.proofs.Common.{◌≤◌, length}
use Rattle.match_table.specs.Tables.{part}
use Rattle.part_store.specs.Runs.{PaidWhile}
use Rattle.part_store.proofs.run.run_on.Given as goal

abbrev pub invariant-loop : goal.invariant-loop
invariant-loop g l = (length l.run.table.fired ≤ l.budget) ×
    PaidWhile g.J.Job.image (part l.run.table) l.run.buffer l.run.way
