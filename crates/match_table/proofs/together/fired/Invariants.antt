use Rattle.std.proofs.Common.{◌≡◌, take}
use Rattle.match_table.specs.Rows.{contents}
use Rattle.match_table.proofs.Shares.{total}
use Rattle.match_table.proofs.together.fired.Given as goal

abbrev pub invariant-loop-number : goal.invariant-loop-number
invariant-loop-number g l = l.count ≡ total (take l.number (contents l.tables))
