use Rattle.match_table.specs.Rows.{contents}
use Rattle.match_table.proofs.Shares.{Evenly, Given}
use Rattle.fire_crew.proofs.shares.limits.Given as goal

abbrev pub invariant-loop-number : goal.invariant-loop-number
invariant-loop-number g l = record {
  given : Given (contents l.tables) l.first l.number l.limits.items l.left l.initial.left;
  evenly : Evenly (contents l.tables) l.number l.limits.items l.left l.initial.left;
}
