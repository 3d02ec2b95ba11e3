use Rattle.std.proofs.Common.{◌≡◌, ◌+◌, ◌++◌, length}
use Rattle.match_table.specs.Growth.{AllGrow}
use Rattle.match_table.specs.Rows.{contents}
use Rattle.match_table.specs.Together.{AllServe, part_of}
use Rattle.fire_crew.specs.Ends.{IsGoing}
use Rattle.fire_crew.specs.Solo.{Paid}
use Rattle.fire_crew.proofs.solo.go_on.Given as goal

abbrev pub invariant-loop : goal.invariant-loop
invariant-loop g l = AllServe l.run.tables
    × AllGrow (contents l.fn.run.tables) (contents l.run.tables)
    × (length (part_of l.run.tables).fired + l.run.left
    ≡ length (part_of l.fn.run.tables).fired + l.fn.run.left)
    × IsGoing l.run.buffer
    × Paid g.J.Job.image (part_of l.run.tables) l.run.buffer (l.run.results.sent ++ l.run.way)
