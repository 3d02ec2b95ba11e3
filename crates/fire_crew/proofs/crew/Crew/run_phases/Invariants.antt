use Rattle.std.proofs.Common.{◌≤◌}
use Rattle.match_table.specs.Rows.{contents}
use Rattle.match_table.specs.Together.{part_of}
use Rattle.fire_crew.specs.Ends.{IsGoing}
use Rattle.fire_crew.specs.Solo.{Paid}
use Rattle.fire_crew.proofs.Phases.{Steady}
use Rattle.fire_crew.proofs.crew.Crew.run_phases.Given as goal

abbrev pub invariant-loop-round : goal.invariant-loop-round
invariant-loop-round g l = Steady (contents l.initial.tables) (contents l.tables) l.fn.self.budget l.phases
    × (l.phases ≤ l.round) × IsGoing l.buffer × Paid g.J.Job.image (part_of l.tables) l.buffer l.tokens
