use Rattle.match_table.specs.Rows.{contents}
use Rattle.fire_crew.proofs.crew.Crew.run_phase.Given as goal

abbrev pub ghosts-phase : goal.ghosts-phase
ghosts-phase g a = record { most = a.limits.now; began = contents a.tables }
