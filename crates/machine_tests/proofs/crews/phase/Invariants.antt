use Rattle.match_table.specs.Rows.{contents}
use Rattle.machine_tests.proofs.crews.phase.Given as goal

abbrev pub ghosts-counted : goal.ghosts-counted
ghosts-counted g a = record { most = a.limits.now; began = contents a.tables }
