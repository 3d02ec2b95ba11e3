use Rattle.std.proofs.Common.{[]}
use Rattle.machine_tests.proofs.crews.tables_fire_within_their_quotas.Given as goal

abbrev pub ghosts-phase : goal.ghosts-phase
ghosts-phase g a = record { image = a.image.now; world = record { input = []; left = [] }; began = [] }
