use Rattle.std.proofs.Common.{[]}
use Rattle.machine_tests.proofs.tables.a_table_is_a_plain_list.Given as goal

abbrev pub ghosts-are_alike : goal.ghosts-are_alike
ghosts-are_alike g a = record { image = a.image.now; world = record { input = []; left = [] }; began = [] }
