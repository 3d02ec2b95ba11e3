use Rattle.std.proofs.Common.{◌≡◌, []}
use Rattle.df_core.specs.Outdoors.{rows_of}
use Rattle.df_core.proofs.Walked.Acts.{took_from}
use Rattle.df_core.proofs.memory.no_words.Given as goal

abbrev pub invariant-loop : goal.invariant-loop
invariant-loop l = rows_of l.took.items ≡ took_from l.counter 1 []
