use Rattle.buffer_tests.proofs.beside_core.issue_all.Given as goal
use Rattle.df_core.specs.Cores.{IsRunning}

abbrev pub invariant-loop : goal.invariant-loop
invariant-loop l = IsRunning l.core
