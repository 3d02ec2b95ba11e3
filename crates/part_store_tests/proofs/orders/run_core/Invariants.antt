use Rattle.part_store_tests.proofs.orders.run_core.Given as goal
use Rattle.df_core.specs.Cores.{IsRunning}

abbrev pub invariant-loop : goal.invariant-loop
invariant-loop l = IsRunning l.core
