use Rattle.wsc_tests.proofs.schedules.comes_to_rest.Given as goal
use Rattle.df_core.specs.Cores.{IsRunning}

abbrev pub invariant-loop : goal.invariant-loop
invariant-loop l = IsRunning l.core
