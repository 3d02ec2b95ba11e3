use Rattle.wsc_tests.proofs.events.refuses.Given as goal
use Rattle.df_core.specs.Cores.{IsRunning}

abbrev pub invariant-loop-row : goal.invariant-loop-row
invariant-loop-row l = IsRunning l.core
