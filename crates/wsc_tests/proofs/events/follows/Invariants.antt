use Rattle.wsc_tests.proofs.events.follows.Given as goal
use Rattle.df_core.specs.Cores.{IsRunning}

abbrev pub invariant-loop-refused : goal.invariant-loop-refused
invariant-loop-refused l = IsRunning l.core
