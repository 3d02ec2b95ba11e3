use Rattle.buffer_tests.proofs.beside_core.can_match.Given as goal
use Rattle.df_core.specs.Cores.{IsRunning}

abbrev pub invariant-loop-wave : goal.invariant-loop-wave
invariant-loop-wave l = IsRunning l.core
