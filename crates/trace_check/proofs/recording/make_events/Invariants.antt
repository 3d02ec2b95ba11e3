use Rattle.trace_check.specs.Recorded.{MakesEvents}
use Rattle.trace_check.proofs.recording.make_events.Given as goal
use Rattle.df_core.specs.Cores.{IsRunning}

abbrev pub invariant-loop : goal.invariant-loop
invariant-loop l = record {
  core : IsRunning l.core;
  made : MakesEvents l.budget l.events l.initial.core l.core;
}
