use Rattle.std.proofs.Common.{◌≡◌, ◌≤◌, ◌-◌}
use Rattle.df_core.specs.Places.{image_of}
use Rattle.df_core.specs.Flows.{RunsOn}
use Rattle.df_core.proofs.drive.run_on.Given as goal

abbrev pub invariant-loop-flow : goal.invariant-loop-flow
invariant-loop-flow l = record {
  follows : RunsOn (image_of l.program) l.fn.flow l.flow;
  within : l.flow.fired ≤ l.budget;
  gone : l.flow.memory.gone ≡ l.fn.flow.memory.gone;
}

abbrev pub decreases-loop-flow : goal.decreases-loop-flow
decreases-loop-flow l = l.budget - l.flow.fired
