use Rattle.std.proofs.Common.{ℕ, ◌≡◌, ◌≤◌, ◌+◌, ◌-◌, ◌*◌}
use Rattle.df_core.specs.Places.{image_of}
use Rattle.df_core.specs.Flows.{RunsOn, weight, FlowRoom}
use Rattle.df_core.proofs.drive.run.Given as goal

abbrev pub invariant-loop-flow : goal.invariant-loop-flow
invariant-loop-flow l = record {
  follows : RunsOn (image_of l.program) l.fn.flow l.flow;
  room : FlowRoom l.flow 0 (l.budget - l.flow.fired);
  within : l.flow.fired ≤ l.budget;
  kept : (n m : ℕ) → m + l.flow.fired ≡ n + l.fn.flow.fired → FlowRoom l.fn.flow 0 n
      → FlowRoom l.flow 0 m;
  gone : l.flow.memory.gone ≡ l.fn.flow.memory.gone;
}

abbrev pub decreases-loop-flow : goal.decreases-loop-flow
decreases-loop-flow l = 10 * (l.budget - l.flow.fired) + weight l.flow
