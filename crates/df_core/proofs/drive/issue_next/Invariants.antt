use Rattle.std.proofs.Common.{ℕ, ◌≡◌, ◌≤◌}
use Rattle.df_core.specs.Places.{image_of}
use Rattle.df_core.specs.Flows.{RunsOn, weight, FlowRoom}
use Rattle.df_core.proofs.drive.issue_next.Given as goal

abbrev pub invariant-loop-place : goal.invariant-loop-place
invariant-loop-place l = record {
  follows : RunsOn (image_of l.program) l.initial.flow l.flow;
  room : (n : ℕ) → FlowRoom l.initial.flow 0 n → FlowRoom l.flow 0 n;
  weight : weight l.flow ≤ weight l.initial.flow;
  count : l.flow.fired ≡ l.initial.flow.fired;
  gone : l.flow.memory.gone ≡ l.initial.flow.memory.gone;
}

abbrev pub decreases-loop-place : goal.decreases-loop-place
decreases-loop-place l = weight l.flow
