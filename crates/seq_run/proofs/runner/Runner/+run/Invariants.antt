use Rattle.std.proofs.Common.{◌≤◌, ◌+◌, suc, drop}
use Rattle.ws_words.specs.Outside.{Outside, ProcState}
use Rattle.cfg_core.specs.View as graph
use Rattle.seq_run.specs.Resolved.{While, calls_below, run_one, run_all}
use Rattle.seq_run.specs.Shows.{Holds, Upto}
use Rattle.seq_run.specs.View as view
use Rattle.seq_run.specs.Weight.{weight, heft, weight_below}
use Rattle.seq_run.proofs.runner.Runner.+run.Given as goal

abbrev pub decreases-run_call : goal.decreases-run_call
decreases-run_call l = weight_below l.below (view.procs l.self.now.procs.now)

abbrev pub decreases-run_loop : goal.decreases-run_loop
decreases-run_loop l = weight_below l.below (view.procs l.self.now.procs.now) + suc
    (heft (view.steps l.body.now))

abbrev pub decreases-run_step : goal.decreases-run_step
decreases-run_step l = weight_below l.below (view.procs l.self.now.procs.now) + suc
    (weight (view.step l.step.now))

abbrev pub decreases-run_call_for : goal.decreases-run_call_for
decreases-run_call_for l = weight_below l.below (view.procs l.self.now.procs.now) + 1

abbrev pub decreases-run_if : goal.decreases-run_if
decreases-run_if l = weight_below l.below (view.procs l.self.now.procs.now) + suc
    (heft (view.steps l.first.now) + heft (view.steps l.second.now))

abbrev pub decreases-run_steps : goal.decreases-run_steps
decreases-run_steps l = weight_below l.below (view.procs l.self.now.procs.now) + heft (view.steps l.steps.now)

abbrev pub invariant-run_loop-loop-run : goal.invariant-run_loop-loop-run
invariant-run_loop-loop-run l = record {
  fewer : l.run.turns ≤ l.initial.run.turns;
  upto : (start : Outside) (s : ProcState) → Holds start s l.initial.run.memory l.initial.vars →
      Upto start (λ at k. run_one (calls_below l.below (view.procs l.self.procs.now))
      (While (graph.term l.test) (view.steps l.body)) at k)
      (λ k. run_one (calls_below l.below (view.procs l.self.procs.now))
      (While (graph.term l.test) (view.steps l.body)) s k) l.initial.run.turns l.run.memory l.vars
      l.run.turns;
}

abbrev pub decreases-run_loop-loop-run : goal.decreases-run_loop-loop-run
decreases-run_loop-loop-run l = l.run.turns

abbrev pub invariant-run_steps-loop-step : goal.invariant-run_steps-loop-step
invariant-run_steps-loop-step l = record {
  fewer : l.run.turns ≤ l.initial.run.turns;
  upto : (start : Outside) (s : ProcState) → Holds start s l.initial.run.memory l.initial.vars →
      Upto start (run_all (calls_below l.below (view.procs l.self.procs.now))
      (view.steps (drop l.step-index l.steps)))
      (run_all (calls_below l.below (view.procs l.self.procs.now)) (view.steps l.steps) s) l.initial.run.turns
      l.run.memory l.vars l.run.turns;
}
