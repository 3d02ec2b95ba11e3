use Rattle.std.proofs.Common.{◌≡◌, ◌+◌, ◌<◌, ◌^◌, suc, drop}
use Rattle.seq_run.specs.View as source
use Rattle.seq_run.specs.Weight.{weight, heft}
use Rattle.cfg_build.specs.Lowered.{begun as begun_in}
use Rattle.cfg_build.specs.Building.{number, emit, StepsFit}
use Rattle.cfg_build.specs.Views.{builder as builder_of}
use Rattle.cfg_build.proofs.steps.+lower.Given as goal

abbrev pub decreases-lower_steps : goal.decreases-lower_steps
decreases-lower_steps l = heft (source.steps l.steps.now)

abbrev pub decreases-lower_step : goal.decreases-lower_step
decreases-lower_step l = suc (weight (source.step l.step.now))

abbrev pub decreases-lower_if : goal.decreases-lower_if
decreases-lower_if l = suc (heft (source.steps l.first.now) + heft (source.steps l.second.now))

abbrev pub decreases-lower_while : goal.decreases-lower_while
decreases-lower_while l = suc (heft (source.steps l.body.now))

abbrev pub invariant-lower_steps-loop-step : goal.invariant-lower_steps-loop-step
invariant-lower_steps-loop-step l = record {
  emitted : emit (source.steps (drop l.step-index l.steps)) (builder_of l.builder)
      ≡ emit (source.steps l.steps) (builder_of l.initial.builder);
  room : number (builder_of l.builder) + begun_in (source.steps (drop l.step-index l.steps)) < 2 ^ 32;
  ports : StepsFit (source.steps (drop l.step-index l.steps));
}
