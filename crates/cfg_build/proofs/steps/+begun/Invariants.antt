use Rattle.std.proofs.Common.{◌≡◌, ◌+◌, suc, drop}
use Rattle.seq_run.specs.View as source
use Rattle.seq_run.specs.Weight.{weight, heft}
use Rattle.cfg_build.specs.Lowered.{begun as begun_in}
use Rattle.cfg_build.proofs.steps.+begun.Given as goal

abbrev pub decreases-begun : goal.decreases-begun
decreases-begun l = heft (source.steps l.steps.now)

abbrev pub decreases-begun_by : goal.decreases-begun_by
decreases-begun_by l = suc (weight (source.step l.step.now))

abbrev pub invariant-begun-loop-step : goal.invariant-begun-loop-step
invariant-begun-loop-step l = l.count + begun_in (source.steps (drop l.step-index l.steps)) ≡ begun_in
    (source.steps l.steps)
