use Rattle.std.specs.Prelude.{ℕ, ◌≤◌, ◌+◌, ◌*◌}
use Rattle.multi_wave.specs.Fours.{EachIs}
use Rattle.multi_wave.specs.Parts.{CostsAtMost}
use Rattle.multi_wave.proofs.Turns.{InStep}
use Rattle.multi_wave.proofs.crew.ThreadCrew.run_on.Given as goal

abbrev pub invariant-loop-phases : goal.invariant-loop-phases
invariant-loop-phases g l = record {
  step : EachIs (InStep l.phases) l.lanes;
  few : (cost : ℕ) → EachIs (CostsAtMost cost) g.M.FourParts.parts → l.phases ≤ 3 * cost + 1;
}
