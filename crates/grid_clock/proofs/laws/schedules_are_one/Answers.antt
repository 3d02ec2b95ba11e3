use Rattle.grid_clock.proofs.One.{schedule_one}
use Rattle.grid_clock.proofs.laws.schedules_are_one.Goals as goal

pub returns : goal.returns
returns c = λ grid world formed sound one other state end a b. schedule_one _ _ formed sound _ _ _ _ a b
