use Rattle.grid_clock.proofs.One.{clocked_one}
use Rattle.grid_clock.proofs.laws.clocks_are_one.Goals as goal

pub returns : goal.returns
returns c = clocked_one
