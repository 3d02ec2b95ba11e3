use Rattle.cfg_core.proofs.AllShown.{ended_shown, going_shown, stays_inside}
use Rattle.cfg_core.proofs.laws.nothing_hidden.Goals as goal

pub returns : goal.returns
returns c = record { ends = ended_shown; goes = going_shown; inside = stays_inside }
