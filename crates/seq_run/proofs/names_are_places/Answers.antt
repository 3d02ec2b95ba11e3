use Rattle.seq_run.proofs.Places.{run_same}
use Rattle.seq_run.proofs.names_are_places.Goals as goal

pub returns : goal.returns
returns c = run_same
