use Rattle.seq_run.specs.Resolved.{calls_below}
use Rattle.seq_run.proofs.TurnsLeft.{all_most, calls_most}
use Rattle.seq_run.proofs.turns_never_grow.Goals as goal

pub returns : goal.returns
returns c = λ procs below. all_most (calls_below below procs) (calls_most below procs)
