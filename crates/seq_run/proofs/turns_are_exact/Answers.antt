use Rattle.seq_run.proofs.Cost.{exactly, more_turns}
use Rattle.seq_run.proofs.turns_are_exact.Goals as goal

pub returns-clause-fewer : goal.returns-clause-fewer
returns-clause-fewer c = exactly

pub returns-clause-more : goal.returns-clause-more
returns-clause-more c = more_turns
