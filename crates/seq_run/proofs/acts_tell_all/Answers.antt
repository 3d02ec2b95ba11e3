use Rattle.seq_run.proofs.OneAnswer.{acts_tell, fronts}
use Rattle.seq_run.proofs.acts_tell_all.Goals as goal

pub returns-clause-left : goal.returns-clause-left
returns-clause-left c = acts_tell

pub returns-clause-fronts : goal.returns-clause-fronts
returns-clause-fronts c = fronts
