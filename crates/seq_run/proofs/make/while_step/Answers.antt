use Rattle.seq_run.proofs.Follows.{while_view}
use Rattle.seq_run.proofs.make.while_step.Goals as goal

pub returns : goal.returns
returns c = while_view c.args.test c.args.body
