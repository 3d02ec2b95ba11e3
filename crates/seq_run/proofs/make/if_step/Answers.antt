use Rattle.seq_run.proofs.Follows.{if_view}
use Rattle.seq_run.proofs.make.if_step.Goals as goal

pub returns : goal.returns
returns c = if_view c.args.test c.args.first c.args.second
