use Rattle.df_core.proofs.Parts.Stepping.{runs_same}
use Rattle.df_core.proofs.engine.Core.prepare.Goals as goal

pub returns-clause-core : goal.returns-clause-core
returns-clause-core c = runs_same c.args.self.now c.prepare.new.self c.prepare.ensures.same
