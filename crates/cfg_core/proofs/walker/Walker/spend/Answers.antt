use Rattle.cfg_core.proofs.Follows.{spent, none_left}
use Rattle.cfg_core.proofs.walker.Walker.spend.Goals as goal

pub returns-then-n-self : goal.returns-then-n-self
returns-then-n-self c = λ s frames k sh. spent s frames k c.args.self.now sh c.args.n c.if-n-self.true

pub returns-else-n-self : goal.returns-else-n-self
returns-else-n-self c = λ s frames k sh. none_left s frames k c.args.self.now sh c.args.n c.if-n-self.false
