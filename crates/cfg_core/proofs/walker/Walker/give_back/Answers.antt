use Rattle.std.proofs.Common.{refl}
use Rattle.cfg_core.proofs.Leaving.{given_back}
use Rattle.cfg_core.proofs.walker.Walker.give_back.Goals as goal

pub returns-in-Some : goal.returns-in-Some
returns-in-Some c = λ s frames k sh.
    given_back s frames k c.args.word c.args.self.now _ c.in-Some.frame sh c.in-Some.ensures.items
    c.take_result.ensures sh.outside refl
