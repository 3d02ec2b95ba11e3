use Rattle.ws_isa.proofs.OneEffect.{one_effect}
use Rattle.ws_isa.proofs.laws.effects_are_one.Goals as goal

pub returns : goal.returns
returns c = λ image world p one other a b. one_effect image world p one other a b
