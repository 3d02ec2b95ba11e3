use Rattle.cfg_core.proofs.Total.{comes}
use Rattle.cfg_core.proofs.laws.walks_answer.Goals as goal

pub returns : goal.returns
returns c = comes
