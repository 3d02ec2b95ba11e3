use Rattle.annot_check.proofs.Shaped.Refusing.{bad_unsound}
use Rattle.annot_check.proofs.laws.breaches_break.Goals as goal

pub returns : goal.returns
returns c = bad_unsound
