use Rattle.cfg_core.proofs.Cost as cost
use Rattle.cfg_core.proofs.laws.turns_are_exact.Goals as goal

pub returns : goal.returns
returns c = record {
  fewer = cost.fewer;
  more = cost.longer;
  one_end = cost.one_end;
  not_both = cost.not_both;
}
