use Rattle.ws_isa.proofs.GoesOn as laws
use Rattle.ws_isa.proofs.laws.loads_have_no_effect.Goals as goal

pub returns : goal.returns
returns c = record {
  load = laws.load_has_no_effect;
  other = laws.others_take_effect;
  answer = laws.answer_by_effect;
}
