use Rattle.ws_isa.proofs.Ending.{over_is_whole}
use Rattle.ws_isa.proofs.GoesOn as laws
use Rattle.ws_isa.proofs.Steps.{once}
use Rattle.ws_isa.specs.Walk.{has_ended}
use Rattle.ws_isa.proofs.laws.walks_go_on.Goals as goal

pub returns : goal.returns
unfolding has_ended
returns c = record {
  instances = laws.walk_goes_on;
  acts = laws.acts_grow;
  ended = over_is_whole;
  once = once;
  waves = λ image world shape d t o. laws.waves_rise image world shape d t o;
}
