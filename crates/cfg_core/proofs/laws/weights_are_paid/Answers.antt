use Rattle.cfg_core.proofs.Weighing.{walk_paid, multiple_pays, walk_bounded}
use Rattle.cfg_core.proofs.laws.weights_are_paid.Goals as goal

pub returns : goal.returns
returns c = record {
  walk = λ graph weight p pay rules paid. walk_paid graph rules weight pay p paid;
  multiple = λ graph weight p base pay blocks one most. multiple_pays graph weight p base pay blocks one most;
  bounded = λ graph weight p base pay blocks rules one low most. walk_bounded graph weight p base pay blocks
      rules one low most;
}
