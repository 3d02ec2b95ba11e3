use Rattle.std.proofs.Common.{◌<◌, ℕ}
use Rattle.ws_isa.specs.View as view
use Rattle.ws_isa.specs.Sound.{IsLater}
use Rattle.annot_check.proofs.targets.edges_later.Given as goal

abbrev pub invariant-loop-choice : goal.invariant-loop-choice
invariant-loop-choice l = (r : ℕ) → r < l.choice → IsLater (view.image l.image) l.number r
