use Rattle.std.proofs.Common.{◌<◌, ℕ}
use Rattle.ws_isa.specs.View as view
use Rattle.ws_isa.specs.Image.{block_at, target}
use Rattle.ws_isa.specs.Sound.{HasPad}
use Rattle.annot_check.proofs.targets.edges_have.Given as goal

abbrev pub invariant-loop-choice : goal.invariant-loop-choice
invariant-loop-choice l = (r : ℕ) → r < l.choice → HasPad (block_at (view.image l.image)
    (target (view.image l.image) l.number r)).pads l.pad
