use Rattle.std.proofs.Common.{◌<◌, ◌≡◌, ℕ, true}
use Rattle.ws_isa.specs.View as view
use Rattle.ws_isa.specs.Image.{is_first, target}
use Rattle.annot_check.proofs.targets.edges_cross.Given as goal

abbrev pub invariant-loop-choice : goal.invariant-loop-choice
invariant-loop-choice l = (r : ℕ) → r < l.choice → is_first (view.image l.image)
    (target (view.image l.image) l.number r) ≡ true
