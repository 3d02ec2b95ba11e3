use Rattle.std.proofs.Common.{◌≡◌, ◌<◌, ◌≤◌, ℕ}
use Rattle.ws_isa.specs.View as view
use Rattle.ws_isa.specs.Image.{block_at, target}
use Rattle.ws_isa.specs.declared.instr.Op.TheVariants.{Send}
use Rattle.ws_isa.specs.Sound.{HasPad}
use Rattle.annot_check.specs.Spread.{op_of}
use Rattle.annot_check.specs.Table.{choices_of}
use Rattle.annot_check.proofs.facts.Facts.sends_land.Given as goal

abbrev pub invariant-loop-pad : goal.invariant-loop-pad
invariant-loop-pad l = (k p r : ℕ) → l.first ≤ k → k < l.next → op_of l.self.ops.items k ≡ Send p →
    p < l.pad → r < choices_of (block_at (view.image l.image) l.number).exit →
    HasPad (block_at (view.image l.image) (target (view.image l.image) l.number r)).pads p
