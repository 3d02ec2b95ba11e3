use Rattle.std.proofs.Common.{◌≡◌, ◌<◌, ◌≤◌, ℕ}
use Rattle.ws_isa.specs.declared.instr.Op.TheVariants.{Send}
use Rattle.annot_check.specs.Spread.{op_of}
use Rattle.annot_check.proofs.facts.Facts.sends.Given as goal

abbrev pub invariant-loop-at : goal.invariant-loop-at
invariant-loop-at l = (k : ℕ) → l.first ≤ k → k < l.at → op_of l.self.ops.items k ≡ Send l.pad → ⊥
