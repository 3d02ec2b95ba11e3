use Rattle.std.proofs.Common.{◌≡◌, ◌<◌, ◌+◌, ℕ}
use Rattle.ws_isa.specs.View as view
use Rattle.ws_isa.specs.Image.{instr_at, IsIn}
use Rattle.ws_isa.specs.Sound.{HasDest, IsAhead}
use Rattle.annot_check.proofs.facts.Facts.lists_ahead.Given as goal

abbrev pub invariant-loop-instr : goal.invariant-loop-instr
invariant-loop-instr l = record {
  op : l.op ≡ l.first + l.instr-index;
  dests : (k j q : ℕ) → IsIn (view.image l.image) l.number k → k < l.op →
      HasDest (instr_at (view.image l.image) k).dests j q → IsAhead (view.image l.image) l.number k j;
  others : (k j q : ℕ) → IsIn (view.image l.image) l.number k → k < l.op →
      HasDest (instr_at (view.image l.image) k).others j q → IsAhead (view.image l.image) l.number k j;
}
