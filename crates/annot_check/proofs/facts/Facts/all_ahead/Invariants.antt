use Rattle.std.proofs.Common.{◌⊎◌, ℕ, drop}
use Rattle.ws_isa.specs.View as view
use Rattle.ws_isa.specs.Sound.{HasDest, IsAhead}
use Rattle.annot_check.proofs.facts.Facts.all_ahead.Given as goal

abbrev pub invariant-loop-dest : goal.invariant-loop-dest
invariant-loop-dest l = record {
  here : (j q : ℕ) → HasDest (drop l.dest-index l.dests) j q → HasDest l.dests j q;
  rest : (j q : ℕ) → HasDest l.dests j q → IsAhead (view.image l.image) l.number l.op j ⊎
      HasDest (drop l.dest-index l.dests) j q;
}
