use Rattle.ws_isa.specs.View as view
use Rattle.annot_check.specs.Facts.{HaltState}
use Rattle.annot_check.proofs.facts.Facts.halts_ok.Given as goal

abbrev pub invariant-loop-at : goal.invariant-loop-at
invariant-loop-at l = HaltState (view.image l.image) l.number l.first l.at l.halted
