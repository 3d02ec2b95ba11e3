use Rattle.std.proofs.Common.{◌≡◌, ◌<◌, ◌≤◌, ◌⊎◌, ℕ, true, drop}
use Rattle.ws_isa.specs.Sound.{HasDest}
use Rattle.annot_check.proofs.facts.Facts.pad_leads.Given as goal
use Rattle.ws_words.specs.Items.{flag_at}

abbrev pub invariant-loop-dest : goal.invariant-loop-dest
invariant-loop-dest l = record {
  here : (j q : ℕ) → HasDest (drop l.dest-index l.dests) j q → HasDest l.dests j q;
  rest : (j q : ℕ) → HasDest l.dests j q → ((l.first ≤ j) × (j < l.next) ×
      (flag_at l.self.advances.items j ≡ true)) ⊎ HasDest (drop l.dest-index l.dests) j q;
}
