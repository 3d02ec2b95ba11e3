use Rattle.std.proofs.Common.{◌≡◌, ◌<◌, ◌≤◌, ◌⊎◌, ℕ, true, drop, map}
use Rattle.ws_isa.specs.View as view
use Rattle.ws_isa.specs.Image.{Pad}
use Rattle.ws_isa.specs.Sound.{HasDest}
use Rattle.annot_check.proofs.facts.Facts.pads_lead.Given as goal
use Rattle.ws_words.specs.Items.{In, flag_at}

abbrev pub invariant-loop-pad : goal.invariant-loop-pad
invariant-loop-pad l = record {
  here : (p : Pad) → In p (map view.pad (drop l.pad-index l.pads)) → In p (map view.pad l.pads);
  rest : (p : Pad) (j q : ℕ) → In p (map view.pad l.pads) → HasDest p.dests j q →
      ((l.first ≤ j) × (j < l.next) × (flag_at l.self.advances.items j ≡ true)) ⊎
      In p (map view.pad (drop l.pad-index l.pads));
}
