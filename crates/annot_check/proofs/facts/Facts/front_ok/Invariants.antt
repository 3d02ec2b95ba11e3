use Rattle.std.proofs.Common.{◌≡◌, ◌<◌, ◌≤◌, ◌⊎◌, ℕ, true, false}
use Rattle.ws_isa.specs.View as view
use Rattle.ws_isa.specs.Image.{is_first, is_advance}
use Rattle.annot_check.proofs.facts.Facts.front_ok.Given as goal

abbrev pub invariant-loop-op : goal.invariant-loop-op
invariant-loop-op l = record {
  first : (k : ℕ) → l.first ≤ k → k < l.op → is_advance (view.image l.image) k ≡ true →
      is_first (view.image l.image) l.number ≡ true;
  front : (j k : ℕ) → l.first ≤ j → j ≤ k → k < l.op → is_advance (view.image l.image) k ≡ true →
      is_advance (view.image l.image) j ≡ true;
  all : l.allowed ≡ true → (is_first (view.image l.image) l.number ≡ true) ×
      ((j : ℕ) → l.first ≤ j → j < l.op → is_advance (view.image l.image) j ≡ true);
  bar : l.allowed ≡ false → (is_first (view.image l.image) l.number ≡ false) ⊎
      ((j : ℕ) × (l.first ≤ j) × (j < l.op) × (is_advance (view.image l.image) j ≡ false));
}
