use Rattle.std.proofs.Common.{◌≡◌, ◌⊎◌, ℕ, true, drop}
use Rattle.ws_isa.specs.View as view
use Rattle.ws_isa.specs.Image.{is_first}
use Rattle.annot_check.specs.Table.{HasNumber, MoreCome}
use Rattle.annot_check.proofs.worklist.Waves.come_into_all.Given as goal
use Rattle.ws_words.specs.Items.{flag_at}

abbrev pub invariant-loop-number : goal.invariant-loop-number
invariant-loop-number l = record {
  more : MoreCome l.fn.self l.self;
  there : (b : ℕ) → HasNumber l.numbers b → is_first (view.image l.image) b ≡ true →
      (flag_at l.self.come.items b ≡ true) ⊎ HasNumber (drop l.number-index l.numbers) b;
  is_new : (b : ℕ) → flag_at l.self.come.items b ≡ true → (flag_at l.fn.self.come.items b ≡ true) ⊎
      (HasNumber l.numbers b × (is_first (view.image l.image) b ≡ true));
}
