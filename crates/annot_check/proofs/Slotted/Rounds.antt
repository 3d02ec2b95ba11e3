-- Waves that are passed one after the other.
use Rattle.std.proofs.Common.{ℕ, ◌≡◌, ◌⊎◌, true, List, [], ◌∷◌, ◌++◌, inl, inr, arith}
use Rattle.ws_isa.specs.Image.{Image}
use Rattle.ws_isa.specs.Formed.{WavesInOrder}
use Rattle.ws_isa.specs.Sound.{ShapeRules, SlotRules}
use Rattle.annot_check.specs.declared.worklist.Waves.{Waves}
use Rattle.annot_check.specs.Done.{Begun, CameTo, WaveDone}
use Rattle.annot_check.specs.Table.{HasNumber, MoreCome}
use Rattle.annot_check.proofs.Slotted.Closed.{slot_rules}
use Rattle.annot_check.proofs.Slotted.Entries.{has_left, has_either}
use Rattle.annot_check.proofs.Slotted.Whole.{none_has, wave_among}
use Rattle.ws_words.specs.Items.{flag_at}

abbrev pub Come : Waves → ℕ → Type 0
Come w b = flag_at w.come.items b ≡ true

pub round_todo : (old new : Waves) (todo : List ℕ) (n : ℕ) → todo ≡ old.todo.items ++ n ∷ []
    → MoreCome old new →
    ((b : ℕ) → HasNumber todo b → Come old b) → (b : ℕ) → HasNumber new.todo.items b → Come new b
round_todo old new todo n e m all b h = grind (arith, has_left)

pub round_done : (image : Image) (old new : Waves) (todo : List ℕ) (n : ℕ) → todo ≡ old.todo.items ++ n ∷ [] →
    MoreCome old new →
    ((b : ℕ) → Come old b → HasNumber todo b ⊎ WaveDone image (λ c. Come old c) b) →
    WaveDone image (λ c. Come new c) n → (b : ℕ) → Come new b →
    HasNumber new.todo.items b ⊎ WaveDone image (λ c. Come new c) b
round_done image old new todo n e m all last b h = elim (m.is_new b h) [
  | inr x ↦ inl x
  | inl x ↦ elim (all b x) [
    | inr w ↦ grind (arith, wave_among)
    | inl y ↦ grind (arith, has_either)
  ]
]

-- when no wave is left to be passed the rules hold
pub whole_rules : (image : Image) (w : Waves) → w.todo.items ≡ [] → ShapeRules image
    → WavesInOrder image.blocks →
    Begun image → Come w 1 → ((b : ℕ) → Come w b → CameTo image b) →
    ((b : ℕ) → Come w b → HasNumber w.todo.items b ⊎ WaveDone image (λ c. Come w c) b) → SlotRules image
whole_rules image w none shape order begun one came all = slot_rules image (flag_at w.come.items) (grind
    (arith, none_has)) shape order
