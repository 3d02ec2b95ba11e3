-- When the annotator can make an image of a draft.
use Rattle.std.specs.Prelude.{ℕ, ◌≡◌, ◌⊎◌, true, false}
use Rattle.ws_isa.specs.Image.{Branch, Image, block_at, is_first, IsBlock}
use Rattle.ws_isa.specs.Formed.{NoNotes}
use Rattle.ws_isa.specs.Open.{Walkable, IsArm, HasGiver, EnteredBySteer}
use Rattle.wave_link.specs.Adds.{adds}

-- both edges of a branch lead to arms, or both lead out of the wave
abbrev pub ForksOrEnds : Image → ℕ → ℕ → ℕ → Type 0
ForksOrEnds draft b x y = (IsArm draft b 0 x × IsArm draft b 1 y)
    ⊎ ((is_first draft x ≡ true) × (is_first draft y ≡ true))

-- what can trigger a no-op of block b: an instruction of it, or, where it isn't the first of its wave, a
-- steer of the one block before it
abbrev pub CanTrigger : Image → ℕ → Type 0
CanTrigger draft b = HasGiver draft b ⊎ (EnteredBySteer draft b × (is_first draft b ≡ false))

-- it has no annotations, a walk can go over it, its branches fork or end their wave, and where it gets a
-- no-op something can trigger that
pub record FitForNotes (draft : Image) : Type 0 where
  pub bare : NoNotes draft
  pub walkable : Walkable draft
  pub branches : (b s x y : ℕ) → IsBlock draft b → (block_at draft b).exit ≡ Branch s x y →
      ForksOrEnds draft b x y
  pub triggers : (b : ℕ) → IsBlock draft b → adds draft b ≡ true → CanTrigger draft b
