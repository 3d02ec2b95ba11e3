-- A draft that is open to notes can get them.
use Rattle.std.proofs.Common.{arith, ℕ, ◌≡◌, ◌⊎◌, false, [], ◌∷◌, Some}
use Rattle.ws_isa.specs.Image.{Image, is_first}
use Rattle.ws_isa.specs.Open.{HasGiver, EnteredBySteer, OpenToNotes}
use Rattle.wave_link.specs.Fit.{CanTrigger, FitForNotes}
use Rattle.ws_words.specs.Items.{nth}

two_edges : (x y c place : ℕ) → nth (x ∷ y ∷ []) place ≡ Some c → (x ≡ c) ⊎ (y ≡ c)
two_edges x y c place e = grind arith

module _ (draft : Image) (ok : OpenToNotes draft) where
  -- a block that is entered from a steer is an arm
  inside : (b : ℕ) → EnteredBySteer draft b → is_first draft b ≡ false
  inside b y =
      let s = (ok.walkable.shape.blocks y.before y.block).hang.steers y.instr y.inside y.steers in
      let a = ok.arms y.before s.0 s.1 s.2 y.block s.3 in
      grind (arith, two_edges)

  trigger : (b : ℕ) → HasGiver draft b ⊎ EnteredBySteer draft b → CanTrigger draft b
  trigger b h = grind (arith, inside)

pub open_fits : (draft : Image) → OpenToNotes draft → FitForNotes draft
open_fits draft ok = grind (arith, ok.arms, trigger, ok.givers)
