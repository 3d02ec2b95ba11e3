-- What the walk of a draft needs of its shape.
use Rattle.std.proofs.Common.{ℕ, ◌≡◌, true}
use Rattle.ws_isa.specs.Image.{Image, is_advance, is_first, IsIn, IsBlock}
use Rattle.ws_isa.specs.Sound.{EdgeShape}

pub record WalkShape (image : Image) : Type 0 where
  pub has_block : IsBlock image 1
  pub edges : (b : ℕ) → IsBlock image b → EdgeShape image b
  pub advances : (b k : ℕ) → IsBlock image b → IsIn image b k → is_advance image k ≡ true
      → is_first image b ≡ true
