-- One answer, and no other.
use Rattle.std.specs.Prelude.{◌≡◌}

-- something is so, and nothing else is
pub record ExactlyOne {A : Type 0} (P : A → Type 0) : Type 0 where
  pub answer : A
  pub holds : P answer
  pub only : (other : A) → P other → other ≡ answer
