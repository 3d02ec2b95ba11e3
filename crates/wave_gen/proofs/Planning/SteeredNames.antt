-- The names that a branch steers: those that its arms want in different places, and the pulse where there is
-- no other.
use Rattle.std.proofs.Common.{ℕ, ◌≡◌, ◌≤◌, ◌⊎◌, true, List, [], ◌∷◌, length, Some, refl, arith}
use Rattle.wave_gen.specs.Wire.{Wants}
use Rattle.wave_gen.specs.Plans.{pulse, or_pulse, is_among, steer_of, steers}
use Rattle.wave_gen.proofs.Planning.Planned.{Apart}
use Rattle.ws_words.specs.Items.{nth, In}

pub or_in : (xs : List ℕ) (y : ℕ) → In y (or_pulse xs) → (y ≡ pulse) ⊎ In y xs
or_in xs y h = grind arith

pub in_or : (xs : List ℕ) (y : ℕ) → In y xs → In y (or_pulse xs)
in_or xs y h = grind arith

pub or_apart : (xs : List ℕ) → Apart xs → Apart (or_pulse xs)
or_apart xs h = grind arith

pub or_among : (xs : List ℕ) (y : ℕ) → is_among y xs ≡ true → is_among y (or_pulse xs) ≡ true
or_among xs y e = grind arith

pub or_count : (xs : List ℕ) (n : ℕ) → 1 ≤ n → length xs ≤ n → length (or_pulse xs) ≤ n
or_count xs n l h = grind arith

-- the first one
pub record FirstOf (xs : List ℕ) : Type 0 where
  pub name : ℕ
  pub is : (w v : Wants) → nth (steers w v xs) 0 ≡ Some (steer_of w v name)

pub or_first : (xs : List ℕ) → FirstOf (or_pulse xs)
or_first [] = record { name = pulse; is = λ w v. refl }
or_first (x ∷ xs) = record { name = x; is = λ w v. refl }
