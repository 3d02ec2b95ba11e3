-- Ports with nothing left.
use Rattle.std.specs.Prelude.{ℕ, zero, suc, List, [], ◌∷◌, ◌++◌}

-- so many empty lists
abbrev pub empties : ℕ → List (List ℕ)
empties zero = []
empties (suc n) = empties n ++ [] ∷ []
