-- Items of lists by place, lists without repetition, and the first of two answers.
use Rattle.std.specs.Prelude.{ℕ, zero, suc, ◌≡◌, ◌⊎◌, Bool, false, List, [], ◌∷◌, Option, Some, None}
use Rattle.std.specs.Prelude.{slice_index_or}

-- the item at a place
abbrev pub nth : {A : Type 0} → List A → ℕ → Option A
nth [] k = None
nth (x ∷ xs) zero = Some x
nth (x ∷ xs) (suc k) = nth xs k

abbrev pub or_else : {A : Type 0} → Option A → A → A
or_else None d = d
or_else (Some x) d = x

abbrev pub In : {A : Type 0} → A → List A → Type 0
In x [] = ⊥
In x (y ∷ ys) = (x ≡ y) ⊎ In x ys

-- no item twice
abbrev pub Distinct : {A : Type 0} → List A → Type 0
Distinct [] = Unit {0}
Distinct (x ∷ xs) = (In x xs → ⊥) × Distinct xs

-- a flag, or false out of bounds
abbrev pub flag_at : List Bool → ℕ → Bool
flag_at flags k = slice_index_or flags k false

-- the first of two, if it is there
abbrev pub first_some : Option ℕ → Option ℕ → Option ℕ
first_some (Some x) o = Some x
first_some None o = o
