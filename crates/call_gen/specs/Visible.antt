-- Serves the proof alone: no public contract cites it.
-- Acts on the arrays of the graph that was given, and those on the hidden cells beside them.
use Rattle.std.specs.Prelude.{ℕ, ◌+◌, ◌<◌, ◌≤◌, nat_lt, List, [], ◌∷◌, ◌++◌, if◌then◌else◌}
use Rattle.ws_words.specs.Outside.{Act, loads, stores}

-- the acts on all arrays but those after this number
abbrev pub visible_one : ℕ → Act → List Act
visible_one n (loads a i) = if nat_lt n a then [] else loads a i ∷ []
visible_one n (stores a i w) = if nat_lt n a then [] else stores a i w ∷ []
visible_one n act = act ∷ []

abbrev pub visible : ℕ → List Act → List Act
visible n [] = []
visible n (act ∷ acts) = visible_one n act ++ visible n acts

-- an act on an array after this number is on one of so many arrays of that length, and inside it
abbrev pub OwnInside : ℕ → ℕ → ℕ → Act → Type 0
OwnInside n rows size (loads a i) = n < a → (a ≤ n + rows) × (i < size)
OwnInside n rows size (stores a i w) = n < a → (a ≤ n + rows) × (i < size)
OwnInside n rows size act = Unit {0}
