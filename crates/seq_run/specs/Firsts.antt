-- The first out-of-bounds act, as a function of the acts.
use Rattle.std.specs.Prelude.{ℕ, nat_lt, List, [], ◌∷◌, Option, Some, None, if◌then◌else◌}
use Rattle.ws_words.specs.Outside.{Act, loads, stores}
use Rattle.ws_words.specs.Past.{length_of}
use Rattle.ws_words.specs.Items.{first_some}

-- the array of an out-of-bounds act
abbrev pub past_array : List ℕ → Act → Option ℕ
past_array lengths (loads a i) = if nat_lt i (length_of lengths a) then None else Some a
past_array lengths (stores a i w) = if nat_lt i (length_of lengths a) then None else Some a
past_array lengths _ = None

-- the array of the first out-of-bounds act
abbrev pub first_past : List ℕ → List Act → Option ℕ
first_past lengths [] = None
first_past lengths (act ∷ acts) = first_some (past_array lengths act) (first_past lengths acts)
