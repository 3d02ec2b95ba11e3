-- What the acts of a walk show to others: all but those on hidden arrays, with the shown arrays
-- numbered anew.
use Rattle.std.specs.Prelude.{◌≡◌, ℕ, zero, suc, ◌+◌, ◌-◌, ◌<◌, Bool, true, false, List, [], ◌∷◌, ◌++◌}
use Rattle.std.specs.Prelude.{Option, Some, None, if◌then◌else◌}
use Rattle.std.specs.List.{AllByRecursion, filter}
use Rattle.std.specs.Option.{is_some}
use Rattle.ws_words.specs.Operators.{flag}
use Rattle.ws_words.specs.Outside.{Act, loads, stores, Outside, World}
use Rattle.cfg_core.specs.Graph.{GraphArray, Graph}
use Rattle.cfg_core.specs.Walk.{Ends, Goes}
use Rattle.ws_words.specs.Items.{nth}

abbrev pub has_name : GraphArray → Bool
has_name array = is_some array.name

abbrev pub shown_arrays : List GraphArray → List GraphArray
shown_arrays arrays = filter has_name arrays

-- the cells of the shown arrays, in order
abbrev pub shown_cells : List GraphArray → List (List ℕ) → List (List ℕ)
shown_cells [] cells = []
shown_cells (a ∷ arrays) [] = []
shown_cells (a ∷ arrays) (r ∷ cells) =
    if has_name a then r ∷ shown_cells arrays cells else shown_cells arrays cells

-- how many of the first n arrays are shown: the number of a shown array among the shown ones, from
-- 1
abbrev pub shown_among : ℕ → List GraphArray → ℕ
shown_among zero arrays = 0
shown_among (suc n) [] = 0
shown_among (suc n) (a ∷ arrays) = flag (has_name a) + shown_among n arrays

-- of the array with this number, from 1: whether it is hidden, and how many cells it has; there are
-- no others
abbrev pub hidden : Option GraphArray → Bool
hidden None = true
hidden (Some a) = if has_name a then false else true

abbrev pub cell_count : Option GraphArray → ℕ
cell_count None = 0
cell_count (Some a) = a.length

abbrev pub is_hidden : List GraphArray → ℕ → Bool
is_hidden arrays a = hidden (nth arrays (a - 1))

abbrev pub length_of : List GraphArray → ℕ → ℕ
length_of arrays a = cell_count (nth arrays (a - 1))

abbrev pub shown_act : List GraphArray → Act → List Act
shown_act arrays (loads a i) =
    if is_hidden arrays a then [] else loads (shown_among a arrays) i ∷ []
shown_act arrays (stores a i w) =
    if is_hidden arrays a then [] else stores (shown_among a arrays) i w ∷ []
shown_act arrays act = act ∷ []

abbrev pub shown_acts : List GraphArray → List Act → List Act
shown_acts arrays [] = []
shown_acts arrays (act ∷ acts) = shown_act arrays act ++ shown_acts arrays acts

-- the same is shown of both: acts, cells of shown arrays, and the words left in the input and in
-- ports
pub record SameShown (g h : Graph) (o p : Outside) : Type 0 where
  pub acts : shown_acts g.arrays o.acts ≡ shown_acts h.arrays p.acts
  pub cells : shown_cells g.arrays o.cells ≡ shown_cells h.arrays p.cells
  pub input : o.input ≡ p.input
  pub left : o.left ≡ p.left

-- in every world and after every number of turns the walks of both end or are both going, and the
-- same is shown of them
pub record SameWalks (g h : Graph) : Type 0 where
  pub ends : (world : World) (turns : ℕ) (o : Outside) → Ends g world turns o → (p : Outside) ×
      Ends h world turns p × SameShown g h o p
  pub ends_only : (world : World) (turns : ℕ) (p : Outside) → Ends h world turns p → (o : Outside) ×
      Ends g world turns o × SameShown g h o p
  pub goes : (world : World) (turns : ℕ) (o : Outside) → Goes g world turns o → (p : Outside) ×
      Goes h world turns p × SameShown g h o p
  pub goes_only : (world : World) (turns : ℕ) (p : Outside) → Goes h world turns p → (o : Outside) ×
      Goes g world turns o × SameShown g h o p

-- no out-of-bounds load or store of a hidden array
abbrev pub IsInside : List GraphArray → Act → Type 0
IsInside arrays (loads a i) = is_hidden arrays a ≡ true → i < length_of arrays a
IsInside arrays (stores a i w) = is_hidden arrays a ≡ true → i < length_of arrays a
IsInside arrays act = Unit {0}

abbrev pub AllInside : List GraphArray → List Act → Type 0
AllInside arrays acts = AllByRecursion (IsInside arrays) acts

-- in this world, after no number of turns an access to a hidden array was out of bounds
pub record StaysInside (g : Graph) (world : World) : Type 0 where
  pub ends : (turns : ℕ) (o : Outside) → Ends g world turns o → AllInside g.arrays o.acts
  pub goes : (turns : ℕ) (o : Outside) → Goes g world turns o → AllInside g.arrays o.acts

-- the same shown arrays, in order, with names and lengths; and where the first stays inside its
-- hidden arrays, the second does
pub record SameArrays (g h : Graph) : Type 0 where
  pub shown : shown_arrays g.arrays ≡ shown_arrays h.arrays
  pub inside : (world : World) → StaysInside g world → StaysInside h world

abbrev pub NoneHidden : List GraphArray → Type 0
NoneHidden arrays = AllByRecursion (λ a. has_name a ≡ true) arrays

-- what is outside is shown as it is
pub record ShowsAll (g : Graph) (o : Outside) : Type 0 where
  pub acts : shown_acts g.arrays o.acts ≡ o.acts
  pub cells : shown_cells g.arrays o.cells ≡ o.cells
