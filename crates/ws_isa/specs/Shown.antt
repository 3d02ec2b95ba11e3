-- What of an image's arrays is shown: those with a name, in order. The others are hidden.
use Rattle.std.specs.Prelude.{ℕ, Bool, List, [], ◌∷◌, if◌then◌else◌}
use Rattle.std.specs.List.{filter}
use Rattle.std.specs.Option.{is_some}
use Rattle.ws_isa.specs.Image.{Array}

abbrev pub has_name : Array → Bool
has_name array = is_some array.name

abbrev pub shown_arrays : List Array → List Array
shown_arrays arrays = filter has_name arrays

-- of the cells of all arrays those of the shown ones
abbrev pub shown_cells : List Array → List (List ℕ) → List (List ℕ)
shown_cells [] cells = []
shown_cells (a ∷ arrays) [] = []
shown_cells (a ∷ arrays) (r ∷ cells) =
    if has_name a then r ∷ shown_cells arrays cells else shown_cells arrays cells
