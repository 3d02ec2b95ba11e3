-- What a graph and an image with the same arrays show.
use Rattle.std.proofs.Common.{◌≡◌, ℕ, Bool, true, false, if◌then◌else◌, List, [], ◌∷◌, ◌++◌, map, refl, sym}
use Rattle.std.proofs.Common.{ap, ◌∙◌, append_assoc}
use Rattle.std.specs.List.{AllByRecursion}
use Rattle.ws_words.specs.Outside.{Act}
use Rattle.ws_isa.specs.Image.{Array}
use Rattle.ws_isa.specs.Shown as image
use Rattle.cfg_core.specs.Graph.{GraphArray}
use Rattle.cfg_core.specs.Shown.{has_name, shown_arrays, shown_cells, shown_act, shown_acts}
use Rattle.wave_gen.specs.Words.{array_of}
use Rattle.wave_build.specs.Compiled.{in_graph}

pub same_arrays : (xs : List GraphArray) → map in_graph (map array_of xs) ≡ xs
same_arrays [] = refl
same_arrays (x ∷ xs) = ap (λ (r : List GraphArray). x ∷ r) (same_arrays xs)

pub same_shown : (xs : List GraphArray) → image.shown_arrays (map array_of xs) ≡ map array_of
    (shown_arrays xs)
same_shown [] = refl
same_shown (x ∷ xs) = pick (has_name x) (same_shown xs)
  where
    pick : (b : Bool) → image.shown_arrays (map array_of xs) ≡ map array_of (shown_arrays xs)
        → (if b then array_of x ∷ image.shown_arrays (map array_of xs) else image.shown_arrays
        (map array_of xs)) ≡ map array_of (if b then x ∷ shown_arrays xs else shown_arrays xs)
    pick true e = ap (λ (r : List Array). array_of x ∷ r) e
    pick false e = e

pub same_cells : (xs : List GraphArray) (cells : List (List ℕ)) → image.shown_cells (map array_of xs) cells
    ≡ shown_cells xs cells
same_cells [] cells = refl
same_cells (x ∷ xs) [] = refl
same_cells (x ∷ xs) (r ∷ cells) = ap (λ (z : List (List ℕ)). if has_name x then r ∷ z else z)
    (same_cells xs cells)

pub shown_both : (arrays : List GraphArray) (xs ys : List Act) → shown_acts arrays (xs ++ ys) ≡ shown_acts
    arrays xs ++ shown_acts arrays ys
shown_both arrays [] ys = refl
shown_both arrays (x ∷ xs) ys = ap (λ (z : List Act). shown_act arrays x ++ z) (shown_both arrays xs ys)
    ∙ sym (append_assoc (shown_act arrays x) (shown_acts arrays xs) (shown_acts arrays ys))

pub front_all : (P : Act → Type 0) (xs ys : List Act) → AllByRecursion P (xs ++ ys) → AllByRecursion P xs
front_all P [] ys a = tt
front_all P (x ∷ xs) ys a = (a.0, front_all P xs ys a.1)
