-- Lists that the code fills, one item after another.
use Rattle.std.proofs.Common.{◌≡◌, ℕ, suc, ◌+◌, ◌<◌, ◌^◌, List, [], ◌∷◌, ◌++◌, length, map, drop}
use Rattle.std.proofs.Common.{slice_index_or, Some, refl, ap, arith}
use Rattle.std.proofs.lemmas.List.{drop_more}
use Rattle.std.specs.List.{AllByRecursion}
use Rattle.seq_run.specs.View as source
use Rattle.seq_run.specs.declared.tree.ArrayShape.{ArrayShape}
use Rattle.cfg_core.specs.View as view
use Rattle.cfg_core.specs.declared.blocks.GraphArray.{GraphArray}
use Rattle.cfg_build.specs.Building.{LengthFits}
use Rattle.cfg_build.specs.Lowered as lowered

map_more : {A B : Type 0} (f : A → B) (xs : List A) (x : A) (ys : List B)
    → map f (xs ++ x ∷ []) ++ ys ≡ map f xs ++ f x ∷ ys
map_more f [] x ys = refl
map_more f (y ∷ xs) x ys = ap (λ zs. f y ∷ zs) (map_more f xs x ys)

-- the views of an item more, where it was the first of those to come
pub one_more : {A B : Type 0} (f : A → B) (list now : List A) (made : A) (left rest all : List B)
    → now ≡ list ++ made ∷ [] → left ≡ f made ∷ rest → map f list ++ left ≡ all → map f now ++ rest ≡ all
one_more f list now made left rest all en is h = grind (arith, map_more)

-- the arrays to come
pub next_array : (ss : List ArrayShape) (i : ℕ) (s : ArrayShape) (made : GraphArray) → i < length ss
    → s ≡ slice_index_or ss i s → view.array made ≡ record { name = Some s.name; length = s.length }
    → lowered.arrays (source.names (drop i ss)) (source.lengths (drop i ss)) ≡ view.array made
    ∷ lowered.arrays (source.names (drop (i + 1) ss)) (source.lengths (drop (i + 1) ss))
next_array ss i s made lt is same = grind (arith, drop_more)

-- the length of each array fits into 32 bits
pub length_few : (ss : List ArrayShape) (i : ℕ) (s : ArrayShape) → i < length ss → s ≡ slice_index_or ss i s
    → AllByRecursion LengthFits (source.lengths ss) → s.length < 2 ^ 32
length_few (x ∷ ss) (suc i) s lt is h = length_few ss i s (omega arith) is h.1
length_few ss i s lt is h = grind arith
