-- The steps of a loop over a list: what is left begins with the element at hand.
use Rattle.std.proofs.Common.{arith, ◌≡◌, ℕ, suc, ◌+◌, ◌<◌, List, [], ◌∷◌, ◌++◌, length, map, get_or, take}
use Rattle.std.proofs.Common.{drop, sym, ap, ◌∙◌, add-one, drop-cons}
use Rattle.std.proofs.Math.Seq.{take-suc}
use Rattle.ws_words.proofs.Lists.{map_push}

-- what is left begins with the next item
pub drop_next : {A : Type 0} (l : List A) (i : ℕ) (x : A) → i < length l → x ≡ get_or l i x
    → drop i l ≡ x ∷ drop (i + 1) l
drop_next l i x h is = drop-cons l i x h ∙ rw add-one (ap (λ y. y ∷ drop (suc i) l) (sym is))

-- what is done ends with the next item
pub map-take_next : {A B : Type 0} (f : A → B) (l : List A) (i : ℕ) (x : A) → i < length l → x ≡ get_or l i x
    → map f (take (i + 1) l) ≡ map f (take i l) ++ f x ∷ []
map-take_next f l i x h is = grind (arith, add-one i, take-suc l i x h, map_push f (take i l) x)
