-- What holds of all items of a list holds of those of its front.
use Rattle.std.proofs.Common.{◌≡◌, ℕ, List, [], ◌∷◌, ◌++◌, All, length-append, subst, arith}
use Rattle.std.proofs.lemmas.List.{map-append, get_or_append_left}
use Rattle.ws_isa.specs.Image.{Token}
use Rattle.df_core.specs.Rights.{token_of, tokens_of}

all_front : {A : Type 0} (P : A → Type 0) (xs ys : List A) → All P (xs ++ ys) → All P xs
all_front P xs ys all k d lt = subst P (get_or_append_left xs ys d k lt)
    (all k d (let e = length-append xs ys in omega (arith, e, lt)))

pub front_right : (P : Token → Type 0) (old new : List (ℕ × ℕ × ℕ × ℕ)) (t : ℕ × ℕ × ℕ × ℕ)
    → old ≡ new ++ t ∷ [] → All P (tokens_of old) → All P (tokens_of new)
front_right P old new t is all = all_front P (tokens_of new) (token_of t ∷ []) (grind (arith, map-append))
