-- What is in a heap of places once one has come or the top has gone.
use Rattle.std.proofs.Common.{ℕ, zero, suc, ◌≡◌, ◌<◌, ◌⊎◌, List, ◌∷◌, length, Option, Some, None}
use Rattle.std.proofs.Common.{slice_index_or, refl, sym, ap, ◌∙◌, inl, inr, arith}
use Rattle.std.specs.Prelude.{IfSome, IfNone}
use Rattle.std.specs.List.{Contains}
use Rattle.std.specs.List.Sorted.{IsPermutation}
use Rattle.std.proofs.lemmas.List.Sorted.{Contains-permutation, IsPermutation-sym}
use Rattle.std.specs.declared.cmp.Reverse.{Reverse}
use Rattle.store_buf.specs.Ranks.{under}
use Rattle.store_buf.proofs.Lists.{or_any}

pub came_here : {A : Type 0} (xs ys : List A) (x : A) → IsPermutation (x ∷ xs) ys → Contains ys x
came_here xs ys x same = Contains-permutation (x ∷ xs) ys x same (0, omega arith, refl)

pub came_beside : {A : Type 0} (xs ys : List A) (x y : A) → IsPermutation (y ∷ xs) ys → Contains xs x
    → Contains ys x
came_beside xs ys x y same h = Contains-permutation (y ∷ xs) ys x same (suc h.0, omega (arith, h.1), h.2)

-- what is there was there, or has come
pub before : {A : Type 0} (xs ys : List A) (x y : A) → IsPermutation (x ∷ xs) ys → Contains ys y
    → (x ≡ y) ⊎ Contains xs y
before {A} xs ys x y same h = go (Contains-permutation ys (x ∷ xs) y (IsPermutation-sym (x ∷ xs) ys same) h)
  where
    go : Contains (x ∷ xs) y → (x ≡ y) ⊎ Contains xs y
    go x = grind arith

-- what isn't the top stays
pub left_there : (xs ys : List (Reverse (ℕ × ℕ))) (x : Reverse (ℕ × ℕ)) (a b n p : ℕ)
    → IsPermutation xs (x ∷ ys) → x ≡ slice_index_or xs 0 x → 0 < length xs →
    slice_index_or xs 0 (under a b) ≡ under a b → Contains xs (under n p)
    → ((a ≡ n) × (b ≡ p)) ⊎ Contains ys (under n p)
left_there xs ys x a b n p same top some first h = go (Contains-permutation xs (x ∷ ys) (under n p) same h)
  where
    is : x ≡ under a b
    is = top ∙ or_any xs 0 x (under a b) some ∙ first

    go : Contains (x ∷ ys) (under n p) → ((a ≡ n) × (b ≡ p)) ⊎ Contains ys (under n p)
    go (zero, l, e) = inl (
      (let f : under a b ≡ under n p = sym is ∙ e in ap (λ (r : Reverse (ℕ × ℕ)). r.0.0) f),
      (let f : under a b ≡ under n p = sym is ∙ e in ap (λ (r : Reverse (ℕ × ℕ)). r.0.1) f),
    )
    go (suc k, l, e) = inr (k, omega arith, e)

pub left_after : (xs ys : List (Reverse (ℕ × ℕ))) (r : Option (Reverse (ℕ × ℕ))) (size a b n p : ℕ) → 0 < size
    → size ≡ length xs → IfNone r (size ≡ 0) → IfSome r (λ x. x ≡ slice_index_or xs 0 x)
    → IfSome r (λ x. IsPermutation xs (x ∷ ys)) →
    slice_index_or xs 0 (under a b) ≡ under a b → Contains xs (under n p)
    → ((a ≡ n) × (b ≡ p)) ⊎ Contains ys (under n p)
left_after xs ys None size a b n p some is none top same first h = absurd (omega (arith, some, none))
left_after xs ys (Some x) size a b n p some is none top same first h = left_there xs ys x a b n p same top
    (omega (arith, some, is)) first h
