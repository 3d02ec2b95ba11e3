-- Lemmas on items by place.
use Rattle.std.proofs.Common.{ℕ, zero, suc, ◌≡◌, ◌<◌, List, [], ◌∷◌, ◌++◌, length, Some, None, refl, arith}
use Rattle.std.proofs.Common.{◌⊎◌, inl, inr, slice_index, ap}
use Rattle.std.specs.List.{AllByRecursion}
use Rattle.ws_words.specs.Items.{nth, or_else, In}
use Rattle.std.proofs.lemmas.Bool.{cases_eq}

pub nth_there : {A : Type 0} (xs : List A) (k : ℕ) → k < length xs → (x : A) × (nth xs k ≡ Some x)
nth_there [] k lt = absurd (omega arith)
nth_there (x ∷ xs) zero lt = (x, refl)
nth_there (x ∷ xs) (suc k) lt = nth_there xs k (omega arith)

pub nth_or : {A : Type 0} (xs : List A) (k : ℕ) (d : A) → k < length xs
    → nth xs k ≡ Some (or_else (nth xs k) d)
nth_or [] k d lt = absurd (omega arith)
nth_or (x ∷ xs) zero d lt = refl
nth_or (x ∷ xs) (suc k) d lt = nth_or xs k d (omega arith)

pub nth_short : {A : Type 0} (xs : List A) (k : ℕ) (x : A) → nth xs k ≡ Some x → k < length xs
nth_short [] k x e = absurd (let q : None ≡ Some x = e in cc)
nth_short (y ∷ ys) zero x e = omega arith
nth_short (y ∷ ys) (suc k) x e = let r = nth_short ys k x e in omega (arith, r)

pub nth_append_left : {A : Type 0} (xs ys : List A) (k : ℕ) → k < length xs → nth (xs ++ ys) k ≡ nth xs k
nth_append_left [] ys k lt = absurd (omega arith)
nth_append_left (x ∷ xs) ys zero lt = refl
nth_append_left (x ∷ xs) ys (suc k) lt = nth_append_left xs ys k (omega arith)

-- what holds at each place holds of all
pub all_of : {A : Type 0} (P : A → Type 0) (xs : List A) → ((k : ℕ) (x : A) → nth xs k ≡ Some x → P x)
    → AllByRecursion P xs
all_of P [] h = tt
all_of P (x ∷ xs) h = (h 0 x refl, all_of P xs (λ k y e. h (suc k) y e))

pub in_left : {A : Type 0} (x : A) (xs ys : List A) → In x xs → In x (xs ++ ys)
in_left x [] ys i = absurd i
in_left x (y ∷ xs) ys (inl e) = inl e
in_left x (y ∷ xs) ys (inr i) = inr (in_left x xs ys i)

pub in_right : {A : Type 0} (x : A) (xs ys : List A) → In x ys → In x (xs ++ ys)
in_right x [] ys i = i
in_right x (y ∷ xs) ys i = inr (in_right x xs ys i)

pub in_both : {A : Type 0} (x : A) (xs ys : List A) → In x (xs ++ ys) → In x xs ⊎ In x ys
in_both x [] ys i = inr i
in_both x (y ∷ xs) ys (inl e) = inl (inl e)
in_both x (y ∷ xs) ys (inr i) = elim (in_both x xs ys i) [ inl j ↦ inl (inr j) | inr j ↦ inr j ]

pub in_place : (xs : List ℕ) (k : ℕ) → k < length xs → In (slice_index xs k) xs
in_place [] k lt = absurd (omega arith)
in_place (x ∷ xs) zero lt = inl refl
in_place (x ∷ xs) (suc k) lt = inr (in_place xs k (omega arith))

-- the numbers below one, the highest first
pub down : ℕ → List ℕ
down zero = []
down (suc n) = n ∷ down n

pub in_down : (n k : ℕ) → k < n → In k (down n)
unfolding down
in_down zero k lt = absurd (omega arith)
in_down (suc n) k lt = elim (cases_eq k n) [ inl e ↦ inl e | inr h ↦ inr (in_down n k (omega arith)) ]

pub down_length : (n : ℕ) → length (down n) ≡ n
unfolding down
down_length zero = refl
down_length (suc n) = ap suc (down_length n)
