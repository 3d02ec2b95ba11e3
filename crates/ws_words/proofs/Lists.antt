-- Lemmas on lists.
use Rattle.std.proofs.Common.{suc, ◌≡◌, List, [], ◌∷◌, length, map, refl, ap, ℕ, zero, ◌<◌, Bool, get_or}
use Rattle.std.proofs.Common.{arith, ◌++◌, ◌+◌, ◌-◌, ◌*◌, ◌≤◌, true, false, if◌then◌else◌, drop}
use Rattle.std.proofs.Common.{slice_index_or, sym, ◌∙◌}
use Rattle.std.specs.List.{AllByRecursion, filter}
use Rattle.ws_words.specs.Digits.{value_from}
use Rattle.std.proofs.lemmas.List.{append-nil}

pub length_map : {A B : Type 0} (f : A → B) (xs : List A) → length (map f xs) ≡ length xs
length_map f [] = refl
length_map f (x ∷ xs) = ap suc (length_map f xs)

pub same_read : (xs : List Bool) (n : ℕ) (a b : Bool) → n < length xs → get_or xs n a ≡ get_or xs n b
same_read [] n a b l = absurd (omega arith)
same_read (x ∷ xs) zero a b l = refl
same_read (x ∷ xs) (suc n) a b l = same_read xs n a b (omega arith)

pub all_with : {A : Type 0} (P Q : A → Type 0) → ((x : A) → P x → Q x) → (xs : List A) → AllByRecursion P xs
    → AllByRecursion Q xs
all_with P Q f [] h = tt
all_with P Q f (x ∷ xs) h = (f x h.0, all_with P Q f xs h.1)

pub all_append : {A : Type 0} (P : A → Type 0) (xs ys : List A) → AllByRecursion P xs → AllByRecursion P ys
    → AllByRecursion P (xs ++ ys)
all_append P [] ys h k = k
all_append P (x ∷ xs) ys h k = (h.0, all_append P xs ys h.1 k)

pub value_from-append : (n : ℕ) (xs ys : List ℕ) → value_from n (xs ++ ys) ≡ value_from (value_from n xs) ys
value_from-append n [] ys = refl
value_from-append n (x ∷ xs) ys = value_from-append (10 * n + (x - 48)) xs ys

-- a filter leaves no more
pub filter_few : (p : ℕ → Bool) (xs : List ℕ) → length (filter p xs) ≤ length xs
filter_few p [] = omega arith
filter_few p (x ∷ xs) = by_test (p x) (filter_few p xs)
  where
    by_test : (v : Bool) → length (filter p xs) ≤ length xs
        → length (if v then x ∷ filter p xs else filter p xs) ≤ suc (length xs)
    by_test true h = omega arith
    by_test false h = omega arith

pub all_have : {A : Type 0} (P Q : A → Type 0) (xs : List A) → ((x : A) → P x → Q x) → AllByRecursion P xs
    → AllByRecursion Q xs
all_have P Q [] f h = tt
all_have P Q (x ∷ xs) f h = (f x h.0, all_have P Q xs f h.1)

-- the items from one on begin with it
pub drop_next : {A : Type 0} (xs : List A) (i j : ℕ) (x : A) → j ≡ suc i → i < length xs
    → x ≡ slice_index_or xs i x → drop i xs ≡ x ∷ drop j xs
drop_next xs i j x e lt h = at xs i x lt h ∙ ap (λ n. x ∷ drop n xs) (sym e)
  where
    at : {A : Type 0} (xs : List A) (i : ℕ) (x : A) → i < length xs → x ≡ slice_index_or xs i x
        → drop i xs ≡ x ∷ drop (suc i) xs
    at [] i x lt h = absurd (omega arith)
    at (y ∷ xs) zero x lt h = ap (λ z. z ∷ xs) (sym h)
    at (y ∷ xs) (suc i) x lt h = at xs i x (omega arith) h

-- no item stands past the end
pub drop_all : {A : Type 0} (xs : List A) (n : ℕ) → length xs ≤ n → drop n xs ≡ []
drop_all [] zero le = refl
drop_all [] (suc n) le = refl
drop_all (x ∷ xs) zero le = absurd (omega arith)
drop_all (x ∷ xs) (suc n) le = drop_all xs n (omega arith)

-- nothing more
pub slid : {A : Type 0} (done rest whole : List A) → done ++ rest ≡ whole → rest ≡ [] → done ≡ whole
slid done rest whole h e = sym (append-nil done) ∙ ap (λ zs. done ++ zs) (sym e) ∙ h

pub map_append : {A B : Type 0} (f : A → B) (xs ys : List A) → map f (xs ++ ys) ≡ map f xs ++ map f ys
map_append f [] ys = refl
map_append f (x ∷ xs) ys = ap (λ zs. f x ∷ zs) (map_append f xs ys)

pub append_on : {A : Type 0} (xs ys zs : List A) → (xs ++ ys) ++ zs ≡ xs ++ (ys ++ zs)
append_on [] ys zs = refl
append_on (x ∷ xs) ys zs = ap (λ (l : List _). x ∷ l) (append_on xs ys zs)

-- what holds of each value of a function at items of a list
pub all_mapped : {A B : Type 0} (P : B → Type 0) (f : A → B) (xs : List A) → AllByRecursion (λ x. P (f x)) xs
    → AllByRecursion P (map f xs)
all_mapped P f [] h = tt
all_mapped P f (x ∷ xs) h = (h.0, all_mapped P f xs h.1)

pub push_length : {A : Type 0} (xs : List A) (y : A) → length (xs ++ y ∷ []) ≡ suc (length xs)
push_length [] y = refl
push_length (x ∷ xs) y = ap suc (push_length xs y)

pub empty_list : {X : Type 0} (xs : List X) → length xs ≤ 0 → xs ≡ []
empty_list [] le = refl
empty_list (x ∷ xs) le = absurd (omega (arith, le))

pub map_push : {A B : Type 0} (f : A → B) (xs : List A) (x : A) → map f (xs ++ x ∷ []) ≡ map f xs ++ f x ∷ []
map_push f xs x = map_append f xs (x ∷ [])
