-- Items at their places in a list.
use Rattle.std.proofs.Common.{ℕ, suc, ◌+◌, ◌≡◌, ◌<◌, List, [], ◌∷◌, ◌++◌, length, refl, sym, ap, ◌∙◌, subst}
use Rattle.std.proofs.Common.{arith}
use Rattle.std.proofs.lemmas.List.{append_assoc, length-append}
use Rattle.std.specs.List.{AllByRecursion}
use Rattle.ws_words.specs.Items.{nth, or_else}

-- these items stand from this place on, among so many places with these items
abbrev pub StandAt : {A : Type 0} → (ℕ → A) → ℕ → ℕ → List A → Type 0
StandAt item many b [] = Unit {0}
StandAt item many b (x ∷ xs) = (b < many) × (item b ≡ x) × StandAt item many (suc b) xs

nth_after : {A : Type 0} (before : List A) (x : A) (xs : List A) (none : A)
    → or_else (nth (before ++ x ∷ xs) (length before)) none ≡ x
nth_after [] x xs none = refl
nth_after (y ∷ before) x xs none = nth_after before x xs none

-- the last items of a list stand after those before them
stand_after : {A : Type 0} (all before xs : List A) (none : A) → all ≡ before ++ xs
    → StandAt (λ n. or_else (nth all n) none) (length all) (length before) xs
stand_after all before [] none e = tt
stand_after all before (x ∷ xs) none e =
    let e2 : all ≡ (before ++ x ∷ []) ++ xs = e ∙ sym (append_assoc before (x ∷ []) xs) in
    let n : length (before ++ x ∷ []) ≡ suc (length before) =
    omega (arith, length-append before (x ∷ [])) in (
      omega (arith, ap length e, length-append before (x ∷ xs)),
      ap (λ ys. or_else (nth ys (length before)) none) e ∙ nth_after before x xs none,
      subst (λ m. StandAt (λ n. or_else (nth all n) none) (length all) m xs) n
          (stand_after all (before ++ x ∷ []) xs none e2),
    )

pub stand_all : {A : Type 0} (all : List A) (none : A) → StandAt (λ n. or_else (nth all n) none) (length all)
    0 all
stand_all all none = stand_after all [] all none refl

pub stand_front : {A : Type 0} (item : ℕ → A) (many b : ℕ) (xs ys : List A) → StandAt item many b (xs ++ ys)
    → StandAt item many b xs
stand_front item many b [] ys h = tt
stand_front item many b (x ∷ xs) ys h = (h.0, h.1, stand_front item many (suc b) xs ys h.2)

pub stand_back : {A : Type 0} (item : ℕ → A) (many b c : ℕ) (xs ys : List A) → b + length xs ≡ c
    → StandAt item many b (xs ++ ys) → StandAt item many c ys
stand_back item many b c [] ys e h = subst (λ n. StandAt item many n ys) (omega (arith, e)) h
stand_back item many b c (x ∷ xs) ys e h = stand_back item many (suc b) c xs ys (omega (arith, e)) h.2

-- P holds of each item and its number, the first of which is this
abbrev pub Each : {A : Type 0} → (ℕ → A → Type 0) → ℕ → List A → Type 0
Each P b [] = Unit {0}
Each P b (x ∷ xs) = P b x × Each P (suc b) xs

pub each_both : {A : Type 0} (P : ℕ → A → Type 0) (b c : ℕ) (xs ys : List A) → b + length xs ≡ c → Each P b xs
    → Each P c ys → Each P b (xs ++ ys)
each_both P b c [] ys e h i = subst (λ n. Each P n ys) (omega (arith, e)) i
each_both P b c (x ∷ xs) ys e h i = (h.0, each_both P (suc b) c xs ys (omega (arith, e)) h.1 i)

-- what holds of each item, and of the one past the end, holds at each place
pub each_nth : {A : Type 0} (P : ℕ → A → Type 0) (none : A) → ((n : ℕ) → P n none) → (xs : List A) (b k c : ℕ)
    → c ≡ k + b → Each P b xs → P c (or_else (nth xs k) none)
each_nth P none past (x ∷ xs) b (suc k) c e h = each_nth P none past xs (suc b) k c (omega (arith, e)) h.1
each_nth P none past xs b k c e h = grind arith

-- what each item has, whatever its number
pub each_all : {A : Type 0} (P : ℕ → A → Type 0) (Q : A → Type 0) → ((n : ℕ) (x : A) → P n x → Q x)
    → (b : ℕ) (xs : List A) → Each P b xs → AllByRecursion Q xs
each_all P Q f b [] h = tt
each_all P Q f b (x ∷ xs) h = (f b x h.0, each_all P Q f (suc b) xs h.1)
