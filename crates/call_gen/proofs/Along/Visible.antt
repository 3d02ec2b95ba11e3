-- What two walks have outside, where one has hidden cells besides.
use Rattle.std.proofs.Common.{ℕ, zero, suc, ◌+◌, ◌≡◌, ◌<◌, ◌≤◌, nat_lt, Bool, true, false, if◌then◌else◌}
use Rattle.std.proofs.Common.{List, [], ◌∷◌, ◌++◌, length, refl, ap, arith}
use Rattle.std.specs.List.{AllByRecursion}
use Rattle.std.proofs.lemmas.List.{append-nil}
use Rattle.ws_words.specs.Outside.{Act, loads, stores, reads, prints, gives, takes, Outside, row, with_row}
use Rattle.call_gen.specs.Visible.{visible_one, visible, OwnInside}
use Rattle.ws_words.proofs.Acts.{with_more}

pub visible_append : (n : ℕ) (xs ys : List Act) → visible n (xs ++ ys) ≡ visible n xs ++ visible n ys
visible_append n [] ys = refl
visible_append n (x ∷ xs) ys = grind (arith, visible_append n xs ys)

pub all_append : (P : Act → Type 0) (xs ys : List Act) → AllByRecursion P xs → AllByRecursion P ys
    → AllByRecursion P (xs ++ ys)
all_append P [] ys h i = i
all_append P (x ∷ xs) ys h i = (h.0, all_append P xs ys h.1 i)

not_after : (n a : ℕ) → a ≤ n → nat_lt n a ≡ false
not_after n a le = grind arith

after : (n a : ℕ) → n < a → nat_lt n a ≡ true
after n a lt = grind arith

pub load_seen : (n a i : ℕ) → a ≤ n → visible_one n (loads a i) ≡ loads a i ∷ []
load_seen n a i le = ap (λ (b : Bool). if b then [] else loads a i ∷ []) (not_after n a le)

pub store_seen : (n a i w : ℕ) → a ≤ n → visible_one n (stores a i w) ≡ stores a i w ∷ []
store_seen n a i w le = ap (λ (b : Bool). if b then [] else stores a i w ∷ []) (not_after n a le)

pub load_unseen : (n a i : ℕ) → n < a → visible_one n (loads a i) ≡ []
load_unseen n a i lt = ap (λ (b : Bool). if b then [] else loads a i ∷ []) (after n a lt)

pub store_unseen : (n a i w : ℕ) → n < a → visible_one n (stores a i w) ≡ []
store_unseen n a i w lt = ap (λ (b : Bool). if b then [] else stores a i w ∷ []) (after n a lt)

-- the second has the first one's cells and hidden ones, of so many arrays of that length
pub record Same (n rows size : ℕ) (hidden : List (List ℕ)) (o p : Outside) : Type 0 where
  pub cells : p.cells ≡ o.cells ++ hidden
  pub few : length o.cells ≡ n
  pub input : o.input ≡ p.input
  pub left : o.left ≡ p.left
  pub acts : visible n p.acts ≡ o.acts
  pub own : AllByRecursion (OwnInside n rows size) p.acts

-- acts that the first one does too
pub record Seen (n rows size : ℕ) (acts : List Act) : Type 0 where
  pub all : visible n acts ≡ acts
  pub own : AllByRecursion (OwnInside n rows size) acts

pub none_seen : (n rows size : ℕ) → Seen n rows size []
none_seen n rows size = record { all = refl; own = tt }

pub seen_both : (n rows size : ℕ) (xs ys : List Act) → Seen n rows size xs → Seen n rows size ys
    → Seen n rows size (xs ++ ys)
seen_both n rows size xs ys h i = grind (arith, visible_append, all_append)

pub seen_load : (n rows size a i : ℕ) → a ≤ n → Seen n rows size (loads a i ∷ [])
seen_load n rows size a i le = grind (arith, load_seen)

pub seen_store : (n rows size a i w : ℕ) → a ≤ n → Seen n rows size (stores a i w ∷ [])
seen_store n rows size a i w le = grind (arith, store_seen)

pub seen_read : (n rows size : ℕ) → Seen n rows size (reads ∷ [])
seen_read n rows size = record { all = refl; own = (tt, tt) }

pub seen_print : (n rows size w : ℕ) → Seen n rows size (prints w ∷ [])
seen_print n rows size w = record { all = refl; own = (tt, tt) }

pub seen_give : (n rows size p : ℕ) → Seen n rows size (gives p ∷ [])
seen_give n rows size p = record { all = refl; own = (tt, tt) }

pub seen_take : (n rows size p w : ℕ) → Seen n rows size (takes p w ∷ [])
seen_take n rows size p w = record { all = refl; own = (tt, tt) }

module _ (n rows size : ℕ) (hidden : List (List ℕ)) (o p : Outside) (h : Same n rows size hidden o p) where
  pub same_more : (xs ys : List Act) → xs ≡ ys → Seen n rows size xs
      → Same n rows size hidden (with_more o xs) (with_more p ys)
  same_more xs ys e s = grind (arith, visible_append, all_append)

  -- acts that the first one doesn't do
  pub same_unseen : (ys : List Act) → visible n ys ≡ [] → AllByRecursion (OwnInside n rows size) ys
      → Same n rows size hidden o (with_more p ys)
  same_unseen ys none own = grind (arith, visible_append, append-nil, all_append)

-- rows of two lists of rows
pub row_left : (xs ys : List (List ℕ)) (k : ℕ) → k < length xs → row (xs ++ ys) k ≡ row xs k
row_left (x ∷ xs) ys (suc k) lt = row_left xs ys k (omega arith)
row_left xs ys k lt = grind arith

pub row_right : (xs ys : List (List ℕ)) (n k : ℕ) → length xs ≡ n → row (xs ++ ys) (n + k) ≡ row ys k
row_right [] ys zero k e = ap (row ys) (let z : zero + k ≡ k = omega arith in z)
row_right (x ∷ xs) ys (suc n) k e = grind (arith, row_right xs ys n k (omega arith))
row_right xs ys n k e = absurd (omega arith)

pub with_row_left : (xs ys : List (List ℕ)) (k : ℕ) (r : List ℕ) → k < length xs
    → with_row (xs ++ ys) k r ≡ with_row xs k r ++ ys
with_row_left (x ∷ xs) ys (suc k) r lt = grind (arith, with_row_left xs ys k r (omega arith))
with_row_left xs ys k r lt = grind arith

pub with_row_right : (xs ys : List (List ℕ)) (n k : ℕ) (r : List ℕ) → length xs ≡ n
    → with_row (xs ++ ys) (n + k) r ≡ xs ++ with_row ys k r
with_row_right [] ys zero k r e = ap (λ m. with_row ys m r) (let z : zero + k ≡ k = omega arith in z)
with_row_right (x ∷ xs) ys (suc n) k r e = grind (arith, with_row_right xs ys n k r (omega arith))
with_row_right xs ys n k r e = absurd (omega arith)
