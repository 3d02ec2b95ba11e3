-- How many instances tables list together, and what limits allow together.
use Rattle.std.proofs.Common.{◌≡◌, ◌+◌, ◌<◌, ◌≤◌, ℕ, zero, suc, List, [], ◌∷◌, ◌++◌, length, length-append}
use Rattle.std.proofs.Common.{◌-◌, ◌*◌, ◌/◌, inl, inr, take, slice_index, add-one, refl, ap, subst}
use Rattle.std.proofs.Common.{arith}
use Rattle.std.specs.Prelude.{sum}
use Rattle.std.proofs.Math.Nat.{div-mul-le_self, le-div_iff_mul-le, mul-suc}
use Rattle.std.proofs.lemmas.Bool.{cases_lt}
use Rattle.std.proofs.lemmas.List.{get_or_append_left, get_or_push}
use Rattle.std.proofs.lemmas.List.Sums.{sum_by-cons, sum_by_push}
use Rattle.match_table.specs.Rows.{FitFrom}
use Rattle.match_table.specs.Together.{ServeFrom, all_fired}
use Rattle.match_table.specs.Growth.{content_at}
use Rattle.match_table.specs.Tables.{TableContent}

-- how many are listed
abbrev pub total : List TableContent → ℕ
total [] = 0
total (c ∷ cs) = length c.fired + total cs

pub all_count : (cs : List TableContent) → length (all_fired cs) ≡ total cs
all_count [] = refl
all_count (c ∷ cs) = grind (arith, length-append, c.fired, all_count cs)

take_suc : (cs : List TableContent) (k : ℕ) → total (take (suc k) cs) ≡ total (take k cs)
    + length (content_at cs k).fired
take_suc [] zero = refl
take_suc [] (suc k) = refl
take_suc (c ∷ cs) zero = omega arith
take_suc (c ∷ cs) (suc k) = let e = take_suc cs k in omega (arith, e)

pub take_more : (cs : List TableContent) (k : ℕ) → total (take (k + 1) cs) ≡ total (take k cs)
    + length (content_at cs k).fired
take_more cs k = rw (add-one k) (take_suc cs k)

pub all_taken : (cs : List TableContent) (n : ℕ) → length cs ≤ n → total (take n cs) ≡ total cs
all_taken [] zero le = refl
all_taken [] (suc n) le = refl
all_taken (c ∷ cs) zero le = absurd (omega (arith, le))
all_taken (c ∷ cs) (suc n) le = ap (λ (m : ℕ). length c.fired + m) (all_taken cs n (omega (arith, le)))

pub front_below : (cs : List TableContent) (n : ℕ) → total (take n cs) ≤ total cs
front_below [] zero = omega arith
front_below [] (suc n) = omega arith
front_below (c ∷ cs) zero = omega arith
front_below (c ∷ cs) (suc n) = let e = front_below cs n in omega (arith, e)

pub sum_allows : (cs : List TableContent) (most : List ℕ) → length cs ≤ length most
    → ((k : ℕ) → k < length cs → length (content_at cs k).fired ≤ slice_index most k) → total cs ≤ sum most
sum_allows (c ∷ cs) (m ∷ most) e each =
    let h : length c.fired ≤ m = each 0 (omega arith) in
    let r = sum_allows cs most (omega (arith, e)) (λ k lt. each (suc k) (omega (arith, lt))) in
    let s : sum (m ∷ most) ≡ m + sum most = sum_by-cons (λ x. x) m most in
    omega (arith, h, r, s)
sum_allows cs most e each = grind arith

sum_push : (xs : List ℕ) (y : ℕ) → sum (xs ++ y ∷ []) ≡ sum xs + y
sum_push xs y = sum_by_push (λ x. x) xs y

-- the list of each table from a number on keeps within its limit
abbrev pub WithinFrom : ℕ → List TableContent → List ℕ → Type 0
WithinFrom n [] most = Unit {0}
WithinFrom n (c ∷ cs) most = (length c.fired ≤ slice_index most n) × WithinFrom (suc n) cs most

within_at : (n : ℕ) (cs : List TableContent) (most : List ℕ) → WithinFrom n cs most → (k : ℕ) → k < length cs
    → length (content_at cs k).fired ≤ slice_index most (n + k)
within_at n (c ∷ cs) most w (suc k) lt =
    grind (arith, slice_index, within_at (suc n) cs most w.1 k (omega (arith, lt)))
within_at n cs most w k lt = grind (arith, slice_index)

pub all_within : (cs : List TableContent) (most : List ℕ) → length cs ≤ length most → WithinFrom 0 cs most
    → length (all_fired cs) ≤ sum most
all_within cs most e w =
    let a = all_count cs in
    let s = sum_allows _ _ e (λ k lt. subst (λ (m : ℕ). length (content_at cs k).fired ≤ slice_index most m)
    (let z : 0 + k ≡ k = omega arith in z) (within_at 0 cs most w k lt)) in
    omega (arith, a, s)

-- So many limits are there; they allow what the tables list, and together that and what is given. Some is
-- left for
-- the table `first` until it has its share.
pub record Given (cs : List TableContent) (first n : ℕ) (items : List ℕ) (left all : ℕ) : Type 0 where
  pub count : length items ≡ n
  pub within : (k : ℕ) → k < n → length (content_at cs k).fired ≤ slice_index items k
  pub sum_is : sum items + left ≡ total (take n cs) + all
  pub below : left ≤ all
  -- the last of them gets all that is left
  pub last : n ≡ 16 → left ≡ 0
  pub some : n < 16 → n ≤ first → 0 < all → 0 < left
  pub more : first < n → 0 < all → length (content_at cs first).fired < slice_index items first

-- what a table gets: no more than is left, an even share, or where it is the first that and one at least
pub record IsShare (first n left share : ℕ) : Type 0 where
  pub within : share ≤ left
  pub even : left / (16 - n) ≤ share
  pub others : (n ≡ first → ⊥) → share ≡ left / (16 - n)
  pub first_one : n ≡ first → 0 < left → 0 < share

pub give_more : (cs : List TableContent) (first n : ℕ) (items : List ℕ) (left all share len : ℕ)
    → n < 16 → Given cs first n items left all → IsShare first n left share →
    len ≡ length (content_at cs n).fired → (now : ℕ) → now ≡ left - share → (limit : ℕ) → limit ≡ len + share
    → Given cs first (n + 1) (items ++ limit ∷ []) now all
give_more cs first n items left all share len sixteen g s is now now_is limit limit_is =
    grind (arith, length-append, cases_lt, get_or_append_left, slice_index, get_or_push, sum_push, take_more)

-- Each limit allows a sixteenth of all beyond what is listed, and what is left is enough for those to come.
pub record Evenly (cs : List TableContent) (n : ℕ) (items : List ℕ) (left all : ℕ) : Type 0 where
  pub each : (k : ℕ) → k < n → length (content_at cs k).fired + all / 16 ≤ slice_index items k
  pub rest : n < 16 → all / 16 ≤ left / (16 - n)

-- an even share of what is left leaves as much for each of the others
even_left : (left e : ℕ) → 0 < e → left / suc e ≤ (left - left / suc e) / e
even_left left e pos =
    let m = left / suc e in
    let a : m * suc e ≤ left = div-mul-le_self left (suc e) in
    let b : m * suc e ≡ m * e + m = mul-suc m e in
    (le-div_iff_mul-le {k = e} {x = m} {y = left - m} pos).1 (omega (arith, a, b))

rest_more : (n left all share : ℕ) → n + 1 < 16 → all / 16 ≤ left / (16 - n)
    → (0 < left / (16 - n) → share ≡ left / (16 - n)) → all / 16 ≤ (left - share) / (16 - (n + 1))
rest_more n left all share lt h same =
    elim (cases_lt 0 (left / (16 - n))) [
      | inl pos ↦ let d : 16 - n ≡ suc (16 - (n + 1)) = omega (arith, lt) in
          let s : share ≡ left / suc (16 - (n + 1)) = subst (λ (k : ℕ). share ≡ left / k) d (same pos) in
          let g : all / 16 ≤ left / suc (16 - (n + 1)) = subst (λ (k : ℕ). all / 16 ≤ left / k) d h in
          let r = even_left left (16 - (n + 1)) (omega (arith, lt)) in
          rw s (omega (arith, g, r))
      | inr none ↦ omega (arith, h, none)
    ]

each_more : (f : ℕ → ℕ) (q n m : ℕ) (items : List ℕ) → length items ≡ n
    → ((k : ℕ) → k < n → f k + q ≤ slice_index items k) → f n + q ≤ m → (k : ℕ) → k < n + 1
    → f k + q ≤ slice_index (items ++ m ∷ []) k
each_more f q n m items is each last k lt =
    grind (arith, slice_index, cases_lt, get_or_append_left, get_or_push)

pub evenly_more : (cs : List TableContent) (n : ℕ) (items : List ℕ) (left all share : ℕ) → n < 16
    → length items ≡ n → Evenly cs n items left all → left / (16 - n) ≤ share
    → (0 < left / (16 - n) → share ≡ left / (16 - n))
    → Evenly cs (n + 1) (items ++ (length (content_at cs n).fired + share) ∷ []) (left - share) all
evenly_more cs n items left all share sixteen is e even same = record {
  each = each_more (λ k. length (content_at cs k).fired) (all / 16) n
      (length (content_at cs n).fired + share) items is e.each
      (let r = e.rest sixteen in omega (arith, even, r));
  rest = λ lt. rest_more n left all share lt (e.rest sixteen) same;
}

-- what serves apart and keeps within its limit fits
within_from : (n : ℕ) (cs : List TableContent) (most : List ℕ)
    → ((k : ℕ) → k < length cs → length (content_at cs k).fired ≤ slice_index most (n + k))
    → WithinFrom n cs most
within_from n [] most each = tt
within_from n (c ∷ cs) most each = (
  rw (← let e : n + 0 ≡ n = omega arith in e) (each 0 (omega arith)),
  within_from (suc n) cs most (λ k lt. rw (← let e : n + suc k ≡ suc n + k = omega arith in e) (each (suc k)
      (omega (arith, lt)))),
)

fit_from : (n : ℕ) (cs : List TableContent) (most : List ℕ) → ServeFrom n cs → WithinFrom n cs most
    → FitFrom n cs most
fit_from n [] most s w = tt
fit_from n (c ∷ cs) most s w = (s.0, w.0, fit_from (suc n) cs most s.1 w.1)

pub fits : (cs : List TableContent) (most : List ℕ) → ServeFrom 0 cs
    → ((k : ℕ) → k < length cs → length (content_at cs k).fired ≤ slice_index most k) → FitFrom 0 cs most
fits cs most s each = grind (arith, fit_from, within_from, slice_index)

pub fit_serve : (n : ℕ) (cs : List TableContent) (most : List ℕ) → FitFrom n cs most → ServeFrom n cs
fit_serve n [] most f = tt
fit_serve n (c ∷ cs) most f = (f.0, fit_serve (suc n) cs most f.2)

pub fit_within : (n : ℕ) (cs : List TableContent) (most : List ℕ) → FitFrom n cs most → WithinFrom n cs most
fit_within n [] most f = tt
fit_within n (c ∷ cs) most f = (f.1, fit_within (suc n) cs most f.2)
