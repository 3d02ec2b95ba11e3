-- Hidden cells, saved values and loaded values.
use Rattle.std.proofs.Common.{ℕ, zero, suc, ◌/◌, ◌%◌, ◌≡◌, ◌<◌, ◌⊎◌, min, List, [], ◌∷◌, ◌++◌, length, get_or}
use Rattle.std.proofs.Common.{set, refl, sym, ap, ◌∙◌, inl, inr, arith}
use Rattle.std.specs.List.{AllByRecursion}
use Rattle.std.proofs.lemmas.Bool.{cases_eq}
use Rattle.std.proofs.lemmas.List.{get_or-set_same, get_or-set_other, length-set, get_or_append_left}
use Rattle.std.proofs.lemmas.List.{get_or_push, length_push}
use Rattle.ws_words.specs.Outside.{row, with_row}
use Rattle.call_gen.specs.Spelled.{below}
use Rattle.cfg_core.proofs.ArraysThere.{length_with_row as with_row_count}
use Rattle.ws_words.specs.Items.{In, Distinct}

abbrev pub peek : List (List ℕ) → ℕ → ℕ
peek hidden k = get_or (row hidden (k % 192)) (k / 192) 0

abbrev pub poke : List (List ℕ) → ℕ → ℕ → List (List ℕ)
poke hidden k w = with_row hidden (k % 192) (set (row hidden (k % 192)) (k / 192) w)

-- room for so many cells
pub record Roomy (total : ℕ) (hidden : List (List ℕ)) : Type 0 where
  pub count : length hidden ≡ min 192 total
  pub rows : (r : ℕ) → r < length hidden → length (row hidden r) ≡ suc (total / 192)

pub row_same : (xs : List (List ℕ)) (k : ℕ) (r : List ℕ) → k < length xs → row (with_row xs k r) k ≡ r
row_same (x ∷ xs) (suc k) r lt = row_same xs k r (omega arith)
row_same xs k r lt = grind arith

pub row_other : (xs : List (List ℕ)) (k j : ℕ) (r : List ℕ) → (j ≡ k → ⊥) → row (with_row xs k r) j ≡ row xs j
row_other (x ∷ xs) (suc k) (suc j) r ne = row_other xs k j r (λ e. ne (ap suc e))
row_other xs k j r ne = grind arith

place_in : (total k : ℕ) (hidden : List (List ℕ)) → Roomy total hidden → k < total → k % 192 < length hidden
place_in total k hidden h lt = omega arith

index_in : (total k : ℕ) → k < total → k / 192 < suc (total / 192)
index_in total k lt = omega arith

pub peek_same : (total k w : ℕ) (hidden : List (List ℕ)) → Roomy total hidden → k < total
    → peek (poke hidden k w) k ≡ w
peek_same total k w hidden h lt = grind (arith, place_in, row_same, get_or-set_same, index_in)

pub peek_other : (total k j w : ℕ) (hidden : List (List ℕ)) → Roomy total hidden → k < total → (j ≡ k → ⊥)
    → peek (poke hidden k w) j ≡ peek hidden j
peek_other total k j w hidden h lt ne =
    grind (arith, cases_eq, poke, row_same, place_in, get_or-set_other, row_other)

pub still_roomy : (total k w : ℕ) (hidden : List (List ℕ)) → Roomy total hidden → k < total
    → Roomy total (poke hidden k w)
still_roomy total k w hidden h lt =
    grind (arith, with_row_count, cases_eq, poke, row_same, place_in, length-set, row_other)

-- saved values
abbrev pub pokes : (ℕ → ℕ) → List (List ℕ) → List ℕ → List ℕ → List (List ℕ)
pokes at hidden [] vars = hidden
pokes at hidden (x ∷ xs) vars = pokes at (poke hidden (at x) (get_or vars x 0)) xs vars

-- loaded values
abbrev pub peeks : (ℕ → ℕ) → List (List ℕ) → List ℕ → List ℕ → List ℕ
peeks at hidden [] vars = vars
peeks at hidden (x ∷ xs) vars = peeks at hidden xs (set vars x (peek hidden (at x)))

module _ (total : ℕ) (at : ℕ → ℕ) (apart : (x y : ℕ) → at x ≡ at y → x ≡ y) where
  abbrev pub AllIn : List ℕ → Type 0
  AllIn xs = AllByRecursion (λ x. at x < total) xs

  pub pokes_roomy : (hidden : List (List ℕ)) (xs vars : List ℕ) → AllIn xs → Roomy total hidden
      → Roomy total (pokes at hidden xs vars)
  pokes_roomy hidden [] vars i h = h
  pokes_roomy hidden (x ∷ xs) vars i h = pokes_roomy (poke hidden (at x) (get_or vars x 0)) xs vars i.1
      (still_roomy total (at x) (get_or vars x 0) hidden h i.0)

  pub pokes_in : (hidden : List (List ℕ)) (xs vars : List ℕ) (x : ℕ) → AllIn xs → Roomy total hidden
      → (peek hidden (at x) ≡ get_or vars x 0) ⊎ In x xs → peek (pokes at hidden xs vars) (at x) ≡ get_or vars
      x 0
  pokes_in hidden (y ∷ ys) vars x i h w =
      let next = poke hidden (at y) (get_or vars y 0) in
      let roomy = still_roomy total (at y) (get_or vars y 0) hidden h i.0 in
      elim (cases_eq x y) [
        | inl e ↦ pokes_in next ys vars x i.1 roomy (inl (ap (λ n. peek next (at n)) e ∙ peek_same total (at
            y) (get_or vars y 0) hidden h i.0 ∙ ap (λ n. get_or vars n 0) (sym e)))
        | inr ne ↦ pokes_in next ys vars x i.1 roomy (elim w [
          | inl e ↦ inl (peek_other total (at y) (at x) (get_or vars y 0) hidden h i.0 (λ same. ne (apart x y
              same)) ∙ e)
          | inr j ↦ elim j [ inl e ↦ absurd (ne e) | inr k ↦ inr k ]
        ])
      ]
  pokes_in hidden [] vars x i h y = grind arith

  pub pokes_other : (hidden : List (List ℕ)) (xs vars : List ℕ) (k : ℕ) → AllIn xs → Roomy total hidden
      → ((x : ℕ) → In x xs → k ≡ at x → ⊥) → peek (pokes at hidden xs vars) k ≡ peek hidden k
  pokes_other hidden [] vars k i h ne = refl
  pokes_other hidden (x ∷ xs) vars k i h ne = pokes_other (poke hidden (at x) (get_or vars x 0)) xs vars k i.1
      (grind (arith, still_roomy)) (λ y j. ne y (inr j)) ∙ peek_other total (at x) k (get_or vars x 0) hidden
      h i.0 (ne x (inl refl))

  pub peeks_in : (hidden : List (List ℕ)) (xs vars : List ℕ) (x : ℕ) → x < length vars
      → (get_or vars x 0 ≡ peek hidden (at x)) ⊎ In x xs → get_or (peeks at hidden xs vars) x 0 ≡ peek hidden
      (at x)
  peeks_in hidden (y ∷ ys) vars x lt w =
      let next = set vars y (peek hidden (at y)) in
      let there : x < length next = omega (arith, lt, length-set vars y (peek hidden (at y))) in
      elim (cases_eq x y) [
        | inl e ↦ peeks_in hidden ys next x there (inl (rw e (get_or-set_same vars y (peek hidden (at y)) 0
            (omega arith))))
        | inr ne ↦ peeks_in hidden ys next x there (elim w [
          | inl e ↦ inl (get_or-set_other vars y x (peek hidden (at y)) 0 ne ∙ e)
          | inr j ↦ elim j [ inl e ↦ absurd (ne e) | inr k ↦ inr k ]
        ])
      ]
  peeks_in hidden [] vars x lt y = grind arith

  pub peeks_other : (hidden : List (List ℕ)) (xs vars : List ℕ) (x : ℕ) → (In x xs → ⊥)
      → get_or (peeks at hidden xs vars) x 0 ≡ get_or vars x 0
  peeks_other hidden [] vars x ne = refl
  peeks_other hidden (y ∷ ys) vars x ne = peeks_other hidden ys (set vars y (peek hidden (at y))) x
      (λ j. ne (inr j)) ∙ get_or-set_other vars y x (peek hidden (at y)) 0 (λ e. ne (inl e))

  pub peeks_count : (hidden : List (List ℕ)) (xs vars : List ℕ) → length (peeks at hidden xs vars)
      ≡ length vars
  peeks_count hidden [] vars = refl
  peeks_count hidden (y ∷ ys) vars =
      grind (arith, peek, length-set, peeks_count hidden ys (set vars y (peek hidden (at y))))

-- numbers below another, and those that pass a test
pub in_below : (n x : ℕ) → x < n → In x (below n)
in_below zero x lt = absurd (omega arith)
in_below (suc n) x lt = elim (cases_eq x n) [
  | inl e ↦ right (below n) (n ∷ []) (inl e)
  | inr ne ↦
      left (below n) (n ∷ []) (in_below n x (omega arith))
]
  where
    left : (xs ys : List ℕ) → In x xs → In x (xs ++ ys)
    left [] ys h = absurd h
    left (y ∷ xs) ys (inl e) = inl e
    left (y ∷ xs) ys (inr h) = inr (left xs ys h)

    right : (xs ys : List ℕ) → In x ys → In x (xs ++ ys)
    right [] ys h = h
    right (y ∷ xs) ys h = inr (right xs ys h)

pub below_all : (n x : ℕ) → In x (below n) → x < n
below_all zero x h = absurd h
below_all (suc n) x h = elim (split (below n) (n ∷ []) h) [
  | inl i ↦ omega (arith, below_all n x i)
  | inr i ↦ grind arith
]
  where
    split : (xs ys : List ℕ) → In x (xs ++ ys) → In x xs ⊎ In x ys
    split [] ys h = inr h
    split (y ∷ xs) ys (inl e) = inl (inl e)
    split (y ∷ xs) ys (inr h) = elim (split xs ys h) [ inl i ↦ inl (inr i) | inr i ↦ inr i ]

pub below_count : (n : ℕ) → length (below n) ≡ n
below_count zero = refl
below_count (suc n) = omega (arith, length_push (below n) n, below_count n)

pub below_at : (n i : ℕ) → i < n → get_or (below n) i 0 ≡ i
below_at zero i lt = absurd (omega arith)
below_at (suc n) i lt = elim (cases_eq i n) [
  | inl e ↦ get_or_push (below n) n 0 i (below_count n ∙ sym e) ∙ sym e
  | inr ne ↦ let low : i < n = omega arith in grind (arith, get_or_append_left, below_count, below_at n i low)
]

pub apart_push : (xs : List ℕ) (n : ℕ) → Distinct xs → (In n xs → ⊥) → Distinct (xs ++ n ∷ [])
apart_push [] n a never = ((λ h. h), tt)
apart_push (x ∷ xs) n a never = (
  (λ h. elim (split xs h) [ inl i ↦ a.0 i | inr e ↦ never (inl (sym e)) ]),
  apart_push xs n a.1 (λ i. never (inr i)),
)
  where
    split : (ys : List ℕ) → In x (ys ++ n ∷ []) → In x ys ⊎ (x ≡ n)
    split [] (inl e) = inr e
    split [] (inr z) = absurd z
    split (y ∷ ys) (inl e) = inl (inl e)
    split (y ∷ ys) (inr i) = elim (split ys i) [ inl j ↦ inl (inr j) | inr e ↦ inr e ]

pub below_apart : (n : ℕ) → Distinct (below n)
below_apart zero = tt
below_apart (suc n) = apart_push (below n) n (below_apart n) (λ i. omega (arith, below_all n n i))
