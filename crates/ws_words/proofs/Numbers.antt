-- Lemmas on numbers.
use Rattle.std.proofs.Common.{ℕ, ◌≡◌, true, sym, ◌∙◌, inl, inr, eqb, ne_eqb, suc, ◌+◌, arith, ◌<◌, nat_le}
use Rattle.std.proofs.Common.{zero, get_or, refl, length, ap, ◌==◌, Bool, false, List, [], ◌∷◌, ◌++◌, ◌⊎◌}
use Rattle.std.proofs.Common.{◌≤◌, eq-or-lt_of_le}
use Rattle.std.proofs.lemmas.Bool.{cases_eq, and_from, le-leb, cases_lt}
use Rattle.ws_words.specs.Digits.{is_digit}
use Rattle.ws_words.specs.Outside.{zeros}
use Rattle.std.proofs.lemmas.Bool.Decides.{nat_tests}

pub eqb_is : (a b : ℕ) → eqb a b ≡ true → a ≡ b
eqb_is a b e = elim (cases_eq a b) [ inl f ↦ f | inr n ↦ absurd (cc (sym e ∙ ne_eqb a b n)) ]

pub one_more : (n : ℕ) → 1 + n ≡ suc n
one_more n = omega arith

pub is_digit_of : (n : ℕ) → n < 10 → is_digit (48 + n) ≡ true
is_digit_of n h = and_from (nat_le 48 (48 + n)) (nat_le (48 + n) 57) (le-leb 48 (48 + n) (omega arith))
    (le-leb (48 + n) 57 (omega arith))

pub zero_at : (n x : ℕ) → get_or (zeros n) x 0 ≡ 0
zero_at zero x = refl
zero_at (suc n) zero = refl
zero_at (suc n) (suc x) = zero_at n x

pub zeros_count : (n : ℕ) → length (zeros n) ≡ n
zeros_count zero = refl
zeros_count (suc n) = ap suc (zeros_count n)

pub is_self : (n : ℕ) → (n == n) ≡ true
is_self n = by_test (n == n) refl
  where
    by_test : (b : Bool) → (n == n) ≡ b → (n == n) ≡ true
    by_test true e = e
    by_test false e = absurd (let z : n ≡ n → ⊥ = λ q. grind (arith, nat_tests) in z refl)

-- what stands in a procedure's variables at its entry: words, then zeros
pub entered_at : (words : List ℕ) (n x : ℕ) → get_or (words ++ zeros n) x 0 ≡ get_or words x 0
entered_at [] n x = zero_at n x
entered_at (w ∷ words) n zero = refl
entered_at (w ∷ words) n (suc x) = entered_at words n x

pub entered_count : (words : List ℕ) (n : ℕ) → length (words ++ zeros n) ≡ length words + n
entered_count [] n = zeros_count n ∙ (omega arith)
entered_count (w ∷ words) n = omega (arith, entered_count words n)

pub three_ways : (t u : ℕ) → (t < u) ⊎ ((t ≡ u) ⊎ (u < t))
three_ways t u = go (cases_lt t u)
  where
    past_equal : (u ≡ t) ⊎ (u < t) → (t < u) ⊎ ((t ≡ u) ⊎ (u < t))
    past_equal (inl e) = inr (inl (sym e))
    past_equal (inr lt) = inr (inr lt)

    go : (t < u) ⊎ (u ≤ t) → (t < u) ⊎ ((t ≡ u) ⊎ (u < t))
    go (inl lt) = inl lt
    go (inr le) = past_equal (eq-or-lt_of_le le)
