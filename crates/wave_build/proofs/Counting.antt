-- How many variables are live where all that is live is in a list.
use Rattle.std.proofs.Common.{ℕ, zero, suc, ◌+◌, ◌==◌, ◌&&◌, ◌≡◌, ◌<◌, ◌≤◌, not, Bool, true, false, cond}
use Rattle.std.proofs.Common.{List, [], ◌∷◌, length, refl, ap, ◌∙◌, inl, inr, arith}
use Rattle.std.proofs.lemmas.Bool.{cases_eq}
use Rattle.std.proofs.lemmas.Bool.Decides.{nat_tests}
use Rattle.call_gen.specs.Spelled.{below}
use Rattle.call_gen.proofs.Spelled.Slots.{in_below, below_count}
use Rattle.wave_gen.specs.Words.{live_from}
use Rattle.ws_words.specs.Items.{In}

one_more : (c : Bool) (x : ℕ) (xs : List ℕ) → length (cond c (x ∷ xs) xs) ≤ suc (length xs)
one_more true x xs = omega arith
one_more false x xs = omega arith

-- the same test, but for one number
abbrev other : (ℕ → Bool) → ℕ → ℕ → Bool
other p x y = p y && not (y == x)

is_other : (p : ℕ → Bool) (x y : ℕ) → (y ≡ x → ⊥) → other p x y ≡ p y
is_other p x y ne = let e : (y == x) ≡ false = grind (arith, nat_tests) in ap (λ (t : Bool). p y && not t) e
    ∙ keeps (p y)
  where
    keeps : (b : Bool) → (b && true) ≡ b
    keeps true = refl
    keeps false = refl

step : (p : ℕ → Bool) (a n : ℕ) (c : Bool) → p a ≡ c → length (live_from p a (suc n))
    ≡ length (cond c (suc a ∷ live_from p (suc a) n) (live_from p (suc a) n))
step p a n c e = ap (λ (b : Bool). length (cond b (suc a ∷ live_from p (suc a) n) (live_from p (suc a) n))) e

grow : (c : Bool) (x : ℕ) (xs ys : List ℕ) → length xs ≤ length ys → length (cond c (x ∷ xs) xs)
    ≤ length (cond c (x ∷ ys) ys)
grow true x xs ys h = omega (arith, h)
grow false x xs ys h = h

-- past a number nothing is lost without it
past : (p : ℕ → Bool) (x a n : ℕ) → x < a → length (live_from p a n) ≤ length (live_from (other p x) a n)
past p x a zero lt = omega arith
past p x a (suc n) lt =
    let i = past p x (suc a) n (omega (arith, lt)) in
    let s = step p a n (p a) refl in
    let t = step (other p x) a n (p a) (is_other p x a (λ e. omega (arith, e, lt))) in
    let g = grow (p a) (suc a) (live_from p (suc a) n) (live_from (other p x) (suc a) n) i in
    omega (arith, s, t, g)

-- without one number at most one is lost
without : (p : ℕ → Bool) (x a n : ℕ) → length (live_from p a n) ≤ suc (length (live_from (other p x) a n))
without p x a zero = omega arith
without p x a (suc n) = elim (cases_eq a x) [
  | inl same ↦
      let h = past p x (suc a) n (omega (arith, same)) in
      let s = step p a n (p a) refl in
      let o = one_more (p a) (suc a) (live_from p (suc a) n) in
      let t = step (other p x) a n (other p x a) refl in
      let m = at_least (other p x a) (suc a) (live_from (other p x) (suc a) n) in
      omega (arith, h, s, o, t, m)
  | inr ne ↦
      let i = without p x (suc a) n in
      let s = step p a n (p a) refl in
      let t = step (other p x) a n (p a) (is_other p x a ne) in
      by_test (p a) i s t
]
  where
    at_least : (c : Bool) (x : ℕ) (xs : List ℕ) → length xs ≤ length (cond c (x ∷ xs) xs)
    at_least true x xs = omega arith
    at_least false x xs = omega arith

    by_test : (c : Bool) → length (live_from p (suc a) n) ≤ suc (length (live_from (other p x) (suc a) n))
        → length (live_from p a (suc n)) ≡ length
        (cond c (suc a ∷ live_from p (suc a) n) (live_from p (suc a) n))
        → length (live_from (other p x) a (suc n)) ≡ length (cond c (suc a ∷ live_from (other p x) (suc a) n)
        (live_from (other p x) (suc a) n))
        → length (live_from p a (suc n)) ≤ suc (length (live_from (other p x) a (suc n)))
    by_test true i s t = omega (arith, i, s, t)
    by_test false i s t = omega (arith, i, s, t)

none : (p : ℕ → Bool) (a n : ℕ) → ((x : ℕ) → x < a + n → p x ≡ true → ⊥) → length (live_from p a n) ≤ 0
none p a zero h = omega arith
none p a (suc n) h = by_test (p a) refl (none p (suc a) n (λ x lt. h x (omega (arith, lt))))
  where
    by_test : (c : Bool) → p a ≡ c → length (live_from p (suc a) n) ≤ 0 → length (live_from p a (suc n)) ≤ 0
    by_test true e i = absurd (h a (omega arith) e)
    by_test false e i = let s = step p a n false e in omega (arith, i, s)

both : (a b : Bool) → (a && not b) ≡ true → (a ≡ true) × (b ≡ false)
both true false e = (refl, refl)
both true true e = absurd (cc)
both false b e = absurd (cc)

-- no more numbers pass a test than a list has that has all of them
pub few_in : (ys : List ℕ) (p : ℕ → Bool) (a n : ℕ) → ((x : ℕ) → x < a + n → p x ≡ true → In x ys)
    → length (live_from p a n) ≤ length ys
few_in [] p a n h = none p a n h
few_in (y ∷ ys) p a n h =
    let w = without p y a n in
    let i = few_in ys (other p y) a n (λ x lt e. (let b = both (p x) (x == y) e in elim (h x lt b.0) [
      | inl same ↦ absurd (let t : (x == y) ≡ true = grind (arith, nat_tests) in let f = b.1 in cc)
      | inr later ↦ later
    ])) in
    omega (arith, w, i)

-- the first so many variables and one more
abbrev pub some_and : ℕ → ℕ → List ℕ
some_and v m = m ∷ below v

pub some_count : (v m : ℕ) → length (some_and v m) ≡ suc v
some_count v m = ap suc (below_count v)

pub in_some : (v m x : ℕ) → x < v → In x (some_and v m)
in_some v m x lt = inr (in_below v x lt)
