-- The names that a block needs, and the variables that it reads.
use Rattle.std.proofs.Common.{ℕ, zero, suc, ◌+◌, ◌≡◌, ◌<◌, ◌≤◌, Bool, true, false, cond, List, [], ◌∷◌}
use Rattle.std.proofs.Common.{length, refl, sym, ap, ◌∙◌, inl, inr, arith, eq-eqb, ne_eqb}
use Rattle.std.proofs.lemmas.Bool.{cases_eq, both_ways, cases_lt, lt-ltb, le-ltb}
use Rattle.cfg_core.specs.Graph.{Spot, no_spot}
use Rattle.wave_gen.specs.Plans.{is_among}
use Rattle.wave_gen.proofs.Planning.Planned.{Apart}
use Rattle.wave_gen.specs.Listing.{most_vars}
use Rattle.wave_gen.specs.Words.{live_from}
use Rattle.ws_words.specs.Items.{nth, or_else, In}

pub among_in : (x : ℕ) (ys : List ℕ) → is_among x ys ≡ true → In x ys
among_in x [] e = absurd (both_ways false refl e)
among_in x (y ∷ ys) e = elim (cases_eq x y) [
  | inl f ↦ inl f
  | inr d ↦
      inr (among_in x ys (rw (ne_eqb x y d) at e))
]

pub in_among : (x : ℕ) (ys : List ℕ) → In x ys → is_among x ys ≡ true
in_among x [] h = absurd h
in_among x (y ∷ ys) h = elim (cases_eq x y) [
  | inl f ↦ rw (eq-eqb x y f) refl
  | inr d ↦ rw (ne_eqb x y d) (in_among x ys (elim h [ inl e ↦ absurd (d e) | inr i ↦ i ]))
]

pub from_rules : (x : ℕ) (ys : List ℕ) → In x ys → In x ys
from_rules x (y ∷ ys) (inr h) = inr (from_rules x ys h)
from_rules x ys h = grind arith

pub to_rules : (x : ℕ) (ys : List ℕ) → In x ys → In x ys
to_rules x (y ∷ ys) (inr h) = inr (to_rules x ys h)
to_rules x ys h = grind arith

-- a name in the list of those of n variables from x on that are live
pub record LiveName (live : ℕ → Bool) (x n z : ℕ) : Type 0 where
  pub var : ℕ
  pub name : z ≡ suc var
  pub from : x ≤ var
  pub below : var < x + n
  pub is_live : live var ≡ true

later_name : (live : ℕ → Bool) (x n z : ℕ) → LiveName live (suc x) n z → LiveName live x (suc n) z
later_name live x n z h = grind arith

pub live_in : (live : ℕ → Bool) (x n z : ℕ) → In z (live_from live x n) → LiveName live x n z
live_in live x zero z h = absurd h
live_in live x (suc n) z h = go (live x) refl (λ i. later_name live x n z (live_in live (suc x) n z i)) h
  where
    go : (v : Bool) → live x ≡ v → (In z (live_from live (suc x) n) → LiveName live x (suc n) z)
        → In z (cond v (suc x ∷ live_from live (suc x) n) (live_from live (suc x) n))
        → LiveName live x (suc n) z
    go v e rest i = grind arith

pub live_has : (live : ℕ → Bool) (x n y : ℕ) → x ≤ y → y < x + n → live y ≡ true
    → In (suc y) (live_from live x n)
live_has live x zero y l u e = absurd (omega (arith, l, u))
live_has live x (suc n) y l u e = elim (cases_eq y x) [
  | inl f ↦ rw (ap live (sym f) ∙ e) (inl (ap suc f))
  | inr d ↦ go (live x) (live_has live (suc x) n y (omega arith) (omega (arith, u)) e)
]
  where
    go : (v : Bool) → In (suc y) (live_from live (suc x) n)
        → In (suc y) (cond v (suc x ∷ live_from live (suc x) n) (live_from live (suc x) n))
    go v i = grind arith

pub live_apart : (live : ℕ → Bool) (x n : ℕ) → Apart (live_from live x n)
live_apart live x zero = tt
live_apart live x (suc n) = go (live x) (live_apart live (suc x) n)
  where
    go : (v : Bool) → Apart (live_from live (suc x) n)
        → Apart (cond v (suc x ∷ live_from live (suc x) n) (live_from live (suc x) n))
    go v a = grind (arith, live_in)

pub live_none : (live : ℕ → Bool) (x n : ℕ) → ((y : ℕ) → y < x + n → live y ≡ true → ⊥)
    → live_from live x n ≡ []
live_none live x zero f = refl
live_none live x (suc n) f = go (live x) refl (live_none live (suc x) n (λ y l. f y (omega (arith, l))))
  where
    go : (v : Bool) → live x ≡ v → live_from live (suc x) n ≡ [] → cond v (suc x ∷ live_from live (suc x) n)
        (live_from live (suc x) n) ≡ []
    go v e h = grind arith

-- no block has more variables than the most
pub most_is : (ss : List Spot) (b : ℕ) → b < length ss → (or_else (nth ss b) no_spot).vars ≤ most_vars ss
most_is [] b l = absurd (omega (arith, l))
most_is (s ∷ ss) b l = elim (cases_lt s.vars (most_vars ss)) [
  | inl u ↦ rw (lt-ltb s.vars (most_vars ss) u) (go b u l (λ c m. most_is ss c m))
  | inr u ↦ rw (le-ltb s.vars (most_vars ss) u) (ho b u l (λ c m. most_is ss c m))
]
  where
    go : (b : ℕ) → s.vars < most_vars ss → b < suc (length ss)
        → ((c : ℕ) → c < length ss → (or_else (nth ss c) no_spot).vars ≤ most_vars ss)
        → (or_else (nth (s ∷ ss) b) no_spot).vars ≤ most_vars ss
    go b u m ih = grind arith

    ho : (b : ℕ) → most_vars ss ≤ s.vars → b < suc (length ss)
        → ((c : ℕ) → c < length ss → (or_else (nth ss c) no_spot).vars ≤ most_vars ss)
        → (or_else (nth (s ∷ ss) b) no_spot).vars ≤ s.vars
    ho b u m ih = grind arith
