-- The fronts of blocks: entries, their advances, and merges behind them.
use Rattle.std.proofs.Common.{ℕ, zero, suc, ◌+◌, ◌-◌, ◌≡◌, ◌<◌, ◌≤◌, ◌⊎◌, ◌||◌, Bool, true, false, cond, eqb}
use Rattle.std.proofs.Common.{List, [], ◌∷◌, length, Some, None, refl, sym, ap, ◌∙◌, inl, inr, arith}
use Rattle.std.proofs.Common.{eq-eqb, ne_eqb}
use Rattle.std.proofs.lemmas.Bool.{cases_eq, both_ways}
use Rattle.ws_isa.specs.Sound.{HasDest}
use Rattle.wave_gen.specs.Wire.{Target, Back, Front, dests_of, Made, gather}
use Rattle.wave_gen.specs.Plans.{has_front, renew, advances, fronts}
use Rattle.wave_gen.proofs.Planning.Planned.{Apart}
use Rattle.wave_gen.proofs.Waits.Flow.{Wanted}
use Rattle.wave_gen.proofs.Waits.Ends.{Clean}
use Rattle.ws_words.specs.Items.{nth, In}

pub in_nth : (xs : List ℕ) (i x : ℕ) → nth xs i ≡ Some x → In x xs
in_nth (y ∷ xs) (suc i) x e = inr (in_nth xs i x e)
in_nth xs i x e = grind arith

pub nth_in : (xs : List ℕ) (x : ℕ) → In x xs → (i : ℕ) × (nth xs i ≡ Some x)
nth_in [] x h = absurd h
nth_in (y ∷ xs) x (inl e) = (0, ap Some (sym e))
nth_in (y ∷ xs) x (inr h) = let r = nth_in xs x h in (suc r.0, r.1)

pub in_or_not : (xs : List ℕ) (x : ℕ) → In x xs ⊎ (In x xs → ⊥)
in_or_not [] x = inr (λ h. h)
in_or_not (y ∷ xs) x = grind (arith, cases_eq, in_or_not xs x)

-- fronts
pub fronts_at : (b k : ℕ) (xs : List ℕ) (i x : ℕ) → Apart xs → nth xs i ≡ Some x
    → fronts b k xs x ≡ Front b (k + i) ∷ []
fronts_at b k (y ∷ xs) (suc i) x a e = grind (arith, in_nth, fronts_at b (suc k) xs i x a.1 e)
fronts_at b k xs i x a e = grind arith

pub fronts_none : (b k : ℕ) (xs : List ℕ) (x : ℕ) → (In x xs → ⊥) → fronts b k xs x ≡ []
fronts_none b k [] x n = refl
fronts_none b k (y ∷ xs) x n = rw (ne_eqb x y (λ e. n (inl e))) (fronts_none b (suc k) xs x (λ h. n (inr h)))

-- what a front says
pub record FrontIs (first : ℕ → ℕ) (b : ℕ) (xs : List ℕ) (x j q : ℕ) : Type 0 where
  pub place : ℕ
  pub is : nth xs place ≡ Some x
  pub instr : j ≡ first b + place
  pub port : q ≡ 0

pub front_is : (first : ℕ → ℕ) (b : ℕ) (xs : List ℕ) (x j q : ℕ) → Apart xs
    → HasDest (dests_of first (fronts b 0 xs x)) j q → FrontIs first b xs x j q
front_is first b xs x j q a h = grind (arith, in_or_not, nth_in, fronts_at, fronts_none)

pub is_front : (first : ℕ → ℕ) (b : ℕ) (xs : List ℕ) (i x : ℕ) → Apart xs → nth xs i ≡ Some x
    → HasDest (dests_of first (fronts b 0 xs x)) (first b + i) 0
is_front first b xs i x a e = grind (arith, fronts_at)

pub fronts_one : (b k : ℕ) (xs : List ℕ) (x : ℕ) → (fronts b k xs x ≡ [])
    ⊎ ((i : ℕ) × (k ≤ i) × (i < k + length xs) × (fronts b k xs x ≡ Front b i ∷ []))
fronts_one b k [] x = inl refl
fronts_one b k (y ∷ xs) x = grind (arith, cases_eq, fronts_one b (suc k) xs x)

pub fronts_clean : (first : ℕ → ℕ) (Fine : ℕ → ℕ → Type 0) (k width b : ℕ) (xs : List ℕ) → Apart xs
    → ((x : ℕ) → In x xs → x < width) → ((i : ℕ) → i < length xs → Fine b i)
    → Clean first Fine k width (fronts b 0 xs)
fronts_clean first Fine k width b xs a few fine = grind (arith, front_is, fronts_one, in_or_not, fronts_none)

-- advances
one_use : (b y : ℕ) (s : Made) → (gather b y s).wants y ≡ Back b (length s.code) 0 ∷ []
one_use b y s = rw (eq-eqb y y refl) refl

pub advances_count : (b : ℕ) (xs : List ℕ) (s : Made) → length (advances b xs s).code ≡ length xs + length
    s.code
advances_count b [] s = omega arith
advances_count b (x ∷ xs) s = grind (arith, advances_count b xs s)

pub advances_at : (b : ℕ) (xs : List ℕ) (s : Made) (i x : ℕ) → Apart xs → nth xs i ≡ Some x
    → (advances b xs s).wants x ≡ Back b (length s.code + (length xs - suc i)) 0 ∷ []
advances_at b [] s i x a e = absurd (let c : None ≡ Some x = e in cc)
advances_at b (y ∷ xs) s zero x a e = grind (arith, advances_count)
advances_at b (y ∷ xs) s (suc i) x a e = grind (arith, in_nth, advances_at b xs s i x a.1 e)

pub advances_other : (b : ℕ) (xs : List ℕ) (s : Made) (x : ℕ) → (In x xs → ⊥)
    → (advances b xs s).wants x ≡ s.wants x
advances_other b [] s x n = refl
advances_other b (y ∷ xs) s x n = rw (ne_eqb x y (λ e. n (inl e))) (advances_other b xs s x (λ h. n (inr h)))

-- after renewing, no entry sends to one of its own block
gather_back : (b x : ℕ) (s : Made) → has_front b ((gather b x s).wants x) ≡ false
gather_back b x s = ap (has_front b) (one_use b x s)

gather_front : (b x y : ℕ) (s : Made) → has_front b (s.wants x) ≡ false
    → has_front b ((gather b y s).wants x) ≡ false
gather_front b x y s h = grind (arith, cases_eq, gather_back)

renew_keeps : (b : ℕ) (xs : List ℕ) (s : Made) (x : ℕ) → has_front b (s.wants x) ≡ false
    → has_front b ((renew b xs s).wants x) ≡ false
renew_keeps b [] s x h = h
renew_keeps b (y ∷ xs) s x h = renew_keeps b xs (cond (has_front b (s.wants y)) (gather b y s) s) x
    (go (has_front b (s.wants y)))
  where
    go : (f : Bool) → has_front b ((cond f (gather b y s) s).wants x) ≡ false
    go f = grind (arith, gather_front)

pub renewed : (b : ℕ) (xs : List ℕ) (s : Made) (x : ℕ) → In x xs → has_front b ((renew b xs s).wants x)
    ≡ false
renewed b [] s x h = absurd h
renewed b (y ∷ xs) s x (inr h) = grind (
  arith,
  s.wants,
  renewed b xs (cond (has_front b (s.wants y)) (gather b y s) s) x h,
)
renewed b (y ∷ xs) s x (inl e) = grind (arith, renew_keeps, s.wants, go)
  where
    go : (f : Bool) → has_front b (s.wants y) ≡ f → has_front b ((cond f (gather b y s) s).wants y) ≡ false
    go f g = grind (arith, gather_back)

pub no_front : (b : ℕ) (l : List Target) (i : ℕ) → has_front b l ≡ false → In (Front b i) l → ⊥
no_front b l i e h = both_ways (has_front b l) e (go l h)
  where
    left : (x y : Bool) → x ≡ true → (x || y) ≡ true
    left x y e = rw e refl

    right : (x y : Bool) → y ≡ true → (x || y) ≡ true
    right x y e = grind arith

    same_block : (p : Target) → Front b i ≡ p → (c k : ℕ) → p ≡ Front c k → b ≡ c
    same_block p f c k g = let z : Front b i ≡ Front c k = f ∙ g in cc

    go : (l : List Target) → In (Front b i) l → has_front b l ≡ true
    go [] h = absurd h
    go (Front c k ∷ l) (inl f) = grind (arith, left, eq-eqb, same_block)
    go (Front c k ∷ l) (inr h) = right (eqb b c) (has_front b l) (go l h)
    go (Back c r q ∷ l) (inl f) = absurd (let z : Front b i ≡ Back c r q = f in cc)
    go (Back c r q ∷ l) (inr h) = go l h

-- renewing wants only entries more
pub renew_wanted : (b : ℕ) (xs : List ℕ) (s : Made) (x : ℕ) → Wanted (renew b xs s).wants x
    → In x xs ⊎ Wanted s.wants x
renew_wanted b [] s x h = inr h
renew_wanted b (y ∷ xs) s x h =
    grind (arith, s.wants, go, renew_wanted b xs (cond (has_front b (s.wants y)) (gather b y s) s) x h)
  where
    go : (f : Bool) → Wanted (cond f (gather b y s) s).wants x → In x (y ∷ xs) ⊎ Wanted s.wants x
    go f g = grind arith
