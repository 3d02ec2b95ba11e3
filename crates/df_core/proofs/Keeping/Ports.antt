-- Lemmas on ports: one value changed, tokens put on the way, a full instance, its operands.
use Rattle.std.proofs.Common.{ℕ, zero, suc, ◌+◌, ◌≡◌, ◌<◌, ◌⊎◌, true, false, List, [], ◌∷◌, length, Option}
use Rattle.std.proofs.Common.{Some, None, refl, ap, ◌∙◌, inl, inr, arith, eq-eqb, add-suc, add-zero, suc-add}
use Rattle.std.proofs.lemmas.Bool.{cases_eq, and_parts, and_from}
use Rattle.ws_isa.specs.Image.{Token}
use Rattle.ws_isa.specs.Walk.{Ports, gather}
pub use Rattle.ws_isa.proofs.Slots.{SamePlace}
use Rattle.df_core.specs.Core.{IsSent, same_place, with_at, with_key, or_put, put_one, put_all, has, is_full}
use Rattle.ws_words.specs.Items.{nth}

pub same_place_cases : (w i p a b q : ℕ) → ((same_place w i p a b q ≡ true) × SamePlace w i p a b q)
    ⊎ ((same_place w i p a b q ≡ false) × (SamePlace w i p a b q → ⊥))
same_place_cases w i p a b q = grind (arith, cases_eq)

pub with_at_cases : (w i p : ℕ) (o : Option ℕ) (f : Ports) (a b q : ℕ)
    → (SamePlace w i p a b q × (with_at w i p o f a b q ≡ o))
    ⊎ ((SamePlace w i p a b q → ⊥) × (with_at w i p o f a b q ≡ f a b q))
with_at_cases w i p o f a b q = grind (arith, same_place_cases)

pub with_at_same : (w i p : ℕ) (o : Option ℕ) (f : Ports) → with_at w i p o f w i p ≡ o
with_at_same w i p o f = rw (eq-eqb w w refl, eq-eqb i i refl, eq-eqb p p refl) refl

pub record SameKey (w i a b : ℕ) : Type 0 where
  pub wave : w ≡ a
  pub instr : i ≡ b

pub with_key_cases : {A : Type 0} (w i : ℕ) (o : Option A) (f : ℕ → ℕ → Option A) (a b : ℕ)
    → (SameKey w i a b × (with_key w i o f a b ≡ o))
    ⊎ ((SameKey w i a b → ⊥) × (with_key w i o f a b ≡ f a b))
with_key_cases w i o f a b = grind (arith, cases_eq)

pub with_key_same : {A : Type 0} (w i : ℕ) (o : Option A) (f : ℕ → ℕ → Option A) → with_key w i o f w i ≡ o
with_key_same w i o f = rw (eq-eqb w w refl, eq-eqb i i refl) refl

-- a value that is put: it stood there, or it is the token's
or_put_from : (h y : Option ℕ) (v u : ℕ) → or_put h y v ≡ Some u → (y ≡ Some u) ⊎ (v ≡ u)
or_put_from h y v u e = grind arith

or_put_keeps : (h y : Option ℕ) (v u : ℕ) → y ≡ Some u → or_put h y v ≡ Some u
or_put_keeps h y v u e = grind arith

or_put_held : (h y : Option ℕ) (v u : ℕ) → h ≡ Some u → or_put h y v ≡ y
or_put_held h y v u e = grind arith

or_put_lands : (h y : Option ℕ) (v : ℕ) → (u : ℕ) × ((h ≡ Some u) ⊎ (or_put h y v ≡ Some u))
or_put_lands (Some h) y v = (h, inl refl)
or_put_lands None (Some y) v = (y, inr refl)
or_put_lands None None v = (v, inr refl)

-- one token
put_one_cases : (held : Ports) (t : Token) (way : Ports) (w i p : ℕ)
    → (SamePlace t.wave t.instr t.port w i p
    × (put_one held t way w i p ≡ or_put (held w i p) (way w i p) t.value))
    ⊎ ((SamePlace t.wave t.instr t.port w i p → ⊥) × (put_one held t way w i p ≡ way w i p))
put_one_cases held t way w i p = grind (arith, same_place_cases)

put_one_from : (held : Ports) (t : Token) (way : Ports) (w i p v : ℕ) → put_one held t way w i p ≡ Some v
    → (way w i p ≡ Some v) ⊎ (SamePlace t.wave t.instr t.port w i p × (t.value ≡ v))
put_one_from held t way w i p v e = grind (arith, put_one_cases, or_put_from)

put_one_keeps : (held : Ports) (t : Token) (way : Ports) (w i p v : ℕ) → way w i p ≡ Some v
    → put_one held t way w i p ≡ Some v
put_one_keeps held t way w i p v e = grind (arith, put_one_cases, or_put_keeps)

put_one_held : (held : Ports) (t : Token) (way : Ports) (w i p v : ℕ) → held w i p ≡ Some v
    → put_one held t way w i p ≡ way w i p
put_one_held held t way w i p v e = grind (arith, put_one_cases, or_put_held)

put_one_lands : (held : Ports) (t : Token) (way : Ports) (w i p : ℕ) → t.wave ≡ w → t.instr ≡ i → t.port ≡ p
    → (u : ℕ) × ((held w i p ≡ Some u) ⊎ (put_one held t way w i p ≡ Some u))
put_one_lands held t way w i p e f g = elim (put_one_cases held t way w i p) [
  | inl h ↦ (let r = or_put_lands (held w i p) (way w i p) t.value in
      (r.0, elim r.1 [ inl k ↦ inl k | inr k ↦ inr (h.1 ∙ k) ]))
  | inr h ↦ absurd (h.0 (record { wave = e; instr = f; port = g }))
]

-- all of a list
pub put_all_keeps : (held : Ports) (ts : List Token) (way : Ports) (w i p v : ℕ) → way w i p ≡ Some v
    → put_all held ts way w i p ≡ Some v
put_all_keeps held [] way w i p v e = e
put_all_keeps held (t ∷ ts) way w i p v e = put_all_keeps held ts (put_one held t way) w i p v
    (put_one_keeps held t way w i p v e)

pub put_all_held : (held : Ports) (ts : List Token) (way : Ports) (w i p v : ℕ) → held w i p ≡ Some v
    → put_all held ts way w i p ≡ way w i p
put_all_held held [] way w i p v e = refl
put_all_held held (t ∷ ts) way w i p v e =
    grind (arith, put_one_held, put_all_held held ts (put_one held t way) w i p v e)

pub put_all_from : (held : Ports) (ts : List Token) (way : Ports) (w i p v : ℕ)
    → put_all held ts way w i p ≡ Some v → (way w i p ≡ Some v) ⊎ IsSent ts w i p v
put_all_from held [] way w i p v e = inl e
put_all_from held (t ∷ ts) way w i p v e =
    grind (arith, put_one_from, put_all_from held ts (put_one held t way) w i p v e)

pub put_all_lands : (held : Ports) (ts : List Token) (way : Ports) (w i p v : ℕ) → IsSent ts w i p v
    → (u : ℕ) × ((held w i p ≡ Some u) ⊎ (put_all held ts way w i p ≡ Some u))
put_all_lands held [] way w i p v e = absurd e
put_all_lands held (t ∷ ts) way w i p v (inr e) = put_all_lands held ts (put_one held t way) w i p v e
put_all_lands held (t ∷ ts) way w i p v (inl e) =
    let r = put_one_lands held t way w i p e.0 e.1 e.2 in
    (r.0, elim r.1 [ inl k ↦ inl k | inr k ↦ inr (put_all_keeps held ts (put_one held t way) w i p r.0 k) ])

-- full
pub has_some : {A : Type 0} (o : Option A) → has o ≡ true → (x : A) × (o ≡ Some x)
has_some o e = grind arith

pub full_all : (f : Ports) (w i n : ℕ) → is_full f w i n ≡ true → (p : ℕ) → p < n
    → (v : ℕ) × (f w i p ≡ Some v)
full_all f w i zero e p h = absurd (omega arith)
full_all f w i (suc n) e p h = go (and_parts (has (f w i n)) (is_full f w i n) e) (cases_eq p n)
    (λ l a. full_all f w i n a p l)
  where
    go : (has (f w i n) ≡ true) × (is_full f w i n ≡ true) → (p ≡ n) ⊎ (p ≡ n → ⊥)
        → (p < n → is_full f w i n ≡ true → (v : ℕ) × (f w i p ≡ Some v)) → (v : ℕ) × (f w i p ≡ Some v)
    go a (inl s) r = rw s (has_some (f w i n) a.0)
    go a (inr s) r = r (omega arith) a.1

pub all_full : (f : Ports) (w i n : ℕ) → ((p : ℕ) → p < n → (v : ℕ) × (f w i p ≡ Some v))
    → is_full f w i n ≡ true
all_full f w i zero h = refl
all_full f w i (suc n) h = and_from (has (f w i n)) (is_full f w i n) (ap has (h n (omega arith)).1)
    (all_full f w i n (λ p l. h p (omega arith)))

-- the operands are those of a list, where each port holds the list's value
pub gather_is : (f : Ports) (w i p : ℕ) (xs : List ℕ)
    → ((q v : ℕ) → nth xs q ≡ Some v → f w i (p + q) ≡ Some v) → gather f w i p (length xs) ≡ xs
gather_is f w i p [] h = refl
gather_is f w i p (x ∷ xs) h =
    let here : f w i p ≡ Some x = rw add-zero at (h 0 x refl) in
    let rest : gather f w i (suc p) (length xs) ≡ xs = gather_is f w i (suc p) xs
    (λ q v e. rw (suc-add, ← add-suc) (h (suc q) v e)) in
    rw (here, rest) refl
