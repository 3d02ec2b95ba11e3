-- How many tails a block has, and what is wanted past its end against what is wanted where an edge leads.
use Rattle.std.proofs.Common.{ℕ, zero, suc, ◌+◌, ◌≡◌, ◌<◌, ◌≤◌, ◌⊎◌, ◌||◌, Bool, true, false, cond, eqb, List}
use Rattle.std.proofs.Common.{[], ◌∷◌, length, refl, sym, ap, ◌∙◌, subst, inl, inr, arith, eq-eqb}
use Rattle.std.proofs.lemmas.Bool.{cases_Bool, cases_lt, cases_eq, both_ways, cond-true, cond-false}
use Rattle.ws_isa.specs.Image.{Image, Array, is_stop, stops, target}
use Rattle.wave_gen.specs.Wire.{Target, Wants}
use Rattle.wave_gen.specs.Words.{live_from}
use Rattle.wave_gen.specs.Plans.{HowLeft, Onto, Either, Lands, Halts, Plan, same_spot, same_spots, differing}
use Rattle.wave_gen.specs.Plans.{steered, is_among, past, steers, sends, end_wants, plan_at, starts_at}
use Rattle.wave_gen.specs.Plans.{exit_of, source_of, draft_of}
use Rattle.wave_gen.proofs.Planning.SteeredNames.{or_count, or_among}
use Rattle.wave_gen.proofs.Planning.Planned.{PlansAre, EdgesAre, Inner}
use Rattle.wave_gen.proofs.Weighing.Weights.{total}
use Rattle.wave_gen.proofs.Drawing.Blocks.{facts}
use Rattle.wave_gen.proofs.Drawing.Edges.{target_is}
use Rattle.wave_gen.proofs.Drawing.Waiting.{stops_is}
use Rattle.ws_words.proofs.Bools.{and_parts as and_both}

nil_or : (l : List Target) → (l ≡ []) ⊎ (l ≡ [] → ⊥)
nil_or [] = inl refl
nil_or (p ∷ l) = inr (λ e. cc)

-- names of variables that no arm wants aren't steered
differing_live : (w v : Wants) (p : ℕ → Bool) → ((y : ℕ) → p y ≡ false → (w (suc y) ≡ []) × (v (suc y) ≡ []))
    → (x n m : ℕ) → ((y : ℕ) → x + m ≤ y → (w (suc y) ≡ []) × (v (suc y) ≡ []))
    → length (differing w v (suc x) n) ≤ length (live_from p x m)
differing_live w v p none x zero m past = omega arith
differing_live w v p none x (suc n) zero past =
    let o = past x (omega arith) in
    let e : same_spots (w (suc x)) (v (suc x)) ≡ true = ap (λ (r : List Target). same_spots r (v (suc x))) o.0
    ∙ ap (same_spots []) o.1 in
    let c : length (differing w v (suc x) (suc n)) ≡ length (differing w v (suc (suc x)) n) =
    ap length (cond-true (same_spots (w (suc x)) (v (suc x))) (differing w v (suc (suc x)) n)
    (suc x ∷ differing w v (suc (suc x)) n) e) in
    let i : length (differing w v (suc (suc x)) n) ≤ length (live_from p (suc x) 0) =
    differing_live w v p none (suc x) n 0 (λ y l. past y (omega (arith, l))) in
    omega arith
differing_live w v p none x (suc n) (suc m) past =
    let i : length (differing w v (suc (suc x)) n) ≤ length (live_from p (suc x) m) =
    differing_live w v p none (suc x) n m (λ y l. past y (omega (arith, l))) in
    by_test (p x) refl i
  where
    more : (f : Bool) → length (differing w v (suc (suc x)) n) ≤ length (live_from p (suc x) m)
        → length (cond f (differing w v (suc (suc x)) n) (suc x ∷ differing w v (suc (suc x)) n))
        ≤ suc (length (live_from p (suc x) m))
    more f i = grind arith

    by_test : (f : Bool) → p x ≡ f → length (differing w v (suc (suc x)) n) ≤ length (live_from p (suc x) m)
        → length (differing w v (suc x) (suc n)) ≤ length (live_from p x (suc m))
    by_test f e i = grind (arith, cond-true, more, cond-false)

pub steered_few : (width high : ℕ) (w v : Wants) (p : ℕ → Bool)
    → ((y : ℕ) → p y ≡ false → (w (suc y) ≡ []) × (v (suc y) ≡ []))
    → ((y : ℕ) → high ≤ y → (w (suc y) ≡ []) × (v (suc y) ≡ [])) → length (steered width w v)
    ≤ suc (length (live_from p 0 high))
steered_few width high w v p none past = grind (arith, or_count, differing_live)

pub steers_count : (w v : Wants) (xs : List ℕ) → length (steers w v xs) ≡ length xs
steers_count w v [] = refl
steers_count w v (x ∷ xs) = ap suc (steers_count w v xs)

pub sends_count : (p : ℕ) (xs : List ℕ) → length (sends p xs) ≡ length xs
sends_count p [] = refl
sends_count p (x ∷ xs) = ap suc (sends_count (suc p) xs)

-- lists of places that are the same
same_count : (ps qs : List Target) → same_spots ps qs ≡ true → length ps ≡ length qs
same_count (p ∷ ps) (q ∷ qs) e = ap suc (same_count ps qs (and_both (same_spot p q) (same_spots ps qs) e).1)
same_count ps qs e = grind (arith, both_ways)

pub total_least : (w v : Wants) (n : ℕ) → ((x : ℕ) → length (w x) ≤ length (v x)) → total w n ≤ total v n
total_least w v zero h = omega arith
total_least w v (suc n) h = grind (arith, total, total_least w v n h)

pub total_none : (n : ℕ) → total (λ x. []) n ≤ 0
total_none zero = omega arith
total_none (suc n) = let h = total_none n in omega (arith, h)

among_later : (x y : ℕ) (ys : List ℕ) → is_among x ys ≡ true → is_among x (y ∷ ys) ≡ true
among_later x y ys e = grind arith

among_here : (x : ℕ) (ys : List ℕ) → is_among x (x ∷ ys) ≡ true
among_here x ys = ap (λ (f : Bool). f || is_among x ys) (eq-eqb x x refl)

differing_has : (w v : Wants) (y x n : ℕ) → x ≤ y → y < x + n → same_spots (w y) (v y) ≡ false
    → is_among y (differing w v x n) ≡ true
differing_has w v y x zero l u e = absurd (omega (arith, l, u))
differing_has w v y x (suc n) l u e = elim (cases_eq y x) [
  | inl q ↦ (let f : same_spots (w x) (v x) ≡ false = ap (λ (z : ℕ). same_spots (w z) (v z)) (sym q) ∙ e in
      ap (is_among y) (cond-false (same_spots (w x) (v x)) (differing w v (suc x) n)
      (x ∷ differing w v (suc x) n) f) ∙ ap (λ (z : ℕ). is_among y (z ∷ differing w v (suc x) n)) (sym q)
      ∙ among_here y (differing w v (suc x) n))
  | inr d ↦ go (same_spots (w x) (v x)) (differing_has w v y (suc x) n (omega (arith, l, d))
      (omega (arith, u)) e)
]
  where
    go : (f : Bool) → is_among y (differing w v (suc x) n) ≡ true
        → is_among y (cond f (differing w v (suc x) n) (x ∷ differing w v (suc x) n)) ≡ true
    go f i = grind (arith, among_later)

-- what goes past a branch is wanted at both its arms
past_one : (xs : List ℕ) (w : Wants) (x : ℕ) → length (past xs w x) ≤ length (w x)
past_one xs w x = grind arith

past_other : (width : ℕ) (w v : Wants) → ((y : ℕ) → width ≤ y → w y ≡ []) → (x : ℕ)
    → length (past (steered width w v) w x) ≤ length (v x)
past_other width w v none x = grind (
  arith,
  cases_Bool,
  same_count,
  past_one,
  cases_lt,
  or_among,
  differing_has,
  cond-true,
)

module _ (arrays : List Array) (width : ℕ) (ps : List Plan) (Live : ℕ → ℕ → Type 0)
    (plans : PlansAre ps width Live) where
  abbrev I : Image
  I = draft_of arrays width ps

  abbrev Is : ℕ → Type 0
  Is b = (1 ≤ b) × (b ≤ length ps)

  -- nobody wants a name that isn't live
  pub unwanted : (c y : ℕ) → Is c → (Live c y → ⊥) → starts_at width ps c y ≡ []
  unwanted c y h n = elim (nil_or (starts_at width ps c y)) [
    | inl e ↦ e
    | inr w ↦
        absurd (n ((facts width ps Live plans.each c h).live y w))
  ]

  narrow : (c y : ℕ) → Is c → width ≤ y → starts_at width ps c y ≡ []
  narrow c y h l = unwanted c y h (grind (arith, plans.each))

  -- what is wanted past the end of a block is wanted where its edges lead
  pub ends_on : (n b r : ℕ) → Is b → total (end_wants width (starts_at width ps) (plan_at ps b).exit) n
      ≤ total (starts_at width ps (target I b r)) n
  ends_on n b r h = go (plan_at ps b).exit refl (plans.each b h).edges
    where
      none : (c : ℕ) → total (λ x. []) n ≤ total (starts_at width ps c) n
      none c = let e = total_none n in omega (arith, e)

      arm : (c d : ℕ) → Inner ps b c × Inner ps b d → (f : Bool)
          → total (past (steered width (starts_at width ps c) (starts_at width ps d)) (starts_at width ps c))
          n ≤ total (starts_at width ps (cond f d c)) n
      arm c d g true = grind (arith, total_least, past_other, narrow)
      arm c d g false = grind (arith, total_least, past_one)

      to : (e : HowLeft) → (plan_at ps b).exit ≡ e → total (end_wants width (starts_at width ps) e) n
          ≤ total (starts_at width ps (target I b r)) n
          → total (end_wants width (starts_at width ps) (plan_at ps b).exit) n
          ≤ total (starts_at width ps (target I b r)) n
      to e q l = grind (arith, total)

      go : (e : HowLeft) → (plan_at ps b).exit ≡ e → EdgesAre ps b e
          → total (end_wants width (starts_at width ps) (plan_at ps b).exit) n
          ≤ total (starts_at width ps (target I b r)) n
      go (Onto c) q g = to (Onto c) q (let t : target I b r ≡ c = target_is arrays width ps Live plans b h
          (Onto c) q r in
          let z : total (starts_at width ps (target I b r)) n ≡ total (starts_at width ps c) n =
          ap (λ (x : ℕ). total (starts_at width ps x) n) t in omega (arith, z))
      go (Either op from c d) q g = to (Either op from c d) q (let t : target I b r ≡ cond (eqb r 0) d c =
          target_is arrays width ps Live plans b h (Either op from c d) q r in
          subst (λ (x : ℕ). total (past (steered width (starts_at width ps c) (starts_at width ps d))
          (starts_at width ps c)) n ≤ total (starts_at width ps x) n) (sym t) (arm c d g (eqb r 0)))
      go (Lands op from values ls) q g = to (Lands op from values ls) q (none (target I b r))
      go Halts q g = to Halts q (none (target I b r))

  pub ends_stop : (n b : ℕ) → Is b → stops I b ≡ true
      → total (end_wants width (starts_at width ps) (plan_at ps b).exit) n ≤ 0
  ends_stop n b h s = go (plan_at ps b).exit refl
    where
      bad : (e : HowLeft) → (plan_at ps b).exit ≡ e → is_stop (exit_of (source_of width ps b) e) ≡ false → ⊥
      bad e q f = both_ways (stops I b) (stops_is arrays width ps Live plans b h
          ∙ ap (λ (l : HowLeft). is_stop (exit_of (source_of width ps b) l)) q ∙ f) s

      go : (e : HowLeft) → (plan_at ps b).exit ≡ e
          → total (end_wants width (starts_at width ps) (plan_at ps b).exit) n ≤ 0
      go (Onto c) q = absurd (bad (Onto c) q refl)
      go (Either op from c d) q = absurd (bad (Either op from c d) q refl)
      go (Lands op from values ls) q = absurd (bad (Lands op from values ls) q refl)
      go Halts q = subst (λ (x : HowLeft). total (end_wants width (starts_at width ps) x) n ≤ 0) (sym q)
          (total_none n)
