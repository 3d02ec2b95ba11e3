-- Numbers of a list: those that were added, and those that pass a test.
use Rattle.std.proofs.Common.{ℕ, ◌≡◌, ◌<◌, ◌==◌, Bool, true, false, if◌then◌else◌, List, [], ◌∷◌, ◌++◌}
use Rattle.std.proofs.Common.{length, refl, inl, inr, arith}
use Rattle.std.specs.List.{AllByRecursion}
use Rattle.std.proofs.lemmas.Bool.{cases_eq}
use Rattle.std.proofs.lemmas.Bool.Decides.{nat_tests}
use Rattle.cfg_core.specs.Graph.{Op, Assign, Store, Print, Read, Give, Take, Choose, Tick, TickBy, Graph}
use Rattle.cfg_core.specs.Rules.{OpIn}
use Rattle.phi_conv.specs.Joined.{is_among, added, written}
use Rattle.ws_words.proofs.Bools.{or_comes as either, or_right as or_true, decide as true_or_false, no_both}
use Rattle.ws_words.proofs.Numbers.{is_self}
use Rattle.ws_words.specs.Items.{In}
use Rattle.ws_words.proofs.Places.{in_left, in_right, in_both}

-- a number that isn't there where it isn't in a longer list
pub less_among : (xs ys : List ℕ) (x : ℕ) → (is_among xs x ≡ true → is_among ys x ≡ true)
    → is_among ys x ≡ false → is_among xs x ≡ false
less_among xs ys x f e = elim (true_or_false (is_among xs x)) [ inl t ↦ absurd (no_both (f t) e) | inr d ↦ d ]

-- a number that the test finds is there
pub among_in : (xs : List ℕ) (x : ℕ) → is_among xs x ≡ true → In x xs
among_in [] x e = absurd (cc)
among_in (y ∷ xs) x e = elim (either (x == y) (is_among xs x) e) [
  | inl h ↦ inl (grind (arith, nat_tests))
  | inr h ↦ inr (among_in xs x h)
]

-- one that is there is found
pub in_among : (xs : List ℕ) (x : ℕ) → In x xs → is_among xs x ≡ true
in_among [] x i = absurd i
in_among (y ∷ xs) x (inl e) = grind (arith, is_self)
in_among (y ∷ xs) x (inr i) = or_true (x == y) (is_among xs x) (in_among xs x i)

-- a number that was added is there
pub added_here : (done : List ℕ) (x : ℕ) → is_among (added done x) x ≡ true
added_here done x = by_test (is_among done x) refl
  where
    by_test : (b : Bool) → is_among done x ≡ b → is_among (if b then done else done ++ x ∷ []) x ≡ true
    by_test true e = e
    by_test false e = in_among (done ++ x ∷ []) x (in_right x done (x ∷ []) (inl refl))

-- another is there where it was
pub added_other : (done : List ℕ) (x y : ℕ) → (y ≡ x → ⊥) → is_among (added done x) y ≡ is_among done y
added_other done x y ne = by_test (is_among done x)
  where
    pushed : (b : Bool) → is_among done y ≡ b → is_among (done ++ x ∷ []) y ≡ b
    pushed true e = in_among (done ++ x ∷ []) y (in_left y done (x ∷ []) (among_in done y e))
    pushed false e = elim (true_or_false (is_among (done ++ x ∷ []) y)) [
      | inl t ↦ absurd (elim (in_both y done (x ∷ []) (among_in (done ++ x ∷ []) y t)) [
        | inl i ↦ no_both (in_among done y i) e
        | inr i ↦ elim i [ inl q ↦ ne q | inr z ↦ z ]
      ])
      | inr f ↦ f
    ]

    by_test : (b : Bool) → is_among (if b then done else done ++ x ∷ []) y ≡ is_among done y
    by_test true = refl
    by_test false = pushed (is_among done y) refl

-- what is there stays there
added_stays : (done : List ℕ) (x y : ℕ) → is_among done y ≡ true → is_among (added done x) y ≡ true
added_stays done x y e = grind (arith, cases_eq, added_here, added_other)

-- what was written stays written
pub written_stays : (done : List ℕ) (ops : List Op) (y : ℕ) → is_among done y ≡ true
    → is_among (written done ops) y ≡ true
written_stays done [] y e = e
written_stays done (Assign x t ∷ ops) y e = written_stays (added done x) ops y (added_stays done x y e)
written_stays done (Store a t u ∷ ops) y e = written_stays done ops y e
written_stays done (Print t ∷ ops) y e = written_stays done ops y e
written_stays done (Read x ∷ ops) y e = written_stays done ops y e
written_stays done (Give p x ∷ ops) y e = written_stays done ops y e
written_stays done (Take p t ∷ ops) y e = written_stays done ops y e
written_stays done (Choose x t a b ∷ ops) y e = written_stays done ops y e
written_stays done (Tick n ∷ ops) y e = written_stays done ops y e
written_stays done (TickBy t n m ∷ ops) y e = written_stays done ops y e

added_more : (done more : List ℕ) (x y : ℕ) → (is_among done y ≡ true → is_among more y ≡ true)
    → is_among (added done x) y ≡ true → is_among (added more x) y ≡ true
added_more done more x y f e = grind (arith, cases_eq, added_here, added_other)

-- what an arm writes is among what was written before and by the arm
pub written_more : (done more : List ℕ) (ops : List Op) (y : ℕ)
    → (is_among done y ≡ true → is_among more y ≡ true) → is_among (written done ops) y ≡ true
    → is_among (written more ops) y ≡ true
written_more done more [] y f e = f e
written_more done more (Assign x t ∷ ops) y f e = grind (
  arith,
  added_more,
  written_more (added done x) (added more x) ops y (added_more done more x y f) e,
)
written_more done more (Store a t u ∷ ops) y f e = written_more done more ops y f e
written_more done more (Print t ∷ ops) y f e = written_more done more ops y f e
written_more done more (Read x ∷ ops) y f e = written_more done more ops y f e
written_more done more (Give p x ∷ ops) y f e = written_more done more ops y f e
written_more done more (Take p t ∷ ops) y f e = written_more done more ops y f e
written_more done more (Choose x t a b ∷ ops) y f e = written_more done more ops y f e
written_more done more (Tick n ∷ ops) y f e = written_more done more ops y f e
written_more done more (TickBy t n m ∷ ops) y f e = written_more done more ops y f e

module _ (g : Graph) (v : ℕ) where
  added_low : (done : List ℕ) (x : ℕ) → x < v → ((y : ℕ) → In y done → y < v) → (y : ℕ) → In y (added done x)
      → y < v
  added_low done x lt f y = by_test (is_among done x)
    where
      by_test : (b : Bool) → In y (if b then done else done ++ x ∷ []) → y < v
      by_test true i = f y i
      by_test false i = elim (in_both y done (x ∷ []) i) [
        | inl h ↦ f y h
        | inr h ↦ elim h [ inl e ↦ omega (arith, e, lt) | inr z ↦ absurd z ]
      ]

  -- the variables that operations write exist
  pub written_low : (done : List ℕ) (ops : List Op) → AllByRecursion (OpIn (length g.arrays) v) ops
      → ((y : ℕ) → In y done → y < v) → (y : ℕ) → In y (written done ops) → y < v
  written_low done [] h f y i = f y i
  written_low done (Assign x t ∷ ops) h f y i = grind (
    arith,
    added_low,
    written_low (added done x) ops h.1 (added_low done x h.0.0 f) y i,
  )
  written_low done (Store a t u ∷ ops) h f y i = written_low done ops h.1 f y i
  written_low done (Print t ∷ ops) h f y i = written_low done ops h.1 f y i
  written_low done (Read x ∷ ops) h f y i = written_low done ops h.1 f y i
  written_low done (Give p x ∷ ops) h f y i = written_low done ops h.1 f y i
  written_low done (Take p t ∷ ops) h f y i = written_low done ops h.1 f y i
  written_low done (Choose x t a b ∷ ops) h f y i = written_low done ops h.1 f y i
  written_low done (Tick n ∷ ops) h f y i = written_low done ops h.1 f y i
  written_low done (TickBy t n m ∷ ops) h f y i = written_low done ops h.1 f y i
