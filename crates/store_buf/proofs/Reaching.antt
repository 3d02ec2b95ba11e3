-- Tokens that have come or are on the way.
use Rattle.std.proofs.Common.{ℕ, ◌≡◌, ◌⊎◌, List, [], ◌∷◌, ◌++◌, Option, Some, None, MatchOption, refl, sym}
use Rattle.std.proofs.Common.{reverse, ap, ◌∙◌, subst, inl, inr, arith}
use Rattle.std.proofs.lemmas.List.{append_assoc, reverse-append}
use Rattle.ws_isa.specs.Image.{Token}
use Rattle.ws_isa.specs.Walk.{Ports}
use Rattle.df_core.specs.Core.{IsSent, with_at}
use Rattle.df_core.proofs.Keeping.Ports.{with_at_cases}
use Rattle.df_core.proofs.Walked.SlotLists.{is_sent_append_left, is_sent_append_right, is_sent_append_cases}
use Rattle.store_buf.specs.Runs.{AllReach, Covers, IsOnItsWay}

pub covers_self : (ts : List Token) → Covers ts ts
covers_self ts w i p v h = h

pub covers_left : (some rest all : List Token) → Covers (some ++ rest) all → Covers some all
covers_left some rest all c w i p v h = c w i p v (is_sent_append_left some rest w i p v h)

pub covers_right : (some rest all : List Token) → Covers (some ++ rest) all → Covers rest all
covers_right some rest all c w i p v h = c w i p v (is_sent_append_right some rest w i p v h)

-- what reaches its port there reaches it here
pub reach_by : (f g : Ports) (way more ts : List Token) →
    ((w i p : ℕ) → IsOnItsWay f way w i p → IsOnItsWay g more w i p) → AllReach f way ts → AllReach g more ts
reach_by f g way more ts r all w i p v h = r w i p (all w i p v h)

pub reach_all : (f : Ports) (ts way : List Token) → Covers ts way → AllReach f way ts
reach_all f ts way c w i p v h = inr (v, c w i p v h)

-- a token that has come is no longer on the way
pub reach_held : (f : Ports) (way : List Token) (x : Token) → (v : ℕ) × (f x.wave x.instr x.port ≡ Some v) →
    (w i p : ℕ) → IsOnItsWay f (x ∷ way) w i p → IsOnItsWay f way w i p
reach_held f way x come w i p y = grind arith

-- nothing is on the way: each has come
pub reach_none : (f : Ports) (ts : List Token) → AllReach f [] ts → (w i p v : ℕ) → IsSent ts w i p v →
    (u : ℕ) × (f w i p ≡ Some u)
reach_none f ts all w i p v h = elim (all w i p v h) [ inl g ↦ g | inr g ↦ absurd g.1 ]

-- a token comes to its port, which was free
module _ (f g : Ports) (x : Token) (free : f x.wave x.instr x.port ≡ None)
    (more : (w i p : ℕ) → g w i p ≡ with_at x.wave x.instr x.port (Some x.value) f w i p) where
  pub held_new : g x.wave x.instr x.port ≡ Some x.value
  held_new = grind (arith, with_at_cases)

  pub held_old : (w i p v : ℕ) → f w i p ≡ Some v → g w i p ≡ Some v
  held_old w i p v e = grind (arith, with_at_cases)

  pub reach_arrived : (way : List Token) (w i p : ℕ) → IsOnItsWay f (x ∷ way) w i p → IsOnItsWay g way w i p
  reach_arrived way w i p x = grind (arith, held_old, reach_held, held_new)

-- backwards a list has the same tokens
pub reverse_covers : (ts : List Token) → Covers ts (reverse ts)
reverse_covers [] w i p v h = absurd h
reverse_covers (t ∷ ts) w i p v (inl h) =
    subst (λ (us : List Token). IsSent us w i p v) (sym (reverse-append (t ∷ []) ts))
    (is_sent_append_right (reverse ts) (t ∷ []) w i p v (inl h))
reverse_covers (t ∷ ts) w i p v (inr h) =
    subst (λ (us : List Token). IsSent us w i p v) (sym (reverse-append (t ∷ []) ts))
    (is_sent_append_left (reverse ts) (t ∷ []) w i p v (reverse_covers ts w i p v h))

-- what is put behind others is taken before them
pub covers_back : (before more sent : List Token) → more ≡ before ++ sent →
    Covers (sent ++ reverse before) (reverse more)
covers_back before more sent e w i p v h = subst (λ (us : List Token). IsSent us w i p v)
    (sym (ap reverse e ∙ reverse-append before sent))
    (elim (is_sent_append_cases sent (reverse before) w i p v h) [
      | inl g ↦ is_sent_append_left (reverse sent) (reverse before) w i p v (reverse_covers sent w i p v g)
      | inr g ↦ is_sent_append_right (reverse sent) (reverse before) w i p v g
    ])

-- tokens are put on the way, behind this round or behind what waits for the next
pub covers_round : (old round next more sent : List Token) → old ≡ reverse round ++ reverse next →
    more ≡ round ++ sent → Covers (sent ++ old) (reverse more ++ reverse next)
covers_round old round next more sent e f w i p v h = let back = covers_back round more sent f w i p v in
    grind (arith, is_sent_append_cases, is_sent_append_left, is_sent_append_right)

pub covers_next : (old round next more sent : List Token) → old ≡ reverse round ++ reverse next →
    more ≡ next ++ sent → Covers (sent ++ old) (reverse round ++ reverse more)
covers_next old round next more sent e f w i p v h = let back = covers_back next more sent f w i p v in
    grind (arith, is_sent_append_cases, is_sent_append_right, is_sent_append_left)

-- the first of them is pushed, and then the others
pub pushed : (all rest before mid after : List Token) (t : Token) → all ≡ t ∷ rest → mid ≡ before ++ t ∷ []
    → after ≡ mid ++ rest → after ≡ before ++ all
pushed all rest before mid after t e f g = grind (arith, append_assoc)

-- a token is taken from a list and put on the way
pub covers_put : (old way more : List Token) (t : Token) → Covers old way → Covers (t ∷ way) more →
    Covers old more
covers_put old way more t c put w i p v h = put w i p v (inr (c w i p v h))

pub taken_on : (all before after way more : List Token) (t : Token) →
    ((w i p v : ℕ) → IsSent all w i p v → IsSent way w i p v ⊎ IsSent before w i p v) →
    before ≡ after ++ t ∷ [] → Covers (t ∷ way) more →
    (w i p v : ℕ) → IsSent all w i p v → IsSent more w i p v ⊎ IsSent after w i p v
taken_on all before after way more t c e put w i p v h = grind (arith, is_sent_append_cases)

-- the first that an instance sent is brought, and the others are put on the way
pub covers_rest : (all rest old way : List Token) (t : Token) → all ≡ t ∷ rest → Covers (rest ++ old) way →
    Covers (all ++ old) (t ∷ way)
covers_rest all rest old way t e keep w i p v h =
    grind (arith, is_sent_append_cases, is_sent_append_left, is_sent_append_right)

-- the first on the way is taken, once all that an instance sent has been put there
pub take_after : (o : Option Token) (all rest old way new : List Token) (t : Token) → all ≡ t ∷ rest →
    Covers (all ++ old) way → MatchOption o (way ≡ []) (λ x. way ≡ x ∷ new) →
    MatchOption o ((all ≡ []) × (old ≡ [])) (λ x. Covers (all ++ old) (x ∷ new))
take_after None all rest old way new t e c m = absurd (subst
    (λ (ts : List Token). IsSent ts t.wave t.instr t.port t.value) m
    (c t.wave t.instr t.port t.value (is_sent_append_left all old t.wave t.instr t.port t.value
    (subst (λ (ts : List Token). IsSent ts t.wave t.instr t.port t.value) (sym e)
    (inl (refl, refl, refl, refl))))))
take_after (Some x) all rest old way new t e c m = grind arith
