-- Lemmas on tokens that are sent.
use Rattle.std.proofs.Common.{arith, ℕ, ◌≡◌, ◌⊎◌, List, [], ◌∷◌, ◌++◌, refl, inl, inr}
use Rattle.ws_isa.specs.declared.instr.Dest.{Dest}
use Rattle.ws_isa.specs.Image.{Token, tokens_to}
use Rattle.ws_isa.specs.Sound.{HasDest}
use Rattle.df_core.specs.Core.{IsSent}

pub sent_to : (w v : ℕ) (ds : List Dest) (j q : ℕ) → HasDest ds j q → IsSent (tokens_to w v ds) w j q v
sent_to w v [] j q h = absurd h
sent_to w v (d ∷ ds) j q (inl h) = inl (refl, h.0, h.1, refl)
sent_to w v (d ∷ ds) j q (inr h) = inr (sent_to w v ds j q h)

pub sent_from : (w v : ℕ) (ds : List Dest) (a j q u : ℕ) → IsSent (tokens_to w v ds) a j q u
    → HasDest ds j q × (w ≡ a) × (v ≡ u)
sent_from w v [] a j q u h = absurd h
sent_from w v (d ∷ ds) a j q u (inl h) = (inl (h.1, h.2), h.0, h.3)
sent_from w v (d ∷ ds) a j q u (inr h) = let r = sent_from w v ds a j q u h in (inr r.0, r.1, r.2)

pub is_sent_append_left : (ts us : List Token) (w i p v : ℕ) → IsSent ts w i p v → IsSent (ts ++ us) w i p v
is_sent_append_left [] us w i p v h = absurd h
is_sent_append_left (t ∷ ts) us w i p v (inl h) = inl h
is_sent_append_left (t ∷ ts) us w i p v (inr h) = inr (is_sent_append_left ts us w i p v h)

pub is_sent_append_right : (ts us : List Token) (w i p v : ℕ) → IsSent us w i p v → IsSent (ts ++ us) w i p v
is_sent_append_right [] us w i p v h = h
is_sent_append_right (t ∷ ts) us w i p v h = inr (is_sent_append_right ts us w i p v h)

pub is_sent_append_cases : (ts us : List Token) (w i p v : ℕ) → IsSent (ts ++ us) w i p v
    → IsSent ts w i p v ⊎ IsSent us w i p v
is_sent_append_cases [] us w i p v h = inr h
is_sent_append_cases (t ∷ ts) us w i p v (inl h) = inl (inl h)
is_sent_append_cases (t ∷ ts) us w i p v (inr h) = grind (arith, is_sent_append_cases ts us w i p v h)
