-- Lemmas on lists of destinations: what they open, and what their tokens leave at ports.
use Rattle.std.proofs.Common.{ℕ, zero, suc, ◌+◌, ◌≡◌, ◌<◌, ◌≤◌, ◌⊎◌, true, false, List, [], ◌∷◌, ◌++◌, length}
use Rattle.std.proofs.Common.{Some, refl, sym, ap, ◌∙◌, inl, inr, arith, eq-eqb, ne_eqb}
use Rattle.std.proofs.lemmas.Bool.{cases_eq, both_ways}
use Rattle.ws_isa.specs.declared.instr.Dest.{Dest}
use Rattle.ws_isa.specs.Image.{Image, Token, tokens_to, edge_dests}
use Rattle.ws_isa.specs.Walk.{Ports, is_at, with_token, with_tokens, edge_tokens, gather}
use Rattle.ws_isa.specs.Sound.{OpenSlots, HasDest, opened, all_opened, Fresh, closed, edge_all}
use Rattle.ws_words.specs.Items.{nth, or_else}

pub opened_cases : (d : Dest) (o : OpenSlots) (j q : ℕ)
    → ((d.instr ≡ j) × (d.port ≡ q) × (opened d o j q ≡ true))
    ⊎ (((d.instr ≡ j) × (d.port ≡ q) → ⊥) × (opened d o j q ≡ o j q))
opened_cases d o j q = grind (arith, cases_eq, d.instr, d.port, eq-eqb, ne_eqb)

pub opened_keeps : (d : Dest) (o : OpenSlots) (j q : ℕ) → o j q ≡ true → opened d o j q ≡ true
opened_keeps d o j q e = elim (opened_cases d o j q) [ inl h ↦ h.2 | inr h ↦ h.1 ∙ e ]

-- what is open stays open
pub all_opened_keeps : (ds : List Dest) (o : OpenSlots) (j q : ℕ) → o j q ≡ true → all_opened ds o j q ≡ true
all_opened_keeps [] o j q e = e
all_opened_keeps (d ∷ ds) o j q e =
    grind (arith, opened_keeps, all_opened_keeps ds (opened d o) j q (opened_keeps d o j q e))

-- what is open then was open, or is a destination
pub all_opened_from : (ds : List Dest) (o : OpenSlots) (j q : ℕ) → all_opened ds o j q ≡ true
    → (o j q ≡ true) ⊎ HasDest ds j q
all_opened_from [] o j q e = inl e
all_opened_from (d ∷ ds) o j q e = grind (arith, opened_cases, all_opened_from ds (opened d o) j q e)

-- destinations are open then
pub all_opened_has : (ds : List Dest) (o : OpenSlots) (j q : ℕ) → HasDest ds j q → all_opened ds o j q ≡ true
all_opened_has [] o j q h = absurd h
all_opened_has (d ∷ ds) o j q (inr h) = all_opened_has ds (opened d o) j q h
all_opened_has (d ∷ ds) o j q (inl h) = all_opened_keeps ds (opened d o) j q
    (elim (opened_cases d o j q) [ inl g ↦ g.2 | inr g ↦ absurd (g.0 h) ])

-- two lists open one after the other
pub all_opened_append : (ds es : List Dest) (o : OpenSlots) → all_opened (ds ++ es) o ≡ all_opened es
    (all_opened ds o)
all_opened_append [] es o = refl
all_opened_append (d ∷ ds) es o = all_opened_append ds es (opened d o)

-- what is open is no destination that can be opened
pub fresh_apart : (ds : List Dest) (o : OpenSlots) (j q : ℕ) → Fresh ds o → o j q ≡ true → HasDest ds j q → ⊥
fresh_apart [] o j q f e h = h
fresh_apart (d ∷ ds) o j q f e (inl h) = both_ways (o j q) (rw (h.0, h.1) at f.0) e
fresh_apart (d ∷ ds) o j q f e (inr h) = fresh_apart ds (opened d o) j q f.1 (opened_keeps d o j q e) h

pub fresh_left : (ds es : List Dest) (o : OpenSlots) → Fresh (ds ++ es) o → Fresh ds o
fresh_left [] es o f = tt
fresh_left (d ∷ ds) es o f = (f.0, fresh_left ds es (opened d o) f.1)

-- the second of two lists can be opened after the first
pub fresh_right : (ds es : List Dest) (o : OpenSlots) → Fresh (ds ++ es) o → Fresh es (all_opened ds o)
fresh_right [] es o f = f
fresh_right (d ∷ ds) es o f = fresh_right ds es (opened d o) f.1

-- a destination of the first list is one of both
pub has_append_left : (ds es : List Dest) (j q : ℕ) → HasDest ds j q → HasDest (ds ++ es) j q
has_append_left [] es j q h = absurd h
has_append_left (d ∷ ds) es j q (inl h) = inl h
has_append_left (d ∷ ds) es j q (inr h) = inr (has_append_left ds es j q h)

-- a destination of the second list is one of both
pub has_append_right : (ds es : List Dest) (j q : ℕ) → HasDest es j q → HasDest (ds ++ es) j q
has_append_right [] es j q h = h
has_append_right (d ∷ ds) es j q h = inr (has_append_right ds es j q h)

pub has_append_cases : (ds es : List Dest) (j q : ℕ) → HasDest (ds ++ es) j q
    → HasDest ds j q ⊎ HasDest es j q
has_append_cases [] es j q h = inr h
has_append_cases (d ∷ ds) es j q (inl h) = inl (inl h)
has_append_cases (d ∷ ds) es j q (inr h) = elim (has_append_cases ds es j q h) [
  | inl g ↦ inl (inr g)
  | inr g ↦
      inr g
]

pub has_at : (ds : List Dest) (n : ℕ) (d : Dest) → nth ds n ≡ Some d → HasDest ds d.instr d.port
has_at (x ∷ ds) (suc n) d e = inr (has_at ds n d e)
has_at ds n d e = grind arith

pub record SamePlace (w i p a b q : ℕ) : Type 0 where
  pub wave : w ≡ a
  pub instr : i ≡ b
  pub port : p ≡ q

same_place_cases : (t : Token) (a j q : ℕ) → ((is_at t a j q ≡ true) × SamePlace t.wave t.instr t.port a j q)
    ⊎ ((is_at t a j q ≡ false) × (SamePlace t.wave t.instr t.port a j q → ⊥))
same_place_cases t a j q = grind (arith, cases_eq, t.instr, t.port, eq-eqb, ne_eqb)

-- what tokens leave at ports
pub with_tokens_append : (ts us : List Token) (sent : Ports) → with_tokens (ts ++ us) sent ≡ with_tokens us
    (with_tokens ts sent)
with_tokens_append [] us sent = refl
with_tokens_append (t ∷ ts) us sent = with_tokens_append ts us (with_token t sent)

pub with_token_cases : (t : Token) (sent : Ports) (a j q : ℕ)
    → (SamePlace t.wave t.instr t.port a j q × (with_token t sent a j q ≡ Some t.value))
    ⊎ ((SamePlace t.wave t.instr t.port a j q → ⊥) × (with_token t sent a j q ≡ sent a j q))
with_token_cases t sent a j q = grind (arith, same_place_cases)

-- where no token comes the value stays
pub with_tokens_other : (w v : ℕ) (ds : List Dest) (sent : Ports) (a j q : ℕ) → (HasDest ds j q → ⊥)
    → with_tokens (tokens_to w v ds) sent a j q ≡ sent a j q
with_tokens_other w v [] sent a j q n = refl
with_tokens_other w v (d ∷ ds) sent a j q n =
    with_tokens_other w v ds (with_token (record { wave = w; instr = d.instr; port = d.port; value = v })
    sent) a j q (λ h. n (inr h)) ∙
    (elim (with_token_cases (record { wave = w; instr = d.instr; port = d.port; value = v }) sent a j q)
    [ inl h ↦ absurd (n (inl (h.0.instr, h.0.port))) | inr h ↦ h.1 ])

pub with_tokens_keeps : (w v : ℕ) (ds : List Dest) (sent : Ports) (a j q : ℕ) → sent a j q ≡ Some v
    → with_tokens (tokens_to w v ds) sent a j q ≡ Some v
with_tokens_keeps w v [] sent a j q e = e
with_tokens_keeps w v (d ∷ ds) sent a j q e =
    with_tokens_keeps w v ds (with_token (record { wave = w; instr = d.instr; port = d.port; value = v })
    sent) a j q
    (elim (with_token_cases (record { wave = w; instr = d.instr; port = d.port; value = v }) sent a j q)
    [ inl h ↦ h.1 | inr h ↦ h.1 ∙ e ])

-- a token brings its value to its port
pub with_tokens_lands : (w v : ℕ) (ds : List Dest) (sent : Ports) (j q : ℕ) → HasDest ds j q
    → with_tokens (tokens_to w v ds) sent w j q ≡ Some v
with_tokens_lands w v [] sent j q h = absurd h
with_tokens_lands w v (d ∷ ds) sent j q (inr h) = with_tokens_lands w v ds
    (with_token (record { wave = w; instr = d.instr; port = d.port; value = v }) sent) j q h
with_tokens_lands w v (d ∷ ds) sent j q (inl h) = with_tokens_keeps w v ds
    (with_token (record { wave = w; instr = d.instr; port = d.port; value = v }) sent) w j q
    (elim (with_token_cases (record { wave = w; instr = d.instr; port = d.port; value = v }) sent w j q)
    [ inl g ↦ g.1 | inr g ↦ absurd (g.0 (record { wave = refl; instr = h.0; port = h.1 })) ])

-- the edges
pub record FromEdge (image : Image) (b r k n j q : ℕ) : Type 0 where
  pub source : ℕ
  pub low : k ≤ source
  pub high : source < k + n
  pub has : HasDest (edge_dests image b r source) j q

-- what an edge opens comes from one instruction
pub edge_all_from : (image : Image) (b r k n j q : ℕ) → HasDest (edge_all image b r k n) j q
    → FromEdge image b r k n j q
edge_all_from image b r k zero j q h = absurd h
edge_all_from image b r k (suc n) j q h =
    elim (has_append_cases (edge_dests image b r k) (edge_all image b r (suc k) n) j q h) [
      | inl g ↦ record { source = k; low = omega arith; high = omega arith; has = g }
      | inr g ↦ (let f = edge_all_from image b r (suc k) n j q g in
          let lo : suc k ≤ f.source = f.low in let hi : f.source < suc k + n = f.high in
          record { source = f.source; low = omega arith; high = omega arith; has = f.has })
    ]

pub edge_all_has : (image : Image) (b r k n m j q : ℕ) → k ≤ m → m < k + n
    → HasDest (edge_dests image b r m) j q → HasDest (edge_all image b r k n) j q
edge_all_has image b r k zero m j q l u h = absurd (omega arith)
edge_all_has image b r k (suc n) m j q l u h = elim (cases_eq m k) [
  | inl e ↦ has_append_left (edge_dests image b r k) (edge_all image b r (suc k) n) j q (rw e at h)
  | inr e ↦ has_append_right (edge_dests image b r k) (edge_all image b r (suc k) n) j q
      (edge_all_has image b r (suc k) n m j q (omega arith) (omega arith) h)
]

-- where no token comes along an edge the value stays
pub edge_other : (image : Image) (b r w : ℕ) (results : ℕ → ℕ) (k n : ℕ) (sent : Ports) (a j q : ℕ)
    → (HasDest (edge_all image b r k n) j q → ⊥) →
    with_tokens (edge_tokens image b r w results k n) sent a j q ≡ sent a j q
edge_other image b r w results k zero sent a j q no' = refl
edge_other image b r w results k (suc n) sent a j q no' =
    ap (λ (f : Ports). f a j q) (with_tokens_append (tokens_to w (results k) (edge_dests image b r k))
    (edge_tokens image b r w results (suc k) n) sent)
    ∙ edge_other image b r w results (suc k) n (with_tokens (tokens_to w (results k) (edge_dests image b r k))
    sent) a j q
    (λ h. no' (has_append_right (edge_dests image b r k) (edge_all image b r (suc k) n) j q h))
    ∙ with_tokens_other w (results k) (edge_dests image b r k) sent a j q
    (λ h. no' (has_append_left (edge_dests image b r k) (edge_all image b r (suc k) n) j q h))

-- the value of a steer or send comes along the edge
pub edge_lands : (image : Image) (b r w : ℕ) (results : ℕ → ℕ) (k n : ℕ) (sent : Ports) (o : OpenSlots)
    (m j q : ℕ) → Fresh (edge_all image b r k n) o → k ≤ m → m < k + n → HasDest (edge_dests image b r m) j q
    →
    with_tokens (edge_tokens image b r w results k n) sent w j q ≡ Some (results m)
edge_lands image b r w results k zero sent o m j q f l u h = absurd (omega arith)
edge_lands image b r w results k (suc n) sent o m j q f l u h = elim (cases_eq m k) [
  | inl e ↦ (let h' : HasDest (edge_dests image b r k) j q = rw e at h in
      ap (λ (f : Ports). f w j q) (with_tokens_append (tokens_to w (results k) (edge_dests image b r k))
      (edge_tokens image b r w results (suc k) n) sent)
      ∙ edge_other image b r w results (suc k) n
      (with_tokens (tokens_to w (results k) (edge_dests image b r k)) sent) w j q
      (fresh_apart (edge_all image b r (suc k) n) (all_opened (edge_dests image b r k) o) j q
      (fresh_right (edge_dests image b r k) (edge_all image b r (suc k) n) o f)
      (all_opened_has (edge_dests image b r k) o j q h'))
      ∙ with_tokens_lands w (results k) (edge_dests image b r k) sent j q h'
      ∙ ap (λ (x : ℕ). Some (results x)) (sym e))
  | inr e ↦ ap (λ (f : Ports). f w j q) (with_tokens_append (tokens_to w (results k) (edge_dests image b r k))
      (edge_tokens image b r w results (suc k) n) sent)
      ∙ edge_lands image b r w results (suc k) n
      (with_tokens (tokens_to w (results k) (edge_dests image b r k)) sent)
      (all_opened (edge_dests image b r k) o) m j q
      (fresh_right (edge_dests image b r k) (edge_all image b r (suc k) n) o f) (omega arith) (omega arith) h
]

pub gather_nth : (f : Ports) (w i p n q : ℕ) → q < n → nth (gather f w i p n) q
    ≡ Some (or_else (f w i (p + q)) 0)
gather_nth f w i p zero q l = absurd (omega arith)
gather_nth f w i p (suc n) zero l = let e : p + zero ≡ p = omega arith in rw e refl
gather_nth f w i p (suc n) (suc q) l = let e : p + suc q ≡ suc p + q = omega arith in
    rw e (gather_nth f w i (suc p) n q (omega arith))

pub gather_length : (f : Ports) (w i p n : ℕ) → length (gather f w i p n) ≡ n
gather_length f w i p zero = refl
gather_length f w i p (suc n) = ap suc (gather_length f w i (suc p) n)

-- a slot is closed with its instruction, or stays
pub closed_cases : (k : ℕ) (o : OpenSlots) (j q : ℕ) → ((k ≡ j) × (closed k o j q ≡ false))
    ⊎ ((k ≡ j → ⊥) × (closed k o j q ≡ o j q))
closed_cases k o j q = grind (arith, cases_eq, eq-eqb, ne_eqb)
