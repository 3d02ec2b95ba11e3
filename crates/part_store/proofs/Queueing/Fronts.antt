-- The first entry on a cell, and entries that are queued.
use Rattle.std.proofs.Common.{ℕ, ◌≡◌, ◌⊎◌, Bool, true, false, cond, List, [], ◌∷◌, Some, None, refl, sym, ap}
use Rattle.std.proofs.Common.{◌∙◌, subst, inl, inr, arith}
use Rattle.std.proofs.lemmas.Bool.{both_ways, cases_Bool}
use Rattle.df_core.proofs.Keeping.Ports.{SameKey}
use Rattle.part_store.specs.declared.entry.Queued.{Queued}
use Rattle.part_store.specs.Queues.{front, is_queued, all_later, joined, without}
use Rattle.part_store.proofs.Queueing.Keys.{IsOn, key_cases, cell_cases, same_cell_is}
use Rattle.ws_words.specs.Items.{In}

pub front_here : (e : Queued) (es : List Queued) (r j : ℕ) → IsOn e r j → front (e ∷ es) r j ≡ Some e
front_here e es r j o = rw (same_cell_is e r j o) refl

pub front_there : (e : Queued) (es : List Queued) (r j : ℕ) → (IsOn e r j → ⊥) →
    front (e ∷ es) r j ≡ front es r j
front_there e es r j n = elim (cell_cases e r j) [ inl h ↦ absurd (n h.1) | inr h ↦ rw h.0 refl ]

pub front_in : (es : List Queued) (r j : ℕ) (f : Queued) → front es r j ≡ Some f → In f es × IsOn f r j
front_in [] r j f h = absurd (let g : None ≡ Some f = h in cc)
front_in (e ∷ es) r j f h = elim (cell_cases e r j) [
  | inl c ↦ (let g : Some e ≡ Some f = sym (front_here e es r j c.1) ∙ h in let q : e ≡ f = cc in
      (inl (sym q), subst (λ (x : Queued). IsOn x r j) q c.1))
  | inr c ↦ (let g = front_in es r j f (sym (front_there e es r j c.1) ∙ h) in (inr g.0, g.1))
]

-- a cell on which an entry stands is held
pub held_in : (es : List Queued) (r j : ℕ) (f : Queued) → In f es → IsOn f r j →
    (e : Queued) × (front es r j ≡ Some e)
held_in [] r j f h o = absurd h
held_in (e ∷ es) r j f h o = elim (cell_cases e r j) [
  | inl c ↦ (e, front_here e es r j c.1)
  | inr c ↦ elim h [
    | inl q ↦ absurd (c.1 (subst (λ (x : Queued). IsOn x r j) q o))
    | inr g ↦ (let s = held_in es r j f g o in (s.0, front_there e es r j c.1 ∙ s.1))
  ]
]

pub queued_in : (es : List Queued) (w i : ℕ) → is_queued es w i ≡ true →
    (e : Queued) × In e es × SameKey e.wave e.instr w i
queued_in [] w i h = absurd (both_ways false refl h)
queued_in (e ∷ es) w i h = elim (key_cases e.wave e.instr w i) [
  | inl k ↦ (e, inl refl, k.1)
  | inr k ↦ (let g = queued_in es w i (subst (λ (b : Bool). cond b true (is_queued es w i) ≡ true) k.0 h) in
      (g.0, inr g.1, g.2))
]

pub in_queued : (es : List Queued) (w i : ℕ) (f : Queued) → In f es → SameKey f.wave f.instr w i →
    is_queued es w i ≡ true
in_queued [] w i f h k = absurd h
in_queued (e ∷ es) w i f (inl q) k = grind arith
in_queued (e ∷ es) w i f (inr g) k = grind (arith, key_cases, in_queued es w i f g k)

module _ (f : Queued) where
  pub joined_in : (es : List Queued) (e : Queued) → In e (joined f es) → (e ≡ f) ⊎ In e es
  joined_in (x ∷ es) e h = elim (cases_Bool (all_later (x ∷ es) f)) [
    | inl l ↦ elim (subst (λ (b : Bool). In e (cond b (f ∷ x ∷ es) (x ∷ joined f es))) l h)
        [ inl q ↦ inl q | inr g ↦ inr g ]
    | inr l ↦ elim (subst (λ (b : Bool). In e (cond b (f ∷ x ∷ es) (x ∷ joined f es))) l h) [
      | inl q ↦ inr (inl q)
      | inr g ↦ elim (joined_in es e g) [ inl q ↦ inl q | inr k ↦ inr (inr k) ]
    ]
  ]
  joined_in [] e x = grind arith

  pub joined_new : (es : List Queued) → In f (joined f es)
  joined_new [] = inl refl
  joined_new (x ∷ es) = grind (arith, cases_Bool, joined_new es)

  pub joined_old : (es : List Queued) (e : Queued) → In e es → In e (joined f es)
  joined_old [] e h = absurd h
  joined_old (x ∷ es) e h = elim (cases_Bool (all_later (x ∷ es) f)) [
    | inl l ↦ rw l (inr h)
    | inr l ↦ rw l (elim h [ inl q ↦ inl q | inr g ↦ inr (joined_old es e g) ])
  ]

  -- on other cells nothing changes
  pub joined_other : (es : List Queued) (r j : ℕ) → (IsOn f r j → ⊥) → front (joined f es) r j ≡ front es r j
  joined_other [] r j n = front_there f [] r j n
  joined_other (x ∷ es) r j n =
      grind (arith, cases_Bool, front_there, cell_cases, front_here, joined_other es r j n)

  -- on a cell that no queue held it is the first one
  pub joined_first : (es : List Queued) (r j : ℕ) → IsOn f r j → front es r j ≡ None →
      front (joined f es) r j ≡ Some f
  joined_first [] r j o h = front_here f [] r j o
  joined_first (x ∷ es) r j o h = elim (cases_Bool (all_later (x ∷ es) f)) [
    | inl l ↦ ap (λ (b : Bool). front (cond b (f ∷ x ∷ es) (x ∷ joined f es)) r j) l
        ∙ front_here f (x ∷ es) r j o
    | inr l ↦ ap (λ (b : Bool). front (cond b (f ∷ x ∷ es) (x ∷ joined f es)) r j) l
        ∙ elim (cell_cases x r j) [
          | inl c ↦ absurd (let g : Some x ≡ None = sym (front_here x es r j c.1) ∙ h in cc)
          | inr c ↦ front_there _ _ _ _ c.1 ∙ joined_first es r j o (sym (front_there x es r j c.1) ∙ h)
        ]
  ]

module _ (w i : ℕ) where
  pub without_in : (es : List Queued) (e : Queued) → In e (without es w i) → In e es
  without_in [] e h = absurd h
  without_in (x ∷ es) e h = elim (key_cases x.wave x.instr w i) [
    | inl k ↦ inr (subst (λ (b : Bool). In e (cond b es (x ∷ without es w i))) k.0 h)
    | inr k ↦ elim (subst (λ (b : Bool). In e (cond b es (x ∷ without es w i))) k.0 h)
        [ inl q ↦ inl q | inr g ↦ inr (without_in es e g) ]
  ]

  pub in_without : (es : List Queued) (e : Queued) → In e es → (SameKey e.wave e.instr w i → ⊥) →
      In e (without es w i)
  in_without [] e h n = absurd h
  in_without (x ∷ es) e h n = elim (key_cases x.wave x.instr w i) [
    | inl k ↦ rw k.0 (elim h [
      | inl q ↦ absurd (n (rw q k.1))
      | inr g ↦ g
    ])
    | inr k ↦ rw k.0 (elim h [ inl q ↦ inl q | inr g ↦ inr (in_without es e g n) ])
  ]

  -- on cells on which it doesn't stand nothing changes
  pub without_other : (es : List Queued) (r j : ℕ) →
      ((e : Queued) → In e es → SameKey e.wave e.instr w i → IsOn e r j → ⊥) →
      front (without es w i) r j ≡ front es r j
  without_other [] r j n = refl
  without_other (x ∷ es) r j n = elim (key_cases x.wave x.instr w i) [
    | inl k ↦ ap (λ (b : Bool). front (cond b es (x ∷ without es w i)) r j) k.0
        ∙ sym (front_there x es r j (n x (inl refl) k.1))
    | inr k ↦ ap (λ (b : Bool). front (cond b es (x ∷ without es w i)) r j) k.0 ∙ elim (cell_cases x r j) [
      | inl c ↦ front_here x (without es w i) r j c.1 ∙ sym (front_here x es r j c.1)
      | inr c ↦ front_there x (without es w i) r j c.1 ∙ without_other es r j (λ e h. n e (inr h))
          ∙ sym (front_there x es r j c.1)
    ]
  ]
