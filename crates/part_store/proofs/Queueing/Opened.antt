-- How many queues are open.
use Rattle.std.proofs.Common.{ℕ, suc, ◌≡◌, ◌≤◌, Bool, true, false, cond, List, [], ◌∷◌, refl, sym, ap, ◌∙◌}
use Rattle.std.proofs.Common.{subst, inl, inr, arith}
use Rattle.std.proofs.lemmas.Bool.{both_ways, cases_Bool}
use Rattle.df_core.specs.Core.{has}
use Rattle.df_core.proofs.Keeping.Ports.{SameKey}
use Rattle.part_store.specs.declared.entry.Queued.{Queued}
use Rattle.part_store.specs.Queues.{holds, is_queued, all_later, joined, open_queues, without}
use Rattle.part_store.proofs.Queueing.Keys.{IsOn, key_cases, cell_cases}
use Rattle.part_store.proofs.Queueing.Fronts as F
use Rattle.ws_words.specs.Items.{In}

-- one more queue is open where the cell isn't held
abbrev pub one_more : Bool → ℕ → ℕ
one_more b n = cond b n (suc n)

pub held_here : (x : Queued) (es : List Queued) (r j : ℕ) → IsOn x r j → holds (x ∷ es) r j ≡ true
held_here x es r j o = ap has (F.front_here x es r j o)

pub held_there : (x : Queued) (es : List Queued) (r j : ℕ) → (IsOn x r j → ⊥) →
    holds (x ∷ es) r j ≡ holds es r j
held_there x es r j n = ap has (F.front_there x es r j n)

on_same : (x f : Queued) → IsOn x f.row f.index → IsOn f x.row x.index
on_same x f o = record { row = sym o.row; index = sym o.index }

-- the same cell is held
pub at_cell : (es : List Queued) (x : Queued) (r j : ℕ) → IsOn x r j → holds es x.row x.index ≡ holds es r j
at_cell es x r j o = ap (λ (n : ℕ). holds es n x.index) o.row ∙ ap (holds es r) o.index

pub swap : (a b : Bool) (n : ℕ) → one_more a (one_more b n) ≡ one_more b (one_more a n)
swap a b n = grind arith

pub open_joined : (f : Queued) (es : List Queued) →
    open_queues (joined f es) ≡ one_more (holds es f.row f.index) (open_queues es)
open_joined f [] = refl
open_joined f (x ∷ es) = elim (cases_Bool (all_later (x ∷ es) f)) [
  | inl l ↦ ap (λ (b : Bool). open_queues (cond b (f ∷ x ∷ es) (x ∷ joined f es))) l
  | inr l ↦ ap (λ (b : Bool). open_queues (cond b (f ∷ x ∷ es) (x ∷ joined f es))) l
      ∙ elim (cell_cases x f.row f.index) [
        | inl c ↦ (let g = F.held_in (joined f es) x.row x.index f (F.joined_new f es) (on_same x f c.1) in
            ap (λ (b : Bool). one_more b (open_queues (joined f es))) (ap has g.1) ∙ open_joined f es ∙ ap (λ
            (b : Bool). one_more b (open_queues es)) (sym (at_cell es x f.row f.index c.1)) ∙ sym (ap (λ (b :
            Bool). one_more b (one_more (holds es x.row x.index) (open_queues es))) (held_here _ _ _ _ c.1)))
        | inr c ↦ ap (λ (b : Bool). one_more b (open_queues (joined f es))) (ap has (F.joined_other f es x.row
            x.index (λ o. c.1 (on_same f x o)))) ∙ ap (one_more (holds es x.row x.index)) (open_joined f es) ∙
            swap (holds es x.row x.index) (holds es f.row f.index) (open_queues es) ∙ sym (ap (λ (b : Bool).
            one_more b (one_more (holds es x.row x.index) (open_queues es))) (held_there x es f.row f.index
            c.1))
      ]
]

module _ (w i r j : ℕ) where
  -- what leaves a queue on this cell
  pub open_without : (es : List Queued) → is_queued es w i ≡ true →
      ((e : Queued) → In e es → SameKey e.wave e.instr w i → IsOn e r j) →
      open_queues es ≡ one_more (holds (without es w i) r j) (open_queues (without es w i))
  open_without [] q all = absurd (both_ways false refl q)
  open_without (x ∷ es) q all = elim (key_cases x.wave x.instr w i) [
    | inl k ↦ ap (λ (b : Bool). one_more b (open_queues es)) (at_cell es x r j (all x (inl refl) k.1)) ∙ sym
        (ap (λ (b : Bool). one_more (holds (cond b es (x ∷ without es w i)) r j) (open_queues (cond b es (x ∷
        without es w i)))) k.0)
    | inr k ↦ (let q' : is_queued es w i ≡ true = subst (λ (b : Bool). cond b true (is_queued es w i) ≡ true)
        k.0 q in
        let ih : open_queues es ≡ one_more (holds (without es w i) r j) (open_queues (without es w i)) =
        open_without es q' (λ e h. all e (inr h)) in
        let g = F.queued_in es w i q' in
        elim (cell_cases x r j) [
          | inl c ↦ (let s = F.held_in es r j g.0 g.1 (all g.0 (inr g.1) g.2) in
              grind (arith, at_cell, held_here))
          | inr c ↦ grind (arith, swap, F.without_other, held_there)
        ]
        ∙ sym (ap (λ (b : Bool). one_more (holds (cond b es (x ∷ without es w i)) r j)
        (open_queues (cond b es (x ∷ without es w i)))) k.0))
  ]

  fewer_by : (b : Bool) (n m : ℕ) → m ≡ one_more b n → n ≤ m
  fewer_by b n m e = grind arith

  pub fewer_open : (es : List Queued) → is_queued es w i ≡ true →
      ((e : Queued) → In e es → SameKey e.wave e.instr w i → IsOn e r j) →
      open_queues (without es w i) ≤ open_queues es
  fewer_open es q all = grind (arith, fewer_by, open_without)
