-- What holds of items holds of them with equal constants made once.
use Rattle.std.proofs.Common.{ℕ, ◌+◌, ◌≡◌, ◌≤◌, ◌⊎◌, true, false, cond, List, [], ◌∷◌, Option, Some, None}
use Rattle.std.proofs.Common.{refl, sym, ap, ◌∙◌, subst, inl, inr, arith, eq-eqb, ne_eqb}
use Rattle.std.proofs.lemmas.Bool.{cases_eq}
use Rattle.ws_isa.specs.declared.instr.Op.{Op}
use Rattle.ws_isa.specs.declared.instr.Op.TheVariants.{Const, Alu, Merge, Advance, Steer, Phi, Send, Load}
use Rattle.ws_isa.specs.declared.instr.Op.TheVariants.{Store, Input, Output, Give, Take, Nop, Halt}
use Rattle.ws_isa.specs.Image.{is_giving_op}
use Rattle.wave_gen.specs.Waits.{NameState, set}
use Rattle.wave_gen.specs.Wire.{Item, Make, Act, Same}
use Rattle.wave_gen.specs.Plans.{pulse}
use Rattle.wave_gen.specs.Shared.{is_pulse, const_of, share, share_as, learn, learn_of, shared, none_known}
use Rattle.wave_gen.proofs.Planning.Planned.{Reads, ItemsAre}
use Rattle.wave_gen.proofs.Planning.More.{ItemsGive}
use Rattle.wave_gen.proofs.OfItems.Lines.{Items}
use Rattle.wave_gen.proofs.OfItems.Runs.{run_item, run_items}
use Rattle.wave_gen.proofs.Weighing.Weights.{weight, weights}

-- an item makes no number for the pulse, or it does
pub data Makes (i : Item) : Type 0 where
  other : const_of i ≡ None → Makes i
  number : (x n : ℕ) → i ≡ Make x (Const n) (pulse ∷ []) → Makes i

pulse_list : (from : List ℕ) → (is_pulse from ≡ false) ⊎ (from ≡ pulse ∷ [])
pulse_list from = grind (arith, cases_eq)

pub makes : (i : Item) → Makes i
makes (Make x (Const n) from) = elim (pulse_list from) [
  | inl e ↦ other (ap (λ v. cond v (Some n) None) e)
  | inr e ↦ number x n (ap (λ (xs : List ℕ). Make x (Const n) xs) e)
]
makes (Make x (Alu o) from) = other refl
makes (Make x Merge from) = other refl
makes (Make x Advance from) = other refl
makes (Make x Steer from) = other refl
makes (Make x Phi from) = other refl
makes (Make x (Send p) from) = other refl
makes (Make x (Load a) from) = other refl
makes (Make x (Store a) from) = other refl
makes (Make x Input from) = other refl
makes (Make x Output from) = other refl
makes (Make x (Give p) from) = other refl
makes (Make x (Take p) from) = other refl
makes (Make x Nop from) = other refl
makes (Make x Halt from) = other refl
makes (Act op from) = other refl
makes (Same x y) = other refl

-- it stays, and is known from then on, or it takes the name that is known
pub data Turns (K : ℕ → ℕ) (i : Item) : Type 0 where
  kept : share K i ≡ i → learn K i ≡ K → Turns K i
  first : (x n : ℕ) → i ≡ Make x (Const n) (pulse ∷ []) → share K i ≡ i → learn K i ≡ set K n x → Turns K i
  again : (x n : ℕ) → i ≡ Make x (Const n) (pulse ∷ []) → share K i ≡ Same x (K n) → learn K i ≡ K
      → (K n ≡ pulse → ⊥) → Turns K i

pub turns : (K : ℕ → ℕ) (i : Item) → Turns K i
turns K i = elim (makes i) [
  | other e ↦ kept (ap (share_as K i) e) (ap (learn_of K i) e)
  | number x n e ↦ elim (cases_eq (K n) pulse) [
    | inl z ↦ first x n e
        (grind (arith, eq-eqb))
        (grind (arith, eq-eqb))
    | inr d ↦ again x n e
        (grind (arith, ne_eqb))
        (grind (arith, ne_eqb))
        d
  ]
]

pub shared_are : (K : ℕ → ℕ) (is : List Item) → ItemsAre is → ItemsAre (shared K is)
shared_are K [] h = tt
shared_are K (i ∷ is) h = grind (arith, shared_are (learn K i) is h.1)

Has : (Op → Type 0) → Item → Type 0
Has P (Make x op from) = P op
Has P (Act op from) = P op
Has P (Same x y) = Unit {0}

has_first : (P : Op → Type 0) (i : Item) (is : List Item) → Items P (i ∷ is) → Has P i × Items P is
unfolding Has
has_first P i is h = grind arith

has_cons : (P : Op → Type 0) (i : Item) (is : List Item) → Has P i → Items P is → Items P (i ∷ is)
unfolding Has
has_cons P i is h k = grind arith

same_has : (P : Op → Type 0) (x y : ℕ) → Has P (Same x y)
unfolding Has
same_has P x y = tt

pub shared_items : (P : Op → Type 0) (K : ℕ → ℕ) (is : List Item) → Items P is → Items P (shared K is)
shared_items P K [] h = tt
shared_items P K (i ∷ is) h =
    let f = has_first P i is h in grind (arith, has_cons, same_has, shared_items P (learn K i) is f.1)

Gives : Item → Type 0
Gives (Make x op from) = is_giving_op op ≡ true
Gives (Act op from) = Unit {0}
Gives (Same x y) = Unit {0}

give_first : (i : Item) (is : List Item) → ItemsGive (i ∷ is) → Gives i × ItemsGive is
unfolding Gives
give_first i is h = grind arith

give_cons : (i : Item) (is : List Item) → Gives i → ItemsGive is → ItemsGive (i ∷ is)
unfolding Gives
give_cons i is h k = grind arith

same_gives : (x y : ℕ) → Gives (Same x y)
unfolding Gives
same_gives x y = tt

pub shared_give : (K : ℕ → ℕ) (is : List Item) → ItemsGive is → ItemsGive (shared K is)
shared_give K [] h = tt
shared_give K (i ∷ is) h =
    let f = give_first i is h in grind (arith, give_cons, same_gives, shared_give (learn K i) is f.1)

-- what they read
abbrev Known : (ℕ → ℕ) → ℕ → Type 0
Known K x = (n : ℕ) × (K n ≡ pulse → ⊥) × (K n ≡ x)

same_item : (i : Item) (xs ys : List Item) (P : ℕ → Type 0) (x : ℕ) (Q : Type 0)
    → (Reads xs P x → Reads ys P x ⊎ Q) → Reads (i ∷ xs) P x → Reads (i ∷ ys) P x ⊎ Q
same_item i xs ys P x Q f h = grind arith

set_at : (f : ℕ → ℕ) (k v : ℕ) → set f k v k ≡ v
set_at f k v = rw (eq-eqb k k refl) refl

set_off : (f : ℕ → ℕ) (k v j : ℕ) → (j ≡ k → ⊥) → set f k v j ≡ f j
set_off f k v j n = rw (ne_eqb j k n) refl

shared_reads : (K : ℕ → ℕ) (is : List Item) (P : ℕ → Type 0) (x : ℕ) → Reads (shared K is) P x
    → Reads is P x ⊎ Known K x
shared_reads K [] P x h = inl h
shared_reads K (i ∷ is) P x h = elim (turns K i) [
  | kept e f ↦ grind (arith, same_item, shared_reads K is P x)
  | first y n g e f ↦ grind (arith, back, made, shared_reads (set K n y) is P x)
  | again y n g e f d ↦ grind (arith, back, took, shared_reads K is P x)
]
  where
    back : (i : Item) (y n : ℕ) → i ≡ Make y (Const n) (pulse ∷ [])
        → Reads (Make y (Const n) (pulse ∷ []) ∷ is) P x ⊎ Known K x → Reads (i ∷ is) P x ⊎ Known K x
    back i y n g h = rw g h

    made : (y n : ℕ) → (Reads (shared (set K n y) is) P x → Reads is P x ⊎ Known (set K n y) x)
        → Reads (Make y (Const n) (pulse ∷ []) ∷ shared (set K n y) is) P x
        → Reads (Make y (Const n) (pulse ∷ []) ∷ is) P x ⊎ Known K x
    made y n ih h = grind (arith, Reads, cases_eq, set_at, set_off)

    took : (y n : ℕ) → (K n ≡ pulse → ⊥) → (Reads (shared K is) P x → Reads is P x ⊎ Known K x)
        → Reads (Same y (K n) ∷ shared K is) P x → Reads (Make y (Const n) (pulse ∷ []) ∷ is) P x ⊎ Known K x
    took y n d ih h = grind arith

pub shared_read : (is : List Item) (P : ℕ → Type 0) (x : ℕ) → Reads (shared none_known is) P x → Reads is P x
shared_read is P x h = elim (shared_reads none_known is P x h) [ inl r ↦ r | inr k ↦ absurd (k.1 refl) ]

-- their run
abbrev pub Spares : ℕ → Item → Type 0
Spares y (Make x op from) = x ≡ y → ⊥
Spares y (Act op from) = Unit {0}
Spares y (Same x z) = x ≡ y → ⊥

abbrev pub AllSpare : ℕ → List Item → Type 0
AllSpare y [] = Unit {0}
AllSpare y (i ∷ is) = Spares y i × AllSpare y is

-- what a constant is made under isn't written again
abbrev pub Once : List Item → Type 0
Once [] = Unit {0}
Once (i ∷ is) = ((x n : ℕ) → i ≡ Make x (Const n) (pulse ∷ []) → AllSpare x is) × Once is

spared : (y : ℕ) (i : Item) (s : NameState) → Spares y i → (run_item i s).env y ≡ s.env y
spared y i s h = grind (arith, set_off)

abbrev pub Sure : (ℕ → ℕ) → List Item → NameState → Type 0
Sure K is s = (n : ℕ) → (K n ≡ pulse → ⊥) → (s.env (K n) ≡ n) × AllSpare (K n) is

sure_on : (K : ℕ → ℕ) (i : Item) (is : List Item) (s : NameState) → Sure K (i ∷ is) s
    → Sure K is (run_item i s)
sure_on K i is s h n d = (spared (K n) i s (h n d).1.0 ∙ (h n d).0, (h n d).1.1)

sure_more : (K : ℕ → ℕ) (x n : ℕ) (is : List Item) (s : NameState) → AllSpare x is
    → Sure K (Make x (Const n) (pulse ∷ []) ∷ is) s
    → Sure (set K n x) is (run_item (Make x (Const n) (pulse ∷ [])) s)
sure_more K x n is s a h m d = grind (arith, cases_eq, set_at, set_off, sure_on)

pub shared_runs : (K : ℕ → ℕ) (is : List Item) (s : NameState) → Once is → Sure K is s
    → run_items (shared K is) s ≡ run_items is s
shared_runs K [] s o h = refl
shared_runs K (i ∷ is) s o h = elim (turns K i) [
  | kept e f ↦ grind (arith, sure_on, shared_runs K is (run_item i s) o.1 (sure_on K i is s h))
  | first x n g e f ↦ ap (λ (j : Item). run_items (shared (learn K i) is) (run_item j s)) e
      ∙ ap (λ (k : ℕ → ℕ). run_items (shared k is) (run_item i s)) f
      ∙ shared_runs (set K n x) is (run_item i s) o.1
      (subst (λ (j : Item). Sure (set K n x) is (run_item j s)) (sym g)
      (sure_more K x n is s (o.0 x n g) (rw g at h)))
  | again x n g e f d ↦ grind (
    arith,
    taken,
    sure_on,
    shared_runs K is (run_item i s) o.1 (sure_on K i is s h),
  )
]
  where
    taken : (x n : ℕ) → (K n ≡ pulse → ⊥) → i ≡ Make x (Const n) (pulse ∷ [])
        → run_item (Same x (K n)) s ≡ run_item i s
    taken x n d g = grind (arith, run_item)

pub shared_run : (is : List Item) → Once is → (s : NameState) → run_items (shared none_known is) s ≡ run_items
    is s
shared_run is o s = shared_runs none_known is s o (λ n d. absurd (d refl))

-- what they weigh: a copy weighs more than a constant by 1
abbrev pub extra_of : Option ℕ → ℕ
extra_of None = 0
extra_of (Some n) = 1

abbrev pub heavies : List Item → ℕ
heavies [] = 0
heavies (i ∷ is) = weight i + extra_of (const_of i) + heavies is

pub shared_weigh : (K : ℕ → ℕ) (is : List Item) → weights (shared K is) ≤ heavies is
shared_weigh K [] = omega arith
shared_weigh K (i ∷ is) = grind (arith, turns, shared_weigh (learn K i) is)
