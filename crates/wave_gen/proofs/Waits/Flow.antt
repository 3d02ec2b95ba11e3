-- Which names are wanted before some code: those that it reads before it makes them, and those that are
-- wanted behind it.
use Rattle.std.proofs.Common.{ℕ, zero, suc, ◌+◌, ◌≡◌, ◌<◌, ◌≤◌, ◌⊎◌, ◌&&◌, not, Bool, true, false, cond}
use Rattle.std.proofs.Common.{List, [], ◌∷◌, length, refl, inl, inr, arith, eq-eqb, ne_eqb}
use Rattle.std.proofs.lemmas.Bool.{cases_eq, cases_lt, both_ways}
use Rattle.ws_isa.specs.declared.instr.Op.{Op}
use Rattle.ws_isa.specs.Image.{is_memory_op}
use Rattle.wave_gen.specs.Wire.{Target, Back, Wants, Made, with_wants, with_uses, moved, emit, skip, gather}
use Rattle.wave_gen.specs.Wire.{with_room, with_rooms, Item, Make, Act, Same, is_nil, make, alias, wire}
use Rattle.wave_gen.specs.Plans.{Tail, operands_of, hung, hang, more, chain, selected}
use Rattle.wave_gen.proofs.Planning.Planned.{Reads}
use Rattle.ws_words.specs.Items.{In}

abbrev pub Wanted : Wants → ℕ → Type 0
Wanted w x = w x ≡ [] → ⊥

pub with_uses_wanted : (b r q : ℕ) (from : List ℕ) (w : Wants) (x : ℕ) → Wanted (with_uses b r q from w) x
    → In x from ⊎ Wanted w x
with_uses_wanted b r q [] w x h = inr h
with_uses_wanted b r q (y ∷ from) w x h =
    grind (arith, cases_eq, ne_eqb, with_uses_wanted b r (suc q) from (with_wants w y (Back b r q ∷ w y)) x h)

pub emit_wanted : (b y : ℕ) (op : Op) (from : List ℕ) (s : Made) (x : ℕ) → Wanted (emit b y op from s).wants x
    → In x from ⊎ ((x ≡ y → ⊥) × Wanted s.wants x)
emit_wanted b y op from s x h =
    elim (with_uses_wanted b (length s.code) 0 from (with_wants s.wants y []) x h) [
      | inl g ↦ inl g
      | inr g ↦ grind (arith, cases_eq, eq-eqb, ne_eqb)
    ]

-- merges want only what they merge
pub gather_wanted : (b y : ℕ) (s : Made) (x : ℕ) → Wanted (gather b y s).wants x → (x ≡ y) ⊎ Wanted s.wants x
gather_wanted b y s x h = grind (arith, emit_wanted)

room_wanted : (b n y : ℕ) (s : Made) (x : ℕ) → Wanted (with_room b n y s).wants x → (x ≡ y) ⊎ Wanted s.wants x
room_wanted b n y s x h = grind (arith, s.wants, gather_wanted)

pub rooms_wanted : (b n : ℕ) (ys : List ℕ) (s : Made) (x : ℕ) → Wanted (with_rooms b n ys s).wants x
    → In x ys ⊎ Wanted s.wants x
rooms_wanted b n [] s x h = inr h
rooms_wanted b n (y ∷ ys) s x h = grind (arith, room_wanted, rooms_wanted b n ys (with_room b n y s) x h)

pub make_wanted : (b y : ℕ) (op : Op) (from : List ℕ) (s : Made) (x : ℕ) → Wanted (make b y op from s).wants x
    → In x from ⊎ ((x ≡ y → ⊥) × Wanted s.wants x)
make_wanted b y op from s x h = elim (emit_wanted b y op from (with_rooms b (length from) from s) x h) [
  | inl g ↦ inl g
  | inr g ↦ elim (rooms_wanted b (length from) from s x g.1) [ inl e ↦ inl e | inr z ↦ inr (g.0, z) ]
]

moved_wanted : (y z : ℕ) (w : Wants) (x : ℕ) → Wanted (moved y z w) x → (x ≡ z) ⊎ ((x ≡ y → ⊥) × Wanted w x)
moved_wanted y z w x h = grind (arith, cases_eq)

pub alias_wanted : (b y z : ℕ) (s : Made) (x : ℕ) → Wanted (alias b y z s).wants x
    → (x ≡ z) ⊎ ((x ≡ y → ⊥) × Wanted s.wants x)
alias_wanted b y z s x h = grind (arith, cases_eq, s.wants, gather_wanted, eq-eqb, moved_wanted, ne_eqb)

nil_and : (l : List Target) (m : Bool) → (is_nil l && m) ≡ true → l ≡ []
nil_and l m e = grind (arith, both_ways)

pub wire_wanted : (b : ℕ) (is : List Item) (s : Made) (x : ℕ) → Wanted (wire b is s).wants x
    → Reads is (Wanted s.wants) x
wire_wanted b [] s x h = h
wire_wanted b (Make y op from ∷ is) s x h =
    go (wire_wanted b is s x) (is_nil ((wire b is s).wants y) && not (is_memory_op op)) refl h
  where
    go : (Wanted (wire b is s).wants x → Reads is (Wanted s.wants) x) → (f : Bool)
        → (is_nil ((wire b is s).wants y) && not (is_memory_op op)) ≡ f
        → Wanted (cond f (skip y op from (wire b is s)) (make b y op from (wire b is s))).wants x
        → In x from ⊎ ((x ≡ y → ⊥) × Reads is (Wanted s.wants) x)
    go ih true e g = grind (arith, nil_and)
    go ih false e g = elim (make_wanted b y op from (wire b is s) x g) [
      | inl z ↦ inl z
      | inr z ↦
          inr (z.0, ih z.1)
    ]
wire_wanted b (Act op from ∷ is) s x h =
    elim (with_uses_wanted b (length (with_rooms b (length from) from (wire b is s)).code) 0 from
    (with_rooms b (length from) from (wire b is s)).wants x h) [
      | inl g ↦ inl g
      | inr g ↦ elim (rooms_wanted b (length from) from (wire b is s) x g) [
        | inl z ↦ inl z
        | inr z ↦
            inr (wire_wanted b is s x z)
      ]
    ]
wire_wanted b (Same y z ∷ is) s x h = elim (alias_wanted b y z (wire b is s) x h) [
  | inl e ↦ inl e
  | inr g ↦
      inr (g.0, wire_wanted b is s x g.1)
]

-- needing more only adds to what is read
pub reads_more : (is : List Item) (P Q : ℕ → Type 0) (x : ℕ) → (P x → Q x) → Reads is P x → Reads is Q x
reads_more [] P Q x f h = f h
reads_more (Make y op from ∷ is) P Q x f h = elim h [
  | inl g ↦ inl g
  | inr g ↦
      inr (g.0, reads_more is P Q x f g.1)
]
reads_more (Act op from ∷ is) P Q x f h = elim h [ inl g ↦ inl g | inr g ↦ inr (reads_more is P Q x f g) ]
reads_more (Same y z ∷ is) P Q x f h = elim h [ inl g ↦ inl g | inr g ↦ inr (g.0, reads_more is P Q x f g.1) ]

-- the tails of a block
abbrev pub helds : List Tail → List ℕ
helds [] = []
helds (t ∷ ts) = t.held ∷ helds ts

one_of_two : (a c y : ℕ) → In y (a ∷ c ∷ []) → (y ≡ a) ⊎ (y ≡ c)
one_of_two a c y h = grind arith

turn_round : {A B : Type 0} → A ⊎ B → B ⊎ A
turn_round h = grind arith

operands_are : (op : Op) (x z y : ℕ) → In y (operands_of op x z) → (y ≡ x) ⊎ (y ≡ z)
operands_are op x z y h = grind (arith, turn_round, one_of_two)

hung_wanted : (b : ℕ) (t : Tail) (z : ℕ) (s : Made) (x : ℕ) → Wanted (hung b t z s).wants x
    → (x ≡ t.held) ⊎ ((x ≡ z) ⊎ Wanted s.wants x)
hung_wanted b t z s x h = grind (arith, with_uses_wanted, t.held, s.wants, operands_are)

-- a name of the selector
abbrev pub IsSelector : ℕ → ℕ → ℕ → Type 0
IsSelector z n x = (z ≤ x) × (x ≤ z + n)

pub hang_wanted : (b n z : ℕ) (ts : List Tail) (w : Wants) (x : ℕ) → Wanted (hang b n z ts w).wants x
    → In x (helds ts) ⊎ (IsSelector z (more n ts) x ⊎ Wanted w x)
hang_wanted b n z [] w x h = inr (inr h)
hang_wanted b zero z (t ∷ ts) w x h = elim (hung_wanted b t (suc z) (hang b 5 (suc z) ts w) x h) [
  | inl e ↦ inl (inl e)
  | inr g ↦ elim g [
    | inl e ↦ inr (inl (omega arith, omega arith))
    | inr g' ↦ grind (arith, hang_wanted b 5 (suc z) ts w x g')
  ]
]
hang_wanted b (suc n) z (t ∷ ts) w x h = elim (hung_wanted b t z (hang b n z ts w) x h) [
  | inl e ↦ inl (inl e)
  | inr g ↦ elim g [
    | inl e ↦ inr (inl (omega arith, omega arith))
    | inr g' ↦ grind (arith, hang_wanted b n z ts w x g')
  ]
]

pub chain_reads : (z n : ℕ) (P : ℕ → Type 0) (x : ℕ) → Reads (chain z n) P x
    → (x ≡ z) ⊎ (((x ≤ z) ⊎ (z + n < x)) × P x)
chain_reads z zero P x h = grind (arith, cases_lt)
chain_reads z (suc n) P x h = elim h [
  | inl g ↦ elim g [ inl e ↦ inl e | inr a ↦ absurd a ]
  | inr g ↦ grind (arith, chain_reads (suc z) n P x g.1)
]

pub selected_wanted : (b z : ℕ) (ts : List Tail) (w : Wants) (x : ℕ) → Wanted (selected b z ts w).wants x
    → (x ≡ z) ⊎ (In x (helds ts) ⊎ Wanted w x)
selected_wanted b z ts w x h =
    elim (chain_reads z (more 6 ts) (Wanted (hang b 6 z ts w).wants) x
    (wire_wanted b (chain z (more 6 ts)) (hang b 6 z ts w) x h)) [
      | inl e ↦ inl e
      | inr g ↦ elim (hang_wanted b 6 z ts w x g.1) [
        | inl i ↦ inr (inl i)
        | inr i ↦ grind arith
      ]
    ]
