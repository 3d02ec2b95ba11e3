-- What is wanted by a table after a change.
use Rattle.std.proofs.Common.{drop, slice_index, add-one, ℕ, suc, ◌+◌, ◌≡◌, ◌<◌, ◌≤◌, Bool, cond, eqb}
use Rattle.std.proofs.Common.{List, [], ◌∷◌, ◌++◌, length, slice_set, refl, sym, ap, ◌∙◌, arith, ne_eqb}
use Rattle.std.proofs.lemmas.Bool.{cases_eq}
use Rattle.std.proofs.lemmas.List.{drop_more}
use Rattle.std.specs.Prelude.{Vec, slice_index_or}
use Rattle.std.specs.declared.alloc.Global.{Global}
use Rattle.wave_gen.specs.Wire.{Target, Back, Wants, with_wants, with_uses, moved}
use Rattle.wave_gen.specs.Tables.{listed}

abbrev pub Lists : Type 0
Lists = List (Vec Target Global)

pub list_at : (vs : Lists) (x : ℕ) (v : Vec Target Global) → x < length vs → v ≡ slice_index_or vs x v
    → v.items ≡ listed vs x
list_at (w ∷ vs) (suc x) v lt e = list_at vs x v (omega arith) e
list_at vs x v lt e = grind arith

pub list_past : (vs : Lists) (x : ℕ) → length vs ≤ x → listed vs x ≡ []
list_past (w ∷ vs) (suc x) le = list_past vs x (omega arith)
list_past vs x le = grind arith

set_same : (vs : Lists) (x : ℕ) (v : Vec Target Global) → x < length vs
    → listed (slice_set vs x v) x ≡ v.items
set_same (w ∷ vs) (suc x) v lt = set_same vs x v (omega arith)
set_same vs x v lt = grind arith

set_other : (vs : Lists) (x y : ℕ) (v : Vec Target Global) → (y ≡ x → ⊥)
    → listed (slice_set vs x v) y ≡ listed vs y
set_other (w ∷ vs) (suc x) (suc y) v n = set_other vs x y v (λ e. n (ap suc e))
set_other vs x y v n = grind arith

set_at : (vs : Lists) (x y : ℕ) (v : Vec Target Global) → x < length vs
    → listed (slice_set vs x v) y ≡ cond (eqb y x) v.items (listed vs y)
set_at vs x y v lt = grind (arith, cases_eq, set_same, set_other)

pub list_set : (vs : Lists) (x : ℕ) (v : Vec Target Global) (l : List Target) → x < length vs → v.items ≡ l
    → ◌≡◌ {A = Wants} (listed (slice_set vs x v)) (with_wants (listed vs) x l)
list_set vs x v l lt e = grind (arith, set_at)

push_at : (vs : Lists) (v : Vec Target Global) (y : ℕ) → v.items ≡ [] → listed (vs ++ v ∷ []) y ≡ listed vs y
push_at (w ∷ vs) v (suc y) e = push_at vs v y e
push_at vs v y e = grind arith

-- an empty list more
pub list_push : (vs : Lists) (v : Vec Target Global) → v.items ≡ [] → ◌≡◌ {A = Wants} (listed (vs ++ v ∷ []))
    (listed vs)
list_push vs v e = λ i y. push_at vs v y e i

none_at : (w : Wants) (x y : ℕ) → w x ≡ [] → w y ≡ with_wants w x [] y
none_at w x y e = grind (arith, cases_eq)

pub none_wanted : (w : Wants) (x : ℕ) → w x ≡ [] → ◌≡◌ {A = Wants} w (with_wants w x [])
none_wanted w x e = λ i y. none_at w x y e i

twice_at : (b : Bool) (l k m : List Target) → cond b l (cond b k m) ≡ cond b l m
twice_at b l k m = grind arith

-- the last list stays
pub wanted_twice : (w : Wants) (x : ℕ) (k l : List Target)
    → ◌≡◌ {A = Wants} (with_wants (with_wants w x k) x l) (with_wants w x l)
wanted_twice w x k l = λ i y. twice_at (eqb y x) l k (w y) i

pub wanted_other : (w : Wants) (x y : ℕ) (l : List Target) → (x ≡ y → ⊥) → with_wants w x l y ≡ w y
wanted_other w x y l n = rw (ne_eqb y x (λ e. n (sym e))) refl

-- the front of a name's list
pub wanted_more : (w v u : Wants) (x : ℕ) (p : Target) (l k : List Target) → l ≡ w x → k ≡ p ∷ l
    → ◌≡◌ {A = Wants} v (with_wants w x []) → ◌≡◌ {A = Wants} u (with_wants v x k)
    → ◌≡◌ {A = Wants} u (with_wants w x (p ∷ w x))
wanted_more w v u x p l k el ek ev eu = grind (arith, wanted_twice)

-- one name's list to another's
pub wanted_moved : (w v u : Wants) (x y : ℕ) (l k : List Target) → (x ≡ y → ⊥) → l ≡ w x
    → ◌≡◌ {A = Wants} v (with_wants w x []) → k ≡ l ++ v y → ◌≡◌ {A = Wants} u (with_wants v y k)
    → ◌≡◌ {A = Wants} u (moved x y w)
wanted_moved w v u x y l k n el ev ek eu = grind (arith, wanted_other)

-- one port more is wanted
pub used_more : (b r : ℕ) (from : List ℕ) (i x : ℕ) (w v t : Wants) → i < length from → x ≡ slice_index from i
    → ◌≡◌ {A = Wants} v (with_wants w x (Back b r i ∷ w x))
    → ◌≡◌ {A = Wants} (with_uses b r i (drop i from) w) t
    → ◌≡◌ {A = Wants} (with_uses b r (i + 1) (drop (i + 1) from) v) t
used_more b r from i x w v t lt ex ev e =
    ap (with_uses b r (i + 1) (drop (i + 1) from)) ev
    ∙ (rw (ex, add-one) (sym (rw (drop_more from i 0 lt, add-one) refl)))
    ∙ e
