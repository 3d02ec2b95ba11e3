-- Tokens that are spilled.
use Rattle.std.proofs.Common.{ℕ, ◌<◌, ◌≡◌, cond, ◌&&◌, ◌==◌, eqb, List, [], ◌∷◌, length, Option, Some}
use Rattle.std.proofs.Common.{None, unwrap_or, refl, ap, eq-eqb, ne_eqb, arith}
use Rattle.std.proofs.lemmas.Bool.{cases_eq, cases_Bool, cond-true, cond-false}
use Rattle.std.specs.HashMap.{get, hash_map_len}
use Rattle.df_core.specs.Core.{with_at}
use Rattle.df_core.specs.Stands.{cleared}
use Rattle.df_core.proofs.Keeping.Ports.{same_place_cases}
use Rattle.df_core.specs.declared.slots.Slot.{Slot}
use Rattle.df_core.specs.Partial.{Spill, empty_slot, port_of, with_port, slotted, spilled_at, spilled}
use Rattle.df_core.specs.Partial.{partial_of}
use Rattle.ws_words.specs.Items.{first_some}

-- what is spilled of an instance, if anything
abbrev kept_at : Spill → ℕ × ℕ → Option Slot
kept_at m k = get (λ a b. (a.0 == b.0) && (a.1 == b.1)) m k

with_own : (s : Slot) (w p v : ℕ) → p < 3 → port_of (with_port s w p v) p ≡ Some v
with_own s w p v l = grind arith

with_other : (s : Slot) (w p v q : ℕ) → p < 3 → (p ≡ q → ⊥) → port_of (with_port s w p v) q ≡ port_of s q
with_other s w p v q l n = grind arith

port_with : (s : Slot) (w p v q : ℕ) → p < 3 → port_of (with_port s w p v) q ≡ cond (eqb p q) (Some v)
    (port_of s q)
port_with s w p v q l =
    grind (arith, cases_eq, with_port, with_own, cond-true, eq-eqb, with_other, cond-false, ne_eqb)

-- a token is put with those of its instance
pub put_so : (old new : Spill) (w i p v : ℕ) (s : Slot) → p < 3 → s ≡ with_port (spilled_at old w i) w p v
    → ((k : ℕ × ℕ) → kept_at new k ≡ cond ((w == k.0) && (i == k.1)) (Some s) (kept_at old k)) →
    (a b q : ℕ) → spilled new a b q ≡ with_at w i p (Some v) (spilled old) a b q
put_so old new w i p v s l is puts a b q =
    grind (arith, unwrap_or, empty_slot, cases_eq, eq-eqb, port_with, spilled_at, ne_eqb)

-- those of an instance are taken out
pub clear_so : (old new : Spill) (w i : ℕ)
    → ((k : ℕ × ℕ) → kept_at new k ≡ cond ((w == k.0) && (i == k.1)) None (kept_at old k)) → (a b q : ℕ)
    → spilled new a b q ≡ cleared w i (spilled old) a b q
clear_so old new w i takes a b q = grind (arith, unwrap_or, empty_slot, cases_Bool)

-- where none are
none_at : (m : Spill) → hash_map_len m ≡ 0 → (w i : ℕ) → spilled_at m w i ≡ empty_slot
none_at m l w i = let e : m.entries ≡ [] = nothing m.entries l in rw e refl
  where
    nothing : (es : List ((ℕ × ℕ) × Slot)) → length es ≡ 0 → es ≡ []
    nothing [] l = refl
    nothing (e ∷ es) l = absurd (omega (arith, l))

pub clear_none : (m : Spill) → hash_map_len m ≡ 0 → (w i a b q : ℕ)
    → spilled m a b q ≡ cleared w i (spilled m) a b q
clear_none m l w i a b q = grind (arith, cases_Bool, none_at)

both_none : (o p : Option ℕ) → first_some o p ≡ None → (o ≡ None) × (p ≡ None)
both_none o p e = grind arith

-- a token is spilled at a port that has none
pub put_is : (slots : List Slot) (old new : Spill) (w i p v : ℕ) → partial_of slots old w i p ≡ None
    → ((a b q : ℕ) → spilled new a b q ≡ with_at w i p (Some v) (spilled old) a b q) → (a b q : ℕ) →
    partial_of slots new a b q ≡ with_at w i p (Some v) (partial_of slots old) a b q
put_is slots old new w i p v free is a b q = grind (arith, same_place_cases, both_none)

-- of an instance nothing is left in its slot, nor spilled
pub both_cleared : (slots new : List Slot) (spill rest : Spill) (w i : ℕ)
    → ((a b q : ℕ) → slotted new a b q ≡ cleared w i (slotted slots) a b q)
    → ((a b q : ℕ) → spilled rest a b q ≡ cleared w i (spilled spill) a b q) →
    (a b q : ℕ) → partial_of new rest a b q ≡ cleared w i (partial_of slots spill) a b q
both_cleared slots new spill rest w i f g a b q = grind (arith, cases_Bool)

-- the same tokens are spilled, in another order
pub same_spilled : (old new : Spill) → ((k : ℕ × ℕ) → kept_at new k ≡ kept_at old k) → (w i p : ℕ)
    → spilled new w i p ≡ spilled old w i p
same_spilled old new e w i p = ap (λ (o : Option Slot). port_of (unwrap_or o empty_slot) p) (e (w, i))
