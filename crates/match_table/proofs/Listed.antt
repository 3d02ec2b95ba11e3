-- The instances that have fired, as a list.
use Rattle.std.proofs.Common.{◌≡◌, ◌<◌, ◌⊎◌, ⊎_elim, inl, inr, ℕ, suc, Bool, true, cond, List, [], ◌∷◌, ◌++◌}
use Rattle.std.proofs.Common.{Some, length, get_or, filter, refl, subst, arith}
use Rattle.std.proofs.lemmas.Bool.{cases_Bool}
use Rattle.ws_words.specs.Outside.{World}
use Rattle.ws_isa.specs.Image.{Image, ports}
use Rattle.ws_isa.specs.Walk.{gather}
use Rattle.df_core.specs.Core.{Key, HasFired, Once, is_full, operands_in}
use Rattle.df_core.proofs.Walked.FromSound.{has_port}
use Rattle.df_core.proofs.Keeping.Ports.{full_all}
use Rattle.match_table.specs.declared.entry.Arrived.{Arrived}
use Rattle.match_table.specs.Pages.{Paged}
use Rattle.match_table.specs.Pages.{arrived_in}
use Rattle.match_table.specs.Ports.{alone}
use Rattle.match_table.specs.Spots.{InstanceList, instances}
use Rattle.match_table.specs.Tables.{TableContent, TableOk, held_in, of_memory}
use Rattle.match_table.proofs.Arrivals.{some_none}
use Rattle.match_table.proofs.Held.{full_same, gather_same}

-- the list of those that fired, with one more
pub has_append : (ks : List Key) (k : Key) (w i : ℕ) → HasFired ks w i → HasFired (ks ++ k ∷ []) w i
has_append [] k w i h = absurd h
has_append (x ∷ ks) k w i h = ⊎_elim (λ (e : (x.wave ≡ w) × (x.instr ≡ i)). inl e)
    (λ (r : HasFired ks w i). inr (has_append ks k w i r)) h

pub has_new : (ks : List Key) (k : Key) → HasFired (ks ++ k ∷ []) k.wave k.instr
has_new [] k = inl (refl, refl)
has_new (x ∷ ks) k = inr (has_new ks k)

pub has_from : (ks : List Key) (k : Key) (w i : ℕ) → HasFired (ks ++ k ∷ []) w i
    → HasFired ks w i ⊎ ((k.wave ≡ w) × (k.instr ≡ i))
has_from [] k w i h = grind (arith, ⊎_elim)
has_from (x ∷ ks) k w i h = ⊎_elim (λ (e : (x.wave ≡ w) × (x.instr ≡ i)). inl (inl e))
    (λ (r : HasFired (ks ++ k ∷ []) w i). ⊎_elim (λ (s : HasFired ks w i). inl (inr s))
    (λ (s : (k.wave ≡ w) × (k.instr ≡ i)). inr s) (has_from ks k w i r)) h

pub once_append : (ks : List Key) (k : Key) → Once ks → (HasFired ks k.wave k.instr → ⊥) → Once (ks ++ k ∷ [])
once_append [] k o new = ((λ h. absurd h), tt)
once_append (x ∷ ks) k o new = grind (arith, ⊎_elim, has_from, once_append ks k o.1 (λ h. new (inr h)))

-- each that is listed has fired
pub has_at : (ks : List Key) (n : ℕ) (d : Key) → n < length ks → HasFired ks (get_or ks n d).wave
    (get_or ks n d).instr
has_at (k ∷ ks) (suc n) d lt = inr (has_at ks n d (omega (arith, lt)))
has_at ks n d lt = grind arith

-- and each of those that pass a test
pub has_filtered : (test : Key → Bool) (ks : List Key) (w i : ℕ) → HasFired (filter test ks) w i
    → HasFired ks w i
has_filtered test [] w i h = absurd h
has_filtered test (k ∷ ks) w i h = ⊎_elim
    (λ e. ⊎_elim (λ (s : (k.wave ≡ w) × (k.instr ≡ i)). inl s) (λ (r : HasFired (filter test ks) w i).
    inr (has_filtered test ks w i r))
    (subst (λ b. HasFired (cond b (k ∷ filter test ks) (filter test ks)) w i) e h))
    (λ e. inr
    (has_filtered test ks w i (subst (λ b. HasFired (cond b (k ∷ filter test ks) (filter test ks)) w i) e
    h)))
    (cases_Bool (test k))

-- what has come to an instance that has fired
pub record FiredAs (image : Image) (entries : Paged) (w i : ℕ) : Type 0 where
  pub arrived : Arrived
  pub is : arrived_in entries w i ≡ Some arrived
  pub full : is_full (alone arrived) 0 0 (ports image i) ≡ true
  pub operands : gather (alone arrived) 0 0 0 (ports image i) ≡ operands_in image (held_in entries) w i

pub fired_as : (image : Image) (entries : Paged) (w i : ℕ) → 0 < ports image i
    → is_full (held_in entries) w i (ports image i) ≡ true → FiredAs image entries w i
fired_as image entries w i some_port full = grind (arith, full_all, some_none, full_same, gather_same)

-- what has come to one that a table lists
pub table_fired : (image : Image) (world : World) (entries : Paged)
    (fired asked ks : List Key)
    (w i : ℕ)
    → TableOk image world entries fired asked → fired ≡ ks → HasFired ks w i → FiredAs image entries w i
table_fired image world entries fired asked ks w i ok same h = grind (arith, fired_as, has_port)

-- what a table lists, where this is what it shows
module _ (entries : Paged) (f : InstanceList) (spare : ℕ) (now : TableContent)
    (is : record { entries = entries; fired = instances entries.slots f; spare = spare } ≡ now) where
  pub fired_now : now.fired ≡ instances now.entries.slots f
  fired_now = grind arith

  pub asked_now : (image : Image) (a : InstanceList)
      → instances entries.slots a ≡ of_memory image (instances entries.slots f)
      → of_memory image now.fired ≡ instances now.entries.slots a
  asked_now image a are = grind arith

-- each that stands at a place of a list has fired
pub place_has : (ks fired : List Key) (n : ℕ) (k : Key) → ((w i : ℕ) → HasFired ks w i → HasFired fired w i)
    → n < length ks → get_or ks n k ≡ k → HasFired fired k.wave k.instr
place_has ks fired n k all lt is = grind (arith, has_at)
