-- What is kept under wave numbers where places come to one.
use Rattle.std.proofs.Common.{ℕ, ◌≡◌, ◌⊎◌, Bool, true, false, cond, nat_eq, eqb-true, Option, Some, None}
use Rattle.std.proofs.Common.{Result, Ok, Err, refl, sym, ap, ◌∙◌, subst, inl, inr, arith}
use Rattle.std.specs.Prelude.{IsOk, OnOk}
use Rattle.std.proofs.lemmas.Bool.{both_ways}
use Rattle.std.specs.HashMap.{HashMap, get, Updates}
use Rattle.store_buf.specs.declared.wave_places.WavePlaces.{WavePlaces}
use Rattle.store_buf.specs.Ranks.{IsFiled}
use Rattle.store_buf.specs.Laters.{IsFiledIf}

module _ (before without after : ℕ → Option WavePlaces) (wave : ℕ) (old new : WavePlaces)
    (was : (before wave ≡ Some old) ⊎ (before wave ≡ None)) (taken : (q : ℕ)
    → without q ≡ cond (nat_eq wave q) None (before q))
    (put : (q : ℕ) → after q ≡ cond (nat_eq wave q) (Some new) (without q))
    (kept : (n : ℕ) (r : Option ℕ) (p : ℕ) → IsFiled old n r p → IsFiled new n r p) where
  retained_so : (w n : ℕ) (r : Option ℕ) (p : ℕ) → IsFiledIf (before w) n r p → IsFiledIf (after w) n r p
  retained_so w n r p h = go (nat_eq wave w) refl
    where
      go : (b : Bool) → nat_eq wave w ≡ b → IsFiledIf (after w) n r p
      go false e = grind arith
      go true e = let same : wave ≡ w = eqb-true wave w e in
          subst (λ (o : Option WavePlaces). IsFiledIf o n r p)
          (sym (put w ∙ ap (λ (b : Bool). cond b (Some new) (without w)) e))
          (elim was [
            | inl s ↦
                kept n r p (subst (λ (o : Option WavePlaces). IsFiledIf o n r p) s
                (subst (λ (v : ℕ). IsFiledIf (before v) n r p) (sym same) h))
            | inr s ↦
                absurd (subst (λ (o : Option WavePlaces). IsFiledIf o n r p) s
                (subst (λ (v : ℕ). IsFiledIf (before v) n r p) (sym same) h))
          ])

pub retained : {E S : Type 0} (result : Result (Option WavePlaces) E) → IsOk result
    → (before : ℕ → Option WavePlaces) (without after : HashMap ℕ WavePlaces S) (wave : ℕ)
    (old new : WavePlaces) → (before wave ≡ Some old) ⊎ (before wave ≡ None)
    → ((q : ℕ) → get nat_eq without q ≡ cond (nat_eq wave q) None (before q)) →
    OnOk result (Updates nat_eq without after wave (Some new))
    → ((n : ℕ) (r : Option ℕ) (p : ℕ) → IsFiled old n r p → IsFiled new n r p)
    → (w n : ℕ) (r : Option ℕ) (p : ℕ) → IsFiledIf (before w) n r p → IsFiledIf (get nat_eq after w) n r p
retained (Ok x) ok before without after wave old new was taken put kept w n r p h =
    retained_so before (get nat_eq without) (get nat_eq after) wave old new was taken put.0 kept w n r p h
retained (Err x) ok before without after wave old new was taken put kept w n r p h = grind (arith, both_ways)
