-- How many operations the first steps of the walk have.
use Rattle.std.proofs.Common.{ℕ, zero, suc, ◌≡◌, ◌≤◌, length, refl, ◌∙◌, inl, inr, arith}
use Rattle.std.proofs.lemmas.Bool.{cases_Bool, cases_eq}
use Rattle.ws_words.specs.Outside.{World}
use Rattle.ws_isa.specs.Image.{Image, is_memory}
use Rattle.ws_isa.specs.Operations.{ops}
use Rattle.df_core.specs.Fit.{NoOp}
use Rattle.df_core.proofs.Walked.Pauses.{cases_fires}
use Rattle.ws_isa.proofs.OneEffect.{fired_none, fired_other}

module _ (image : Image) (world : World) where
  pub count_same : (t u : ℕ) → t ≤ u → NoOp image world t u → length (ops image world u)
      ≡ length (ops image world t)
  count_same t zero l h = let e : t ≡ zero = omega arith in rw e refl
  count_same t (suc u) l h = elim (cases_eq t (suc u)) [
    | inl e ↦ rw e refl
    | inr n ↦ (let a : length (ops image world u) ≡ length (ops image world t) = count_same t u (omega arith)
        (λ k x b c. h k x b (omega arith)) in
        (elim (cases_fires image world u) [
          | inl e ↦ fired_none image world u e
          | inr r ↦ elim (cases_Bool (is_memory image r.0.instr)) [
            | inl m ↦ absurd (h u r.0 (omega arith) (omega arith) r.1 m)
            | inr m ↦ fired_other image world u r.0 r.1 m
          ]
        ]) ∙ a)
  ]
