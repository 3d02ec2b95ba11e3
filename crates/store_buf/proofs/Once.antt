-- Each request is the one of its instance.
use Rattle.std.proofs.Common.{ℕ, ◌≡◌, ◌<◌, List, Option, Some, All, length, slice_index_or, inl, inr, refl}
use Rattle.std.proofs.Common.{sym, ap, ◌∙◌, arith}
use Rattle.std.proofs.lemmas.List.Elements.{All-from_get_or}
use Rattle.store_buf.specs.declared.kept.Kept.{Kept}
use Rattle.store_buf.specs.Requests.{entry_of}
use Rattle.store_buf.specs.Ordering.{no_request}
use Rattle.store_buf.proofs.Found as F

module _ (ks : List Kept) (f : ℕ → ℕ → Option ℕ) (ok : (p : ℕ) → p < length ks
    → f (slice_index_or ks p no_request).wave (slice_index_or ks p no_request).instr ≡ Some p) where
  own_at : (p : ℕ) → p < length ks → entry_of ks (slice_index_or ks p no_request).wave
      (slice_index_or ks p no_request).instr ≡ Some (slice_index_or ks p no_request)
  own_at p lt = elim (F.entry_case ks (slice_index_or ks p no_request).wave (slice_index_or ks p
      no_request).instr) [
        | inl n ↦ absurd (F.there ks p (slice_index_or ks p no_request).wave (slice_index_or ks p
            no_request).instr lt refl refl n)
        | inr s ↦ (let e : p ≡ s.place = same s in s.is ∙ ap (λ (q : ℕ). Some (slice_index_or ks q
            no_request)) (sym e))
      ]
    where
      same : (s : F.Stands ks (slice_index_or ks p no_request).wave (slice_index_or ks p no_request).instr)
          → p ≡ s.place
      same s = grind arith

  pub own : All (λ (k : Kept). entry_of ks k.wave k.instr ≡ Some k) ks
  own = All-from_get_or (λ (k : Kept). entry_of ks k.wave k.instr ≡ Some k) ks no_request own_at
