-- Requests after an answer, and what depends on them alone.
use Rattle.std.proofs.Common.{ℕ, suc, ◌≡◌, ◌<◌, Bool, List, ◌∷◌, length, Option, Some, slice_index_or}
use Rattle.std.proofs.Common.{slice_set, false, sym, ◌∙◌, inl, inr, arith}
use Rattle.std.proofs.lemmas.Bool.{both_ways}
use Rattle.ws_words.specs.Outside.{Outside, World}
use Rattle.ws_isa.specs.Image.{Image}
use Rattle.df_core.specs.Core.{Chain, with_key}
use Rattle.df_core.specs.Fit.{Legal, Ordered}
use Rattle.df_core.proofs.Keeping.Ports.{with_key_cases}
use Rattle.store_buf.specs.declared.kept.Kept.{Kept}
use Rattle.store_buf.specs.Requests.{entry_of}
use Rattle.store_buf.specs.Ordering.{no_request}
use Rattle.ws_words.specs.Items.{In}
use Rattle.store_buf.specs.Orders.{OrderGoes}

module _ (image : Image) (world : World) (f g : ℕ → ℕ → Option ℕ) (same : (w i : ℕ) → g w i ≡ f w i)
    (a b : ℕ → ℕ → Option (List ℕ)) (like : (w i : ℕ) → b w i ≡ a w i) where
  ordered_alike : (cut : ℕ) (c : Chain) (m : Outside) → Ordered image world cut f c m
      → Ordered image world cut g c m
  ordered_alike cut c m o = grind arith

  legal_alike : (stopped : Bool) (c : Chain) (m : Outside) → Legal image world f a stopped c m
      → Legal image world g b stopped c m
  legal_alike stopped c m h = grind (arith, ordered_alike)

  -- what is true of functions is true of others that answer alike
  pub going_alike : (stopped : Bool) (c : Chain) (m : Outside) (early : List ℕ)
      → OrderGoes image world f a stopped c m early → OrderGoes image world g b stopped c m early
  going_alike stopped c m early h = grind (arith, legal_alike)

-- where the chain isn't stopped, it doesn't matter what waits
pub going_any : (image : Image) (world : World) (f g : ℕ → ℕ → Option ℕ) → ((w i : ℕ) → g w i ≡ f w i)
    → (a b : ℕ → ℕ → Option (List ℕ)) (c : Chain) (m : Outside) (early : List ℕ)
    → OrderGoes image world f a false c m early → OrderGoes image world g b false c m early
going_any image world f g same a b c m early h = grind (arith, ordered_alike, both_ways)

-- the same operations issued in another order
pub early_alike : (image : Image) (world : World) (f : ℕ → ℕ → Option ℕ) (a : ℕ → ℕ → Option (List ℕ))
    (stopped : Bool) (c : Chain) (m : Outside) (xs ys : List ℕ) → ((j : ℕ) → In j xs → In j ys)
    → ((j : ℕ) → In j ys → In j xs) →
    OrderGoes image world f a stopped c m xs → OrderGoes image world f a stopped c m ys
early_alike image world f a stopped c m xs ys to from h = grind arith

pub once_of : (ks : List Kept) (f : ℕ → ℕ → Option ℕ)
    → ((p : ℕ) → p < length ks → f (slice_index_or ks p no_request).wave
    (slice_index_or ks p no_request).instr ≡ Some p) →
    (p q : ℕ) → p < length ks → q < length ks → (slice_index_or ks p no_request).wave
    ≡ (slice_index_or ks q no_request).wave → (slice_index_or ks p no_request).instr
    ≡ (slice_index_or ks q no_request).instr → p ≡ q
once_of ks f ok p q l m ew ei = grind arith

-- a request that is changed is found changed, and others are found as before
pub entry_set : (ks : List Kept) (p : ℕ) (k : Kept) → p < length ks →
    ((q r : ℕ) → q < length ks → r < length ks → (slice_index_or ks q no_request).wave
    ≡ (slice_index_or ks r no_request).wave → (slice_index_or ks q no_request).instr
    ≡ (slice_index_or ks r no_request).instr → q ≡ r) →
    k.wave ≡ (slice_index_or ks p no_request).wave → k.instr ≡ (slice_index_or ks p no_request).instr
    → (w i : ℕ) → entry_of (slice_set ks p k) w i ≡ with_key k.wave k.instr (Some k) (entry_of ks) w i
entry_set (x ∷ ks) (suc p) k l once ew ei w i =
    elim (with_key_cases x.wave x.instr (Some x) (entry_of (slice_set ks p k)) w i) [
      | inl h ↦ h.1 ∙ elim (with_key_cases k.wave k.instr (Some k) (entry_of (x ∷ ks)) w i) [
        | inl g ↦ absurd (let z : 0 ≡ suc p = once 0 (suc p) (omega arith) l (h.0.wave ∙ sym g.0.wave ∙ ew)
            (h.0.instr ∙ sym g.0.instr ∙ ei) in omega arith)
        | inr g ↦
            sym (g.1 ∙ elim (with_key_cases x.wave x.instr (Some x) (entry_of ks) w i) [
              | inl y ↦ y.1
              | inr y ↦
                  absurd (y.0 h.0)
            ])
      ]
      | inr h ↦ h.1 ∙ entry_set ks p k (omega arith) (λ q r a b c d. let z : suc q ≡ suc r =
          once (suc q) (suc r)
          (omega arith) (omega arith) c d in omega arith) ew ei w i
          ∙ elim (with_key_cases k.wave k.instr (Some k) (entry_of ks) w i) [
            | inl g ↦ g.1 ∙ elim (with_key_cases k.wave k.instr (Some k) (entry_of (x ∷ ks)) w i)
                [ inl y ↦ sym y.1 | inr y ↦ absurd (y.0 g.0) ]
            | inr g ↦ g.1 ∙ elim (with_key_cases k.wave k.instr (Some k) (entry_of (x ∷ ks)) w i) [
              | inl y ↦ absurd (g.0 y.0)
              | inr y ↦
                  sym (y.1 ∙ elim (with_key_cases x.wave x.instr (Some x) (entry_of ks) w i)
                  [ inl z ↦ absurd (h.0 z.0) | inr z ↦ z.1 ])
            ]
          ]
    ]
entry_set ks p k l once ew ei w i = grind (arith, with_key_cases)
