-- Requests at places of an order, and what is found where one is changed.
use Rattle.std.proofs.Common.{ℕ, ◌≡◌, ◌<◌, Bool, true, false, cond, List, length, Some, slice_set, refl}
use Rattle.std.proofs.Common.{sym, ◌∙◌, arith}
use Rattle.std.specs.Prelude.{is_some}
use Rattle.df_core.specs.Core.{with_key}
use Rattle.df_core.proofs.Keeping.Ports.{with_key_cases}
use Rattle.store_buf.proofs.Alike.{entry_set, once_of}
use Rattle.store_buf.specs.declared.kept.Kept.{Kept}
use Rattle.store_buf.specs.declared.order.Order.{Order}
use Rattle.store_buf.specs.Requests.{entry_of}
use Rattle.store_buf.specs.Finding.{place_in}
use Rattle.store_buf.specs.Ordering.{kept_at}
use Rattle.store_buf.proofs.Found as F
use Rattle.part_store.specs.Parts.{issued_flag, kept_flag}

-- a request that is kept stands where its place is kept
pub record Standing (o : Order) (w i : ℕ) (k : Kept) : Type 0 where
  pub place : ℕ
  pub found : place_in o.kept.items o.index w i ≡ Some place
  pub inside : place < length o.kept.items
  pub is : kept_at o place ≡ k
  pub wave : k.wave ≡ w
  pub instr : k.instr ≡ i

pub stands_at : (o : Order) → (w i : ℕ) (k : Kept) → entry_of o.kept.items w i ≡ Some k →
    Standing o w i k
stands_at o w i k e = grind (arith, F.entry_case, F.place_of)

pub flag_is : (o : Order) (p w i a : ℕ) (k : Kept) → kept_at o p ≡ k → k.wave ≡ w → k.instr ≡ i →
    k.answer ≡ Some a → issued_flag o p w i ≡ true
flag_is o p w i a k is ew ei ea = grind arith

pub record Flagged (o : Order) (p w i : ℕ) : Type 0 where
  pub wave : (kept_at o p).wave ≡ w
  pub instr : (kept_at o p).instr ≡ i
  pub some : is_some (kept_at o p).answer ≡ true

pub flagged : (o : Order) (p w i : ℕ) → issued_flag o p w i ≡ true → Flagged o p w i
flagged o p w i e = grind arith

pub kept_flag_is : (o : Order) (p w i : ℕ) (k : Kept) → kept_at o p ≡ k → k.wave ≡ w → k.instr ≡ i →
    kept_flag o p w i ≡ true
kept_flag_is o p w i k is ew ei = grind arith

pub key_flagged : (o : Order) (p w i : ℕ) → kept_flag o p w i ≡ true →
    ((kept_at o p).wave ≡ w) × ((kept_at o p).instr ≡ i)
key_flagged o p w i e = grind arith

if_true : (b x : Bool) → cond b false x ≡ true → x ≡ true
if_true b x e = grind arith

pub still_in : (b x y : Bool) → y ≡ cond b false x → y ≡ true → x ≡ true
still_in b x y e f = if_true b x (sym e ∙ f)

-- a request at a place that is changed is found changed
pub replaced : (o : Order) → (p : ℕ) (k : Kept) → p < length o.kept.items →
    k.wave ≡ (kept_at o p).wave → k.instr ≡ (kept_at o p).instr → (w i : ℕ) →
    entry_of (slice_set o.kept.items p k) w i ≡ with_key k.wave k.instr (Some k) (entry_of o.kept.items) w i
replaced o p k l ew ei w i = grind (arith, entry_set, once_of)

pub kept_still : (o : Order) (p : ℕ) (k : Kept) → p < length o.kept.items →
    k.wave ≡ (kept_at o p).wave → k.instr ≡ (kept_at o p).instr → (ks : List Kept) →
    ks ≡ slice_set o.kept.items p k → (w i : ℕ) → ((x : Kept) × (entry_of o.kept.items w i ≡ Some x)) →
    (x : Kept) × (entry_of ks w i ≡ Some x)
kept_still o p k l ew ei ks kept w i e = rw kept (grind (
  arith,
  with_key_cases k.wave k.instr (Some k) (entry_of o.kept.items) w i,
  replaced o p k l ew ei w i,
))

pub found_at : (o : Order) → (p : ℕ) → p < length o.kept.items →
    entry_of o.kept.items (kept_at o p).wave (kept_at o p).instr ≡ Some (kept_at o p)
found_at o p l = sym (F.here _ (place_in o.kept.items o.index) o.ok.index _ _ _ (o.ok.index p l) l refl refl)
