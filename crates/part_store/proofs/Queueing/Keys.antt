-- Cases of keys and cells.
use Rattle.std.proofs.Common.{ℕ, ◌≡◌, ◌⊎◌, true, false, refl, eq-eqb, arith}
use Rattle.df_core.specs.Core.{same_key}
use Rattle.df_core.proofs.Keeping.Ports.{SameKey}
use Rattle.part_store.specs.declared.entry.Queued.{Queued}
use Rattle.part_store.specs.Queues.{same_cell}

pub key_cases : (w i a b : ℕ) → ((same_key w i a b ≡ true) × SameKey w i a b) ⊎
    ((same_key w i a b ≡ false) × (SameKey w i a b → ⊥))
key_cases w i a b = grind arith

-- the entry is on the cell
pub record IsOn (e : Queued) (r j : ℕ) : Type 0 where
  pub row : e.row ≡ r
  pub index : e.index ≡ j

pub cell_cases : (e : Queued) (r j : ℕ) → ((same_cell e r j ≡ true) × IsOn e r j) ⊎
    ((same_cell e r j ≡ false) × (IsOn e r j → ⊥))
cell_cases e r j = grind arith

pub same_key_is : (w i : ℕ) → same_key w i w i ≡ true
same_key_is w i = rw (eq-eqb w w refl, eq-eqb i i refl) refl

pub same_cell_is : (e : Queued) (r j : ℕ) → IsOn e r j → same_cell e r j ≡ true
same_cell_is e r j o = rw (eq-eqb e.row r o.row, eq-eqb e.index j o.index) refl
