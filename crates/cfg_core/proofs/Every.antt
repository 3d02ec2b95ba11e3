-- What all numbers of a list have.
use Rattle.std.proofs.Common.{ℕ, zero, suc, ◌<◌, List, [], ◌∷◌, length, slice_index, sym, subst, inl, inr}
use Rattle.std.proofs.Common.{arith}
use Rattle.std.specs.List.{AllByRecursion}
use Rattle.ws_words.specs.Items.{In}

-- the one at a place has it
pub all_at : (P : ℕ → Type 0) (ls : List ℕ) (k : ℕ) → AllByRecursion P ls → k < length ls
    → P (slice_index ls k)
all_at P [] k h lt = absurd (omega arith)
all_at P (l ∷ ls) zero h lt = h.0
all_at P (l ∷ ls) (suc k) h lt = all_at P ls k h.1 (omega arith)

-- each of them has it
pub all_in : (P : ℕ → Type 0) (xs : List ℕ) (c : ℕ) → AllByRecursion P xs → In c xs → P c
all_in P [] c h i = absurd i
all_in P (x ∷ xs) c h (inl e) = subst P (sym e) h.0
all_in P (x ∷ xs) c h (inr i) = all_in P xs c h.1 i
