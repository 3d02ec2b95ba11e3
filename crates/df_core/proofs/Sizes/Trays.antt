-- Rows of words, each with room for more.
use Rattle.std.proofs.Common.{ℕ, zero, suc, ◌+◌, ◌≡◌, ◌<◌, ◌≤◌, List, [], ◌∷◌, ◌++◌, length, Some, Vec}
use Rattle.std.proofs.Common.{Global, vec_len, vec_capacity, slice_set, slice_index_or, refl, ap, ◌⊎◌, arith}
use Rattle.ws_words.specs.Outside.{row, with_row}
use Rattle.df_core.specs.Outdoors.{HasSpace, rows_of}
use Rattle.ws_words.specs.Items.{nth}

pub set_rows : (rows : List (Vec ℕ Global)) (k : ℕ) (v : Vec ℕ Global) → rows_of (slice_set rows k v)
    ≡ with_row (rows_of rows) k v.items
set_rows [] k v = refl
set_rows (x ∷ rows) zero v = refl
set_rows (x ∷ rows) (suc k) v = ap (λ (rs : List (List ℕ)). x.items ∷ rs) (set_rows rows k v)

pub value_in : (rows : List (Vec ℕ Global)) (k : ℕ) (v : Vec ℕ Global) → k < length rows
    → v ≡ slice_index_or rows k v → v.items ≡ row (rows_of rows) k
value_in (x ∷ rows) (suc k) v l e = value_in rows k v (omega arith) e
value_in rows k v l e = grind arith

pub value_nth : (rows : List (Vec ℕ Global)) (k : ℕ) (v : Vec ℕ Global) → k < length rows
    → v ≡ slice_index_or rows k v → nth rows k ≡ Some v
value_nth (x ∷ rows) (suc k) v l e = value_nth rows k v (omega arith) e
value_nth rows k v l e = grind arith

-- the row at a place, after another was written
pub nth_set : (rows : List (Vec ℕ Global)) (k : ℕ) (w : Vec ℕ Global) (p : ℕ) (v : Vec ℕ Global)
    → nth (slice_set rows k w) p ≡ Some v → ((p ≡ k) × (v ≡ w)) ⊎ ((p ≡ k → ⊥) × (nth rows p ≡ Some v))
nth_set (x ∷ rows) (suc k) w (suc p) v e = grind (arith, nth_set rows k w p v e)
nth_set rows k w p v e = grind arith

pub set_space : (rows : List (Vec ℕ Global)) (k : ℕ) (v w : Vec ℕ Global) (n : ℕ) → k < length rows
    → v ≡ slice_index_or rows k v → vec_len w ≡ vec_len v + 1 → vec_capacity w ≡ vec_capacity v
    → HasSpace rows (suc n) → HasSpace (slice_set rows k w) n
set_space rows k v w n l e a b h p r q = grind (arith, nth_set, value_nth)

-- a row got more room
pub kept_space : (rows : List (Vec ℕ Global)) (k : ℕ) (v w : Vec ℕ Global) (n : ℕ) → k < length rows
    → v ≡ slice_index_or rows k v → vec_len w ≡ vec_len v → vec_capacity v ≤ vec_capacity w
    → HasSpace rows n → HasSpace (slice_set rows k w) n
kept_space rows k v w n l e a b h p r q = grind (arith, nth_set, value_nth)

pub written_past : (rows : List (Vec ℕ Global)) (k : ℕ) (r : List ℕ) → length rows ≤ k
    → rows_of rows ≡ with_row (rows_of rows) k r
written_past [] k r l = refl
written_past (x ∷ rows) zero r l = absurd (omega arith)
written_past (x ∷ rows) (suc k) r l = grind (arith, written_past rows k r (omega arith))

-- a row written over by itself
pub same_row : (rows : List (List ℕ)) (k : ℕ) → with_row rows k (row rows k) ≡ rows
same_row (x ∷ rows) (suc k) = ap (λ (rs : List (List ℕ)). x ∷ rs) (same_row rows k)
same_row rows k = grind arith

pub kept_rows : (rows : List (Vec ℕ Global)) (k : ℕ) (v w : Vec ℕ Global) → k < length rows
    → v ≡ slice_index_or rows k v → w.items ≡ v.items → rows_of (slice_set rows k w) ≡ rows_of rows
kept_rows rows k v w l e i = grind (arith, set_rows, value_in, same_row)

pub rows_push : (rows : List (Vec ℕ Global)) (v : Vec ℕ Global) → rows_of (rows ++ v ∷ []) ≡ rows_of rows
    ++ v.items ∷ []
rows_push [] v = refl
rows_push (x ∷ rows) v = ap (λ (rs : List (List ℕ)). x.items ∷ rs) (rows_push rows v)

pub length_set : (rows : List (Vec ℕ Global)) (k : ℕ) (w : Vec ℕ Global)
    → length (slice_set rows k w) ≡ length rows
length_set (x ∷ rows) (suc k) w = ap suc (length_set rows k w)
length_set rows k w = grind arith

pub past_row : (rows : List (Vec ℕ Global)) (k : ℕ) → length rows ≤ k → [] ≡ row (rows_of rows) k
past_row [] k l = refl
past_row (x ∷ rows) zero l = absurd (omega arith)
past_row (x ∷ rows) (suc k) l = past_row rows k (omega arith)
