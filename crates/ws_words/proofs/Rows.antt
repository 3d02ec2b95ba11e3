-- Lists of lists by place, and zeros.
use Rattle.std.proofs.Common.{◌≡◌, ℕ, zero, suc, ◌<◌, ◌≤◌, List, [], ◌∷◌, ◌++◌, length, slice_index_or}
use Rattle.std.proofs.Common.{slice_set, refl, sym, ap, ◌∙◌, subst, arith}
use Rattle.ws_words.specs.Outside.{row, with_row, zeros}

pub row_in : (rows : List (List ℕ)) (k : ℕ) (r : List ℕ) → k < length rows → r ≡ slice_index_or rows k r
    → row rows k ≡ r
row_in [] k r lt e = absurd (omega arith)
row_in (x ∷ rows) zero r lt e = sym e
row_in (x ∷ rows) (suc k) r lt e = row_in rows k r (omega arith) e

pub row_past : (rows : List (List ℕ)) (k : ℕ) → length rows ≤ k → row rows k ≡ []
row_past [] k le = refl
row_past (x ∷ rows) zero le = absurd (omega arith)
row_past (x ∷ rows) (suc k) le = row_past rows k (omega arith)

pub set_row : (rows : List (List ℕ)) (k : ℕ) (r : List ℕ) → slice_set rows k r ≡ with_row rows k r
set_row [] k r = refl
set_row (x ∷ rows) zero r = refl
set_row (x ∷ rows) (suc k) r = ap (λ (rs : List (List ℕ)). x ∷ rs) (set_row rows k r)

pub past_row : (rows : List (List ℕ)) (k : ℕ) (r : List ℕ) → length rows ≤ k → rows ≡ with_row rows k r
past_row [] k r le = refl
past_row (x ∷ rows) zero r le = absurd (omega arith)
past_row (x ∷ rows) (suc k) r le = ap (λ (rs : List (List ℕ)). x ∷ rs) (past_row rows k r (omega arith))

pub zeros_more : (n m : ℕ) → m ≡ suc n → zeros n ++ 0 ∷ [] ≡ zeros m
zeros_more n m e = at n ∙ ap zeros (sym e)
  where
    at : (n : ℕ) → zeros n ++ 0 ∷ [] ≡ zeros (suc n)
    at zero = refl
    at (suc n) = ap (λ (ns : List ℕ). 0 ∷ ns) (at n)

-- a list written at its place
pub written : (inside now : List (List ℕ)) (k : ℕ) (old new : List ℕ) (f : List ℕ → List ℕ) → inside ≡ now
    → k < length inside → old ≡ slice_index_or inside k old → new ≡ f old
    → slice_set inside k new ≡ with_row now k (f (row now k))
written inside now k old new f same lt e d =
    set_row inside k new ∙ ap (λ (r : List ℕ). with_row inside k r)
    (d ∙ ap f (sym (row_in inside k old lt e)))
    ∙ ap (λ (rs : List (List ℕ)). with_row rs k (f (row rs k))) same

pub written_past : (inside now : List (List ℕ)) (k : ℕ) (r : List ℕ) → inside ≡ now → length inside ≤ k
    → now ≡ with_row now k r
written_past inside now k r same le = subst (λ (rs : List (List ℕ)). rs ≡ with_row rs k r) same
    (past_row inside k r le)

pub word_in : (inside now : List (List ℕ)) (k : ℕ) (r : List ℕ) → inside ≡ now → k < length inside
    → r ≡ slice_index_or inside k r → row now k ≡ r
word_in inside now k r same lt e = subst (λ (rs : List (List ℕ)). row rs k ≡ r) same (row_in inside k r lt e)

pub word_past : (inside now : List (List ℕ)) (k : ℕ) → inside ≡ now → length inside ≤ k → row now k ≡ []
word_past inside now k same le = subst (λ (rs : List (List ℕ)). row rs k ≡ []) same (row_past inside k le)
