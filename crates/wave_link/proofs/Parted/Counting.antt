-- Numbers from n on, one more each.
use Rattle.std.proofs.Common.{ℕ, suc, ◌+◌, ◌-◌, ◌≡◌, ◌<◌, List, [], ◌∷◌, ◌++◌, refl, ap, ◌∙◌, arith}
use Rattle.wave_link.specs.Layout.{count_up}

count_more : (n m c i : ℕ) → i < c → m ≡ n + 1 → count_up n (c - i) ≡ n ∷ count_up m (c - (i + 1))
count_more n m c i l f = let e : c - i ≡ suc (c - (i + 1)) = omega arith in ap (count_up n) e ∙ rw f refl

one_joined : (xs rest : List ℕ) (n : ℕ) → (xs ++ n ∷ []) ++ rest ≡ xs ++ n ∷ rest
one_joined [] rest n = refl
one_joined (x ∷ xs) rest n = ap (λ (l : List ℕ). x ∷ l) (one_joined xs rest n)

pub pushed_next : (xs ys whole : List ℕ) (n m c i : ℕ) → i < c → ys ≡ xs ++ n ∷ [] → m ≡ n + 1
    → xs ++ count_up n (c - i) ≡ whole → ys ++ count_up m (c - (i + 1)) ≡ whole
pushed_next xs ys whole n m c i l e f h = grind (arith, one_joined, count_more)
