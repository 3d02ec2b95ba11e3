-- One item more is shared.
use Rattle.std.proofs.Common.{ℕ, zero, suc, ◌≡◌, ◌<◌, List, [], ◌∷◌, ◌++◌, length, map, take, drop, set}
use Rattle.std.proofs.Common.{slice_index_or, ap, ◌∙◌, arith}
use Rattle.wave_gen.specs.Wire as wire
use Rattle.wave_gen.specs.Shared.{share, learn, shared}
use Rattle.wave_gen.specs.View as shown
use Rattle.wave_gen.specs.declared.plan.Item.{Item}

pub share_next : (xs : List Item) (i j : ℕ) (x y : Item) (K L : ℕ → ℕ) → j ≡ suc i → i < length xs
    → x ≡ slice_index_or xs i x → shown.item y ≡ share K (shown.item x)
    → ((m : ℕ) → L m ≡ learn K (shown.item x) m) →
    map shown.item (take j (set xs i y)) ++ shared L (map shown.item (drop j (set xs i y))) ≡ map shown.item
    (take i xs) ++ shared K (map shown.item (drop i xs))
share_next xs i j x y K L ej l e h k =
    ap (λ n. map shown.item (take n (set xs i y)) ++ shared L (map shown.item (drop n (set xs i y)))) ej
    ∙ at xs i l e
  where
    same : L ≡ learn K (shown.item x)
    same j m = k m j

    at : (xs : List Item) (i : ℕ) → i < length xs → x ≡ slice_index_or xs i x
        → map shown.item (take (suc i) (set xs i y)) ++ shared L (map shown.item (drop (suc i) (set xs i y)))
        ≡ map shown.item (take i xs) ++ shared K (map shown.item (drop i xs))
    at [] i l e = absurd (omega (arith, l))
    at (z ∷ xs) zero l e =
        ap (λ (q : wire.Item). q ∷ shared L (map shown.item xs)) h
        ∙ ap (λ (f : ℕ → ℕ). share K (shown.item x) ∷ shared f (map shown.item xs)) same
        ∙ ap (λ (q : Item). share K (shown.item q) ∷ shared (learn K (shown.item q)) (map shown.item xs)) e
    at (z ∷ xs) (suc i) l e = ap (λ (qs : List wire.Item). shown.item z ∷ qs) (at xs i (omega (arith, l)) e)
