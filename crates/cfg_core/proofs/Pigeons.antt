-- Numbers below a bound, all different, are no more than the bound.
use Rattle.std.proofs.Common.{ℕ, suc, ◌≡◌, ◌<◌, ◌≤◌, ◌⊎◌, List, [], ◌∷◌, length, refl, sym, ap, ◌∙◌, subst}
use Rattle.std.proofs.Common.{inl, inr, arith}
use Rattle.ws_words.specs.Items.{In, Distinct}
use Rattle.ws_words.proofs.Places.{down, in_down, down_length}

record Less (ys : List ℕ) (x : ℕ) : Type 0 where
  rest : List ℕ
  shorter : suc (length rest) ≡ length ys
  keeps : (a : ℕ) → In a ys → (a ≡ x) ⊎ In a rest

take_out : (ys : List ℕ) (x : ℕ) → In x ys → Less ys x
take_out [] x h = absurd h
take_out (y ∷ ys) x (inl h) =
    record { rest = ys; shorter = refl; keeps = λ a i. elim i [ inl e ↦ inl (e ∙ sym h) | inr j ↦ inr j ] }
take_out (y ∷ ys) x (inr h) = let r = take_out ys x h in
    record {
      rest = y ∷ r.rest;
      shorter = ap suc r.shorter;
      keeps = λ a i. elim i [
        | inl e ↦ inr (inl e)
        | inr j ↦
            elim (r.keeps a j) [ inl f ↦ inl f | inr f ↦ inr (inr f) ]
      ];
    }

in_same : (ys : List ℕ) (a b : ℕ) → a ≡ b → In a ys → In b ys
in_same ys a b e h = subst (λ (n : ℕ). In n ys) e h

within : (xs ys : List ℕ) → Distinct xs → ((a : ℕ) → In a xs → In a ys) → length xs ≤ length ys
within [] ys o f = omega arith
within (x ∷ xs) ys o f =
    let l : Less ys x = take_out ys x (f x (inl refl)) in
    let r : length xs ≤ length l.rest = within xs l.rest o.1 (λ a h. elim (l.keeps a (f a (inr h))) [
      | inl e ↦ absurd (o.0 (in_same xs a x e h))
      | inr g ↦ g
    ]) in
    let s : suc (length l.rest) ≡ length ys = l.shorter in
    omega arith

-- numbers below n that stand apart are at most n
pub pigeons : (xs : List ℕ) (n : ℕ) → Distinct xs → ((a : ℕ) → In a xs → a < n) → length xs ≤ n
pigeons xs n o f = subst (λ (m : ℕ). length xs ≤ m) (down_length n)
    (within xs (down n) o (λ a h. in_down n a (f a h)))
