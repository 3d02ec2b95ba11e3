-- Sums over numbers, and numbers that are paid for by others, each once.
use Rattle.std.proofs.Common.{ℕ, zero, suc, ◌+◌, ◌*◌, ◌≡◌, ◌<◌, ◌≤◌, ◌⊎◌, List, [], ◌∷◌, length, refl, sym}
use Rattle.std.proofs.Common.{ap, ◌∙◌, inl, inr, arith}
use Rattle.std.specs.List.{sum_by, range_with_len}
use Rattle.std.proofs.lemmas.Bool.{cases_eq}
use Rattle.std.proofs.lemmas.List.Sums.{sum_by-cons}
use Rattle.cfg_core.specs.Graph.{Spot, no_spot}
use Rattle.ws_words.specs.Items.{nth, or_else, In}

-- over the first n numbers
abbrev pub low : (ℕ → ℕ) → ℕ → ℕ
low f zero = 0
low f (suc n) = low f n + f n

range_more : (f : ℕ → ℕ) (b n : ℕ) → sum_by f (range_with_len b (suc n)) ≡ sum_by f (range_with_len b n) + f
    (b + n)
range_more f b zero =
    let z : b + 0 ≡ b = omega arith in
    let c = sum_by-cons f b [] in let e = ap f z in omega (arith, c, e)
range_more f b (suc n) =
    let z : (b + 1) + n ≡ b + suc n = omega arith in
    let c = sum_by-cons f b (range_with_len (b + 1) (suc n)) in
    let d = sum_by-cons f b (range_with_len (b + 1) n) in
    let i = range_more f (b + 1) n in let e = ap f z in omega (arith, c, d, i, e)

pub low_is : (f : ℕ → ℕ) (n : ℕ) → sum_by f (range_with_len 0 n) ≡ low f n
low_is f zero = refl
low_is f (suc n) = let r = range_more f 0 n in let i = low_is f n in let e =
    ap f (let z : 0 + n ≡ n = omega arith in z) in omega (arith, r, i, e)

-- a sum over blocks is one over their numbers
spots_from : (g : ℕ → ℕ) (f : Spot → ℕ) (b : ℕ) (xs : List Spot)
    → ((i : ℕ) → i < length xs → g (b + i) ≡ f (or_else (nth xs i) no_spot))
    → sum_by g (range_with_len b (length xs)) ≡ sum_by f xs
spots_from g f b [] e = refl
spots_from g f b (x ∷ xs) e =
    let z : b + 0 ≡ b = omega arith in
    let first : g b ≡ f x = ap g (sym z) ∙ e 0 (omega arith) in
    let i = spots_from g f (b + 1) xs (λ i l. (let y : (b + 1) + i ≡ b + suc i = omega arith in
    ap g y ∙ e (suc i) (omega (arith, l)))) in
    let c = sum_by-cons f x xs in
    let d = sum_by-cons g b (range_with_len (b + 1) (length xs)) in
    omega (arith, first, i, c, d)

pub spots_low : (g : ℕ → ℕ) (f : Spot → ℕ) (xs : List Spot)
    → ((i : ℕ) → i < length xs → g i ≡ f (or_else (nth xs i) no_spot)) → low g (length xs) ≡ sum_by f xs
spots_low g f xs e =
    sym (low_is g (length xs))
    ∙ spots_from g f 0 xs (λ i l. (let z : 0 + i ≡ i = omega arith in ap g z ∙ e i l))

pub low_both : (f g : ℕ → ℕ) (n : ℕ) → low (λ b. f b + g b) n ≡ low f n + low g n
low_both f g zero = refl
low_both f g (suc n) = let i = low_both f g n in omega (arith, i)

pub low_less : (f g : ℕ → ℕ) (n : ℕ) → ((b : ℕ) → b < n → f b ≤ g b) → low f n ≤ low g n
low_less f g zero h = omega arith
low_less f g (suc n) h = let i = low_less f g n (λ b l. h b (omega (arith, l))) in
    let t = h n (omega arith) in omega (arith, i, t)

pub low_few : (f : ℕ → ℕ) (c n : ℕ) → ((b : ℕ) → b < n → f b ≤ c) → low f n ≤ n * c
low_few f c zero h = omega arith
low_few f c (suc n) h =
    let i = low_few f c n (λ b l. h b (omega (arith, l))) in let t = h n (omega arith) in
    let y : suc n * c ≡ c + n * c = grind arith in omega (arith, i, t, y)

-- so much more each
pub low_more : (f g : ℕ → ℕ) (a c n : ℕ) → ((b : ℕ) → b < n → f b + a ≤ g b + c)
    → low f n + n * a ≤ low g n + n * c
low_more f g a c zero h = omega arith
low_more f g a c (suc n) h =
    let i = low_more f g a c n (λ b l. h b (omega (arith, l))) in let t = h n (omega arith) in
    let x : suc n * a ≡ a + n * a = grind arith in let y : suc n * c ≡ c + n * c = grind arith in
    omega (arith, i, t, x, y)

-- so much each, and so much for each turn
pub low_turns : (f t : ℕ → ℕ) (a c n : ℕ) → ((b : ℕ) → b < n → f b ≤ a + c * t b)
    → low f n ≤ n * a + c * low t n
low_turns f t a c zero h = omega arith
low_turns f t a c (suc n) h =
    let i = low_turns f t a c n (λ b l. h b (omega (arith, l))) in let u = h n (omega arith) in
    let x : suc n * a ≡ a + n * a = grind arith in
    let y : c * (low t n + t n) ≡ c * low t n + c * t n = grind arith in
    omega (arith, i, u, x, y)

-- Numbers that are paid for.

pub in_range : (b n x : ℕ) → b ≤ x → x < b + n → In x (range_with_len b n)
in_range b zero x le lt = absurd (omega (arith, le, lt))
in_range b (suc n) x le lt = elim (cases_eq x b) [
  | inl e ↦ inl e
  | inr d ↦ inr (in_range (b + 1) n x (omega (arith, le, d)) (omega (arith, lt)))
]

-- a list without one of its numbers
record Without (v : ℕ → ℕ) (bs : List ℕ) (x : ℕ) : Type 0 where
  rest : List ℕ
  sum : sum_by v bs ≡ v x + sum_by v rest
  others : (y : ℕ) → In y bs → (y ≡ x) ⊎ In y rest

without : (v : ℕ → ℕ) (bs : List ℕ) (x : ℕ) → In x bs → Without v bs x
without v [] x h = absurd h
without v (b ∷ bs) x (inl e) = record {
  rest = bs;
  sum = sum_by-cons v b bs ∙ ap (λ n. v n + sum_by v bs) (sym e);
  others = λ y h. elim h [ inl q ↦ inl (q ∙ sym e) | inr i ↦ inr i ];
}
without v (b ∷ bs) x (inr h) =
    let r = without v bs x h in record {
      rest = b ∷ r.rest;
      sum = (let c = sum_by-cons v b bs in let d = sum_by-cons v b r.rest in let s = r.sum in
          omega (arith, c, d, s));
      others = λ y i. elim i [
        | inl q ↦ inr (inl q)
        | inr i ↦ elim (r.others y i) [ inl q ↦ inl q | inr j ↦ inr (inr j) ]
      ];
    }

-- a number has its place from one of a list, which pays for it
abbrev pub Pays : (ℕ → ℕ) → (ℕ → ℕ) → (ℕ → ℕ) → List ℕ → ℕ → Type 0
Pays w place v bs c = (b : ℕ) × In b bs × (c ≡ place b) × (w c ≤ v b)

-- a lower number is paid for by others
lower : (w place v : ℕ → ℕ) (bs : List ℕ) (x n c : ℕ) → n ≡ place x → c < n → (r : Without v bs x)
    → Pays w place v bs c → Pays w place v r.rest c
lower w place v bs x n c e lt r p = (
  p.0,
  elim (r.others p.0 p.1) [
    | inl same ↦ absurd (let z : c ≡ n = p.2 ∙ ap place same ∙ sym e in omega (arith, z, lt))
    | inr i ↦ i
  ],
  p.2,
  p.3,
)

-- numbers of three kinds
pub paid : (w one two three u v t : ℕ → ℕ) (n : ℕ) (xs ys zs : List ℕ)
    → ((c : ℕ) → c < n → Pays w one u xs c ⊎ (Pays w two v ys c ⊎ Pays w three t zs c))
    → low w n ≤ sum_by u xs + sum_by v ys + sum_by t zs
paid w one two three u v t zero xs ys zs h = omega arith
paid w one two three u v t (suc n) xs ys zs h =
    go (h n (omega arith)) (λ xs ys zs h. paid w one two three u v t n xs ys zs h)
  where
    go : Pays w one u xs n ⊎ (Pays w two v ys n ⊎ Pays w three t zs n)
        → ((xs ys zs : List ℕ)
        → ((c : ℕ) → c < n → Pays w one u xs c ⊎ (Pays w two v ys c ⊎ Pays w three t zs c))
        → low w n ≤ sum_by u xs + sum_by v ys + sum_by t zs)
        → low w n + w n ≤ sum_by u xs + sum_by v ys + sum_by t zs
    go (inl p) below =
        let r = without u xs p.0 p.1 in
        let i = below r.rest ys zs (λ c lt. elim (h c (omega (arith, lt)))
        [ inl q ↦ inl (lower w one u xs p.0 n c p.2 lt r q) | inr q ↦ inr q ]) in
        let s = r.sum in let l = p.3 in omega (arith, i, s, l)
    go (inr (inl p)) below =
        let r = without v ys p.0 p.1 in
        let i = below xs r.rest zs (λ c lt. elim (h c (omega (arith, lt))) [
          | inl q ↦ inl q
          | inr q ↦ elim q [ inl k ↦ inr (inl (lower w two v ys p.0 n c p.2 lt r k)) | inr k ↦ inr (inr k) ]
        ]) in
        let s = r.sum in let l = p.3 in omega (arith, i, s, l)
    go (inr (inr p)) below =
        let r = without t zs p.0 p.1 in
        let i = below xs ys r.rest (λ c lt. elim (h c (omega (arith, lt))) [
          | inl q ↦ inl q
          | inr q ↦ elim q [ inl k ↦ inr (inl k) | inr k ↦ inr (inr (lower w three t zs p.0 n c p.2 lt r k)) ]
        ]) in
        let s = r.sum in let l = p.3 in omega (arith, i, s, l)
