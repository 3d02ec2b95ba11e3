-- In a list of blocks wave after wave, a wave's number rises exactly at its first block.
use Rattle.std.proofs.Common.{ℕ, zero, suc, ◌+◌, ◌≡◌, ◌<◌, ◌≤◌, ◌⊎◌, Bool, true, false, List, [], ◌∷◌, ◌++◌}
use Rattle.std.proofs.Common.{Some, None, refl, sym, ap, ◌∙◌, subst, inl, inr, arith, eq-eqb, ne_eqb}
use Rattle.std.proofs.lemmas.Bool.{cases_eq, both_ways}
use Rattle.wave_gen.specs.Listing.{of_wave, waves_from, index_of}
use Rattle.wave_gen.proofs.OfGraphs.Sorted.{of_in, from_in, from_has, from_sorted, Before, Sorted, nth_in}
use Rattle.wave_gen.proofs.OfGraphs.Sorted.{index_nth, index_is, sorted_less}
use Rattle.ws_words.specs.Items.{nth, In}
use Rattle.ws_words.proofs.Options.{some_same}

-- the first block of wave k, before the others
pub record HeadIs (n : ℕ) (waves : ℕ → ℕ) (firsts : ℕ → Bool) (k : ℕ) : Type 0 where
  pub block : ℕ
  pub there : block < n
  pub wave : waves block ≡ k
  pub first : firsts block ≡ true
  pub others : (c : ℕ) → c < n → waves c ≡ k → (c ≡ block) ⊎ ((block < c) × (firsts c ≡ false))

-- each of n blocks lies in one of m waves, and each wave has its first block
pub record Waving (n : ℕ) (waves : ℕ → ℕ) (firsts : ℕ → Bool) (m : ℕ) : Type 0 where
  pub lies : (b : ℕ) → b < n → (1 ≤ waves b) × (waves b ≤ m)
  pub heads : (k : ℕ) → 1 ≤ k → k ≤ m → HeadIs n waves firsts k

-- block c behind one of wave w
abbrev pub Step : (ℕ → ℕ) → (ℕ → Bool) → ℕ → ℕ → Type 0
Step waves firsts w c = ((firsts c ≡ true) × (waves c ≡ suc w)) ⊎ ((firsts c ≡ false) × (waves c ≡ w))

abbrev pub Chain : (ℕ → ℕ) → (ℕ → Bool) → ℕ → List ℕ → Type 0
Chain waves firsts w [] = Unit {0}
Chain waves firsts w (c ∷ cs) = Step waves firsts w c × Chain waves firsts (waves c) cs

rest_chain : (waves : ℕ → ℕ) (firsts : ℕ → Bool) (w : ℕ) (xs ys : List ℕ)
    → ((c : ℕ) → In c xs → (firsts c ≡ false) × (waves c ≡ w)) → Chain waves firsts w ys
    → Chain waves firsts w (xs ++ ys)
rest_chain waves firsts w [] ys f h = h
rest_chain waves firsts w (x ∷ xs) ys f h =
    grind (arith, rest_chain waves firsts w xs ys (λ c i. f c (inr i)) h)

wave_chain : (n : ℕ) (waves : ℕ → ℕ) (firsts : ℕ → Bool) (w b l : ℕ) (ys : List ℕ)
    (h : HeadIs n waves firsts (suc w)) → b ≤ h.block → b + l ≡ n → Chain waves firsts (suc w) ys
    → Chain waves firsts w (of_wave waves (suc w) b l ++ ys)
wave_chain n waves firsts w b zero ys h u e t = grind arith
wave_chain n waves firsts w b (suc l) ys h u e t = go (cases_eq h.block b)
    (wave_chain n waves firsts w (suc b) l ys h)
  where
    rest : (c : ℕ) → h.block ≡ b → In c (of_wave waves (suc w) (suc b) l)
        → (firsts c ≡ false) × (waves c ≡ suc w)
    rest c f i =
        let r = of_in waves (suc w) (suc b) l c i in let r0 : suc b ≤ c = r.0 in let r1 : c < suc b + l =
        r.1 in
        elim (h.others c (omega arith) r.2) [
          | inl g ↦ absurd (omega arith)
          | inr g ↦
              (g.1, r.2)
        ]

    go : (h.block ≡ b) ⊎ (h.block ≡ b → ⊥) → (suc b ≤ h.block → suc b + l ≡ n → Chain waves firsts (suc w) ys
        → Chain waves firsts w (of_wave waves (suc w) (suc b) l ++ ys))
        → Chain waves firsts w (of_wave waves (suc w) b (suc l) ++ ys)
    go (inl f) ih =
        let wb : waves b ≡ suc w = ap waves (sym f) ∙ h.wave in
        let fb : firsts b ≡ true = ap firsts (sym f) ∙ h.first in
        let r : Chain waves firsts (waves b) (of_wave waves (suc w) (suc b) l ++ ys) =
        subst (λ z. Chain waves firsts z (of_wave waves (suc w) (suc b) l ++ ys)) (sym wb)
        (rest_chain waves firsts (suc w) (of_wave waves (suc w) (suc b) l) ys (λ c i. rest c f i) t) in
        rw (eq-eqb (waves b) (suc w) wb) (inl (fb, wb), r)
    go (inr d) ih =
        let wn : waves b ≡ suc w → ⊥ =
        λ f. (elim (h.others b (let m : h.block < n = h.there in omega (arith, m, u)) f)
        [ inl g ↦ d (sym g) | inr g ↦ (let m : h.block < b = g.0 in omega (arith, m, u)) ]) in
        rw (ne_eqb (waves b) (suc w) wn) (ih (omega (arith, u, d)) (omega (arith, e)) t)

pub waves_chain : (n : ℕ) (waves : ℕ → ℕ) (firsts : ℕ → Bool) (w m : ℕ)
    → ((k : ℕ) → suc w ≤ k → k ≤ w + m → HeadIs n waves firsts k)
    → Chain waves firsts w (waves_from waves n (suc w) m)
waves_chain n waves firsts w zero h = tt
waves_chain n waves firsts w (suc m) h =
    wave_chain n waves firsts w 0 n (waves_from waves n (suc (suc w)) m)
    (h (suc w) (omega arith) (omega arith)) (omega arith) (omega arith)
    (waves_chain n waves firsts (suc w) m (λ k l u. h k (omega (arith, l)) (omega (arith, u))))

pub chain_next : (waves : ℕ → ℕ) (firsts : ℕ → Bool) (w : ℕ) (xs : List ℕ) (i a c : ℕ)
    → Chain waves firsts w xs → nth xs i ≡ Some a → nth xs (suc i) ≡ Some c → Step waves firsts (waves a) c
chain_next waves firsts w [] i a c h e f = absurd (let g : None ≡ Some a = e in cc)
chain_next waves firsts w (x ∷ []) i a c h e f = absurd (let g : None ≡ Some c = f in cc)
chain_next waves firsts w (x ∷ y ∷ xs) zero a c h e f = grind (arith, some_same)
chain_next waves firsts w (x ∷ y ∷ xs) (suc i) a c h e f =
    grind (arith, chain_next waves firsts (waves x) (y ∷ xs) i a c h.1 e f)

-- the list of n blocks of m waves
module _ (n : ℕ) (waves : ℕ → ℕ) (firsts : ℕ → Bool) (m : ℕ) (h : Waving n waves firsts m) where
  abbrev all : List ℕ
  all = waves_from waves n 1 m

  pub listed : (b : ℕ) → b < n → In b all
  listed b l = let r = h.lies b l in let r1 : waves b ≤ m = r.1 in
      from_has waves n 1 m b l r.0 (omega (arith, r1))

  pub listed_there : (i b : ℕ) → nth all i ≡ Some b → b < n
  listed_there i b e = (from_in waves n 1 m b (nth_in all i b e)).0

  pub listed_at : (b : ℕ) → b < n → nth all (index_of all b) ≡ Some b
  listed_at b l = index_nth all b (listed b l)

  pub listed_once : (i b : ℕ) → nth all i ≡ Some b → index_of all b ≡ i
  listed_once i b e = index_is waves all i b (from_sorted waves n 1 m) e

  pub listed_later : (b c : ℕ) → b < n → c < n → waves b ≡ waves c → b < c → index_of all b < index_of all c
  listed_later b c l u e v = sorted_less waves all (index_of all b) (index_of all c) b c
      (from_sorted waves n 1 m) (listed_at b l) (listed_at c u) (inr (e, v))

  pub listed_step : (i a c : ℕ) → nth all i ≡ Some a → nth all (suc i) ≡ Some c
      → Step waves firsts (waves a) c
  listed_step i a c e f = chain_next waves firsts 0 all i a c
      (waves_chain n waves firsts 0 m (λ k l u. h.heads k l (omega (arith, u)))) e f

  -- the first block of the first wave is listed first
  pub listed_first : (b : ℕ) → b < n → waves b ≡ 1 → firsts b ≡ true → index_of all b ≡ 0
  listed_first b l e f =
      elim (cases_eq (index_of all b) 0) [
        | inl z ↦ z
        | inr z ↦
            absurd (go (some_before (index_of all b) z) (listed_at b l))
      ]
    where
      some_before : (i : ℕ) → (i ≡ 0 → ⊥) → (j : ℕ) × (i ≡ suc j)
      some_before zero z = absurd (z refl)
      some_before (suc j) z = (j, refl)

      head_of : (x : ℕ) → x < n → (waves x < 1) ⊎ ((waves x ≡ 1) ⊎ (1 < waves x)) → Before waves x b → ⊥
      head_of x u (inl v) q = let p : 1 ≤ waves x = (h.lies x u).0 in omega (arith, p, v)
      head_of x u (inr (inr v)) q = grind arith
      head_of x u (inr (inl v)) q =
          let k : 1 ≤ m = grind (arith, h.lies) in
          let hd = h.heads 1 (omega arith) k in
          elim (hd.others b l e) [
            | inr g ↦ both_ways (firsts b) g.1 f
            | inl g ↦ elim (hd.others x u v) [
              | inl i ↦ elim q [
                | inl w ↦ omega (arith, w, v, e)
                | inr w ↦
                    (let w1 : x < b = w.1 in omega (arith, w1, i, g))
              ]
              | inr i ↦ elim q [
                | inl w ↦ omega (arith, w, v, e)
                | inr w ↦
                    (let w1 : x < b = w.1 in let i0 : hd.block < x = i.0 in omega (arith, w1, i0, g))
              ]
            ]
          ]

      first_before : (j : ℕ) (xs : List ℕ) → Sorted waves xs → nth xs (suc j) ≡ Some b
          → (x : ℕ) × (nth xs 0 ≡ Some x) × Before waves x b
      first_before j [] s e = absurd (let g : None ≡ Some b = e in cc)
      first_before j (x ∷ xs) s e = (x, refl, s.0 b (nth_in xs j b e))

      tri : (p : ℕ) → (p < 1) ⊎ ((p ≡ 1) ⊎ (1 < p))
      tri zero = inl (omega arith)
      tri (suc zero) = inr (inl refl)
      tri (suc (suc p)) = inr (inr (omega arith))

      go : (j : ℕ) × (index_of all b ≡ suc j) → nth all (index_of all b) ≡ Some b → ⊥
      go (j, f) g =
          let r = first_before j all (from_sorted waves n 1 m) (ap (nth all) (sym f) ∙ g) in
          head_of r.0 (listed_there 0 r.0 r.1) (tri (waves r.0)) r.2
