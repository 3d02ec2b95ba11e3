-- Which names the items of sources and lists of terms read.
use Rattle.std.proofs.Common.{ℕ, zero, suc, ◌≡◌, ◌<◌, ◌≤◌, ◌⊎◌, List, [], ◌∷◌, refl, inl, inr, arith}
use Rattle.ws_isa.specs.declared.instr.Op.TheVariants.{Const}
use Rattle.cfg_core.specs.Graph.{Term, Number, Var, Cell, Flip, Not, Neg, Binary}
use Rattle.live_vars.specs.Live.{Mentions, OneMentions}
use Rattle.wave_gen.specs.Wire.{Make, Same}
use Rattle.wave_gen.specs.Plans.{pulse}
use Rattle.wave_gen.proofs.Planning.Planned.{Reads, Apart, AllBelow}
use Rattle.wave_gen.specs.Gen.{top_word, gen_term}
use Rattle.wave_gen.specs.Drawn.{gen_source, gen_terms}
use Rattle.wave_gen.proofs.OfItems.ReadTerms.{Ground, ground_more, Beyond, reads_append, next_after}
use Rattle.wave_gen.proofs.OfItems.ReadTerms.{from_term, term_reads}
use Rattle.ws_words.specs.Items.{In}

-- what is behind a source reads its operands, or Q says that it reads x
abbrev pub Behind : List ℕ → (ℕ → Type 0) → ℕ → Type 0
Behind from Q x = In x from ⊎ Q x

pub source_next : (t : Term) (k : ℕ) → k ≤ (gen_source k t).next
source_next t k = grind (arith, next_after)

-- items of one term, and operands that are its name or names with R
one : (t : Term) (k : ℕ) (from : List ℕ) (Q : ℕ → Type 0) (x : ℕ)
    → (In x from → (x ≡ (gen_term k t).name) ⊎ (x ≡ pulse)) → Reads (gen_term k t).items (Behind from Q) x
    → Ground (Mentions t) x ⊎ Q x
one t k from Q x f h = grind (arith, term_reads, from_term)

-- what a source and its operands read is the pulse or the term's, or it is read behind
pub source_reads : (t : Term) (k : ℕ) (Q : ℕ → Type 0) (x : ℕ) → Reads (gen_source k t).items
    (Behind (gen_source k t).from Q) x → Ground (Mentions t) x ⊎ Q x
source_reads (Number zero) k Q x (inl (inl e)) = inl (inl e)
source_reads (Number zero) k Q x (inl (inr b)) = absurd b
source_reads (Number zero) k Q x (inr q) = inr q
source_reads (Number (suc n)) k Q x (inl (inl e)) = inl (inl e)
source_reads (Number (suc n)) k Q x (inl (inr b)) = absurd b
source_reads (Number (suc n)) k Q x (inr q) = inr q
source_reads (Var y) k Q x (inl (inl e)) = inl (inr (y, e, refl))
source_reads (Var y) k Q x (inl (inr b)) = absurd b
source_reads (Var y) k Q x (inr q) = inr q
source_reads (Cell a t) k Q x h = grind (arith, one)
source_reads (Not t) k Q x h = grind (arith, one)
source_reads (Neg t) k Q x h = grind (arith, one)
source_reads (Flip t) k Q x h = let g = gen_term k t in
    elim (term_reads t k (Reads (Make g.next (Const top_word) (g.name ∷ []) ∷ [])
    (Behind (g.next ∷ g.name ∷ []) Q)) x
    (reads_append g.items (Make g.next (Const top_word) (g.name ∷ []) ∷ []) (Behind (g.next ∷ g.name ∷ []) Q)
    x h)) [
      | inl r ↦ inl r
      | inr q ↦ elim q.0 [
        | inl i ↦ elim i [ inl e ↦ inl (from_term t k x e q.1) | inr b ↦ absurd b ]
        | inr w ↦ elim w.1 [
          | inl i ↦
              elim i [
                | inl e ↦ absurd (w.0 e)
                | inr j ↦ elim j [
                  | inl e ↦ inl (from_term t k x e q.1)
                  | inr b ↦
                      absurd b
                ]
              ]
          | inr z ↦ inr z
        ]
      ]
    ]
source_reads (Binary op a b) k Q x h = let g = gen_term k a in let m = gen_term g.next b in
    elim (term_reads a k (Reads m.items (Behind (g.name ∷ m.name ∷ []) Q)) x
    (reads_append g.items m.items (Behind (g.name ∷ m.name ∷ []) Q) x h)) [
      | inl r ↦ inl (ground_more (Mentions a) (Mentions (Binary op a b)) x (λ y w. inl w) r)
      | inr q ↦ elim (term_reads b g.next (Behind (g.name ∷ m.name ∷ []) Q) x q.0) [
        | inl r ↦ inl (ground_more (Mentions b) (Mentions (Binary op a b)) x (λ y w. inr w) r)
        | inr p ↦ elim p.0 [
          | inl i ↦ elim i [
            | inl e ↦
                inl (ground_more (Mentions a) (Mentions (Binary op a b)) x (λ y w. inl w)
                (from_term a k x e q.1))
            | inr j ↦
                elim j [
                  | inl e ↦
                      inl (ground_more (Mentions b) (Mentions (Binary op a b)) x (λ y w. inr w)
                      (from_term b g.next x e p.1))
                  | inr z ↦ absurd z
                ]
          ]
          | inr z ↦ inr z
        ]
      ]
    ]

-- values with names of their own
pub many_next : (ts : List Term) (k : ℕ) → k ≤ (gen_terms k ts).next
many_next [] k = omega arith
many_next (t ∷ ts) k = grind (arith, next_after, many_next ts (suc (gen_term k t).next))

pub many_named : (ts : List Term) (k x : ℕ) → In x (gen_terms k ts).names
    → (k ≤ x) × (x < (gen_terms k ts).next)
many_named [] k x i = absurd i
many_named (t ∷ ts) k x (inl e) = grind (arith, next_after, many_next)
many_named (t ∷ ts) k x (inr i) = grind (arith, next_after, many_named ts (suc (gen_term k t).next) x i)

pub many_apart : (ts : List Term) (k : ℕ) → Apart (gen_terms k ts).names
many_apart [] k = tt
many_apart (t ∷ ts) k = (
  (λ i. (let h = many_named ts (suc (gen_term k t).next) (gen_term k t).next i in
      let l : suc (gen_term k t).next ≤ (gen_term k t).next = h.0 in omega (arith, l))),
  many_apart ts (suc (gen_term k t).next),
)

all_below : (z : ℕ) (xs : List ℕ) → ((x : ℕ) → In x xs → x < z) → AllBelow z xs
all_below z [] f = tt
all_below z (x ∷ xs) f = (f x (inl refl), all_below z xs (λ y i. f y (inr i)))

pub many_below : (ts : List Term) (k : ℕ) → AllBelow (gen_terms k ts).next (gen_terms k ts).names
many_below ts k = all_below (gen_terms k ts).next (gen_terms k ts).names (λ x i. (many_named ts k x i).1)

pub many_reads : (ts : List Term) (k : ℕ) (Q : ℕ → Type 0) (x : ℕ) → Reads (gen_terms k ts).items Q x
    → Ground (OneMentions ts) x ⊎ (Q x × Beyond k (gen_terms k ts).next x)
many_reads [] k Q x h = inr (h, λ l. l)
many_reads (t ∷ ts) k Q x h = let g = gen_term k t in let m = gen_terms (suc g.next) ts in
    go (many_reads ts (suc g.next) Q x) (term_reads t k (Reads (Same g.next g.name ∷ m.items) Q) x
    (reads_append g.items (Same g.next g.name ∷ m.items) Q x h))
  where
    go : (Reads (gen_terms (suc (gen_term k t).next) ts).items Q x → Ground (OneMentions ts) x
        ⊎ (Q x × Beyond (suc (gen_term k t).next) (gen_terms (suc (gen_term k t).next) ts).next x)) →
        Ground (Mentions t) x
        ⊎ (Reads (Same (gen_term k t).next (gen_term k t).name
        ∷ (gen_terms (suc (gen_term k t).next) ts).items) Q x × Beyond k (gen_term k t).next x) →
        Ground (OneMentions (t ∷ ts)) x ⊎ (Q x × Beyond k (gen_terms (suc (gen_term k t).next) ts).next x)
    go ih (inl r) = inl (ground_more (Mentions t) (OneMentions (t ∷ ts)) x (λ y w. inl w) r)
    go ih (inr q) = elim q.0 [
      | inl e ↦ inl (ground_more (Mentions t) (OneMentions (t ∷ ts)) x (λ y w. inl w) (from_term t k x e q.1))
      | inr w ↦ elim (ih w.1) [
        | inl r ↦ inl (ground_more (OneMentions ts) (OneMentions (t ∷ ts)) x (λ y v. inr v) r)
        | inr p ↦
            inr (
              p.0,
              λ l. p.1 (let a : (gen_term k t).next ≤ x = q.1 l in let d : x ≡ (gen_term k t).next
                  → ⊥ = w.0 in omega (arith, a, d)),
            )
      ]
    ]
