-- Which names the items of terms read.
use Rattle.std.proofs.Common.{ℕ, zero, suc, ◌≡◌, ◌<◌, ◌≤◌, ◌⊎◌, List, [], ◌∷◌, ◌++◌, refl, inl, inr, arith}
use Rattle.ws_isa.specs.declared.instr.Op.{Op}
use Rattle.ws_isa.specs.declared.instr.Op.TheVariants.{Const, Alu, Load}
use Rattle.ws_words.specs.declared.alu.Alu.TheVariants.{Sub, Eq}
use Rattle.cfg_core.specs.Graph.{Term, Number, Var, Cell, Flip, Not, Neg, Binary}
use Rattle.live_vars.specs.Live.{Mentions}
use Rattle.wave_gen.specs.Wire.{Item, Make, Act, Same}
use Rattle.wave_gen.specs.Plans.{pulse}
use Rattle.wave_gen.proofs.Planning.Planned.{Reads}
use Rattle.wave_gen.specs.Gen.{Got, then_make, got, top_word, gen_term}
use Rattle.ws_words.specs.Items.{In}

-- the pulse, or a variable with this property
abbrev pub Ground : (ℕ → Type 0) → ℕ → Type 0
Ground R x = (x ≡ pulse) ⊎ ((y : ℕ) × (x ≡ suc y) × R y)

pub ground_more : (R S : ℕ → Type 0) (x : ℕ) → ((y : ℕ) → R y → S y) → Ground R x → Ground S x
ground_more R S x f h = grind arith

-- none of the names from k up to n
abbrev pub Beyond : ℕ → ℕ → ℕ → Type 0
Beyond k n x = k ≤ x → n ≤ x

pub reads_append : (is js : List Item) (P : ℕ → Type 0) (x : ℕ) → Reads (is ++ js) P x
    → Reads is (Reads js P) x
reads_append [] js P x h = h
reads_append (Make y op from ∷ is) js P x (inl h) = inl h
reads_append (Make y op from ∷ is) js P x (inr h) = inr (h.0, reads_append is js P x h.1)
reads_append (Act op from ∷ is) js P x (inl h) = inl h
reads_append (Act op from ∷ is) js P x (inr h) = inr (reads_append is js P x h)
reads_append (Same y z ∷ is) js P x (inl h) = inl h
reads_append (Same y z ∷ is) js P x (inr h) = inr (h.0, reads_append is js P x h.1)

pub next_after : (t : Term) (k : ℕ) → k ≤ (gen_term k t).next
next_after (Cell a t) k = grind (arith, next_after t k)
next_after (Flip t) k = grind (arith, next_after t k)
next_after (Not t) k = grind (arith, next_after t k)
next_after (Neg t) k = grind (arith, next_after t k)
next_after (Binary op a b) k =
    let g = gen_term k a in grind (arith, g.next, next_after a k, next_after b g.next)
next_after t k = grind arith

-- a term's value has a name of its own, or that of the pulse or of a variable
pub named : (t : Term) (k : ℕ) → Ground (Mentions t) (gen_term k t).name
    ⊎ ((k ≤ (gen_term k t).name) × ((gen_term k t).name < (gen_term k t).next))
named (Number zero) k = inl (inl refl)
named (Number (suc n)) k = inr (omega arith, omega arith)
named (Var x) k = inl (inr (x, refl, refl))
named (Cell a t) k = grind (arith, next_after)
named (Flip t) k = grind (arith, next_after)
named (Not t) k = grind (arith, next_after)
named (Neg t) k = grind (arith, next_after)
named (Binary op a b) k = grind (arith, next_after)

-- the name is none of those that the term's items make, so it is the pulse's or a variable's
pub from_term : (t : Term) (k x : ℕ) → x ≡ (gen_term k t).name → Beyond k (gen_term k t).next x
    → Ground (Mentions t) x
from_term t k x e out = grind (arith, named)

-- one more instruction
made : (g : Got) (k : ℕ) (R P : ℕ → Type 0) (op : Op) (from : List ℕ) (x : ℕ)
    → (In x from → Beyond k g.next x → Ground R x) →
    (Reads g.items (Reads (Make g.next op from ∷ []) P) x
    → Ground R x ⊎ (Reads (Make g.next op from ∷ []) P x × Beyond k g.next x)) →
    Reads (then_make g (λ n. Make n op from)).items P x → Ground R x ⊎ (P x × Beyond k (suc g.next) x)
made g k R P op from x f ih h = grind (arith, reads_append)

pub term_reads : (t : Term) (k : ℕ) (P : ℕ → Type 0) (x : ℕ) → Reads (gen_term k t).items P x
    → Ground (Mentions t) x ⊎ (P x × Beyond k (gen_term k t).next x)
term_reads (Cell a t) k P x h = let g = gen_term k t in
    made g k (Mentions t) P (Load a) (g.name ∷ []) x
    (λ i out. elim i [ inl e ↦ from_term t k x e out | inr b ↦ absurd b ])
    (grind (arith, g.next, term_reads t k (Reads (Make g.next (Load a) (g.name ∷ []) ∷ []) P) x)) h
term_reads (Flip t) k P x h = let g = gen_term k t in let g' =
    then_make g (λ n. Make n (Const top_word) (g.name ∷ [])) in
    made g' k (Mentions t) P (Alu Sub) (g.next ∷ g.name ∷ []) x
    (λ i out. elim i [
      | inl e ↦ absurd (let l : k ≤ g.next = next_after t k in let o : suc g.next ≤ x =
          out (omega arith) in omega arith)
      | inr j ↦ elim j [
        | inl e ↦ from_term t k x e (λ l. (let o : suc g.next ≤ x = out l in omega arith))
        | inr b ↦ absurd b
      ]
    ])
    (made g k (Mentions t) (Reads (Make (suc g.next) (Alu Sub) (g.next ∷ g.name ∷ []) ∷ []) P)
    (Const top_word) (g.name ∷ []) x (λ i out. elim i [
      | inl e ↦ from_term t k x e out
      | inr b ↦
          absurd b
    ])
    (term_reads t k (Reads (Make g.next (Const top_word) (g.name ∷ []) ∷ [])
    (Reads (Make (suc g.next) (Alu Sub) (g.next ∷ g.name ∷ []) ∷ []) P)) x))
    h
term_reads (Not t) k P x h = let g = gen_term k t in
    made g k (Mentions t) P (Alu Eq) (g.name ∷ pulse ∷ []) x
    (λ i out. elim i [
      | inl e ↦ from_term t k x e out
      | inr j ↦ elim j [ inl e ↦ inl e | inr b ↦ absurd b ]
    ])
    (grind (arith, g.next, term_reads t k (Reads (Make g.next (Alu Eq) (g.name ∷ pulse ∷ []) ∷ []) P) x)) h
term_reads (Neg t) k P x h = let g = gen_term k t in
    made g k (Mentions t) P (Alu Sub) (pulse ∷ g.name ∷ []) x
    (λ i out. elim i [
      | inl e ↦ inl e
      | inr j ↦ elim j [ inl e ↦ from_term t k x e out | inr b ↦ absurd b ]
    ])
    (grind (arith, g.next, term_reads t k (Reads (Make g.next (Alu Sub) (pulse ∷ g.name ∷ []) ∷ []) P) x)) h
term_reads (Binary op a b) k P x h = let g = gen_term k a in let m = gen_term g.next b in
    made (got (g.items ++ m.items) m.name m.next) k (Mentions (Binary op a b)) P (Alu op)
    (g.name ∷ m.name ∷ []) x
    (λ i out. elim i [
      | inl e ↦ ground_more (Mentions a) (Mentions (Binary op a b)) x (λ y r. inl r) (elim (named a k) [
        | inl r ↦ rw e r
        | inr l ↦ absurd (let u : g.next ≤ m.next = next_after b g.next in let l0 : k ≤ g.name = l.0 in
            let l1 : g.name < g.next = l.1 in let o : m.next ≤ x = out (omega arith) in
            omega arith)
      ])
      | inr j ↦ elim j [
        | inl e ↦ ground_more (Mentions b) (Mentions (Binary op a b)) x (λ y r. inr r)
            (from_term b g.next x e (λ l. (let u : k ≤ g.next = next_after a k in out (omega arith))))
        | inr z ↦ absurd z
      ]
    ])
    (λ r. two_reads a b k (Reads (Make m.next (Alu op) (g.name ∷ m.name ∷ []) ∷ []) P) x
    (term_reads a k (Reads m.items (Reads (Make m.next (Alu op) (g.name ∷ m.name ∷ []) ∷ []) P)) x)
    (term_reads b g.next (Reads (Make m.next (Alu op) (g.name ∷ m.name ∷ []) ∷ []) P) x) r)
    h
  where
    two_reads : (a b : Term) (k : ℕ) (Q : ℕ → Type 0) (x : ℕ) →
        (Reads (gen_term k a).items (Reads (gen_term (gen_term k a).next b).items Q) x
        → Ground (Mentions a) x ⊎ (Reads (gen_term (gen_term k a).next b).items Q x
        × Beyond k (gen_term k a).next x)) →
        (Reads (gen_term (gen_term k a).next b).items Q x → Ground (Mentions b) x
        ⊎ (Q x × Beyond (gen_term k a).next (gen_term (gen_term k a).next b).next x)) →
        Reads ((gen_term k a).items ++ (gen_term (gen_term k a).next b).items) Q x →
        Ground (λ y. Mentions a y ⊎ Mentions b y) x ⊎ (Q x × Beyond k (gen_term (gen_term k a).next b).next x)
    two_reads a b k Q x ia ib r = grind (arith, reads_append, ground_more)
term_reads t k P x h = grind arith
