-- A reader that is exact for a set of phrases, of which there is one.
use Rattle.std.specs.Prelude.{◌≡◌, ℕ, zero, suc, ◌+◌, ◌-◌, List, [], ◌∷◌, ◌++◌, length, refl}
use Rattle.std.proofs.Common.{sym, ◌∙◌, ap, subst, append_assoc, arith, length-append, take, zero-add}
use Rattle.std.proofs.Common.{suc-add}
use Rattle.std.proofs.Math.Seq.{take-append_seam}
use Rattle.src_ast.specs.declared.lexeme.Lexeme.{Lexeme}
use Rattle.src_ast.specs.declared.lexeme.Shape.TheVariants as shape
use Rattle.src_ast.specs.declared.lexeme.Mark.{Mark}
use Rattle.src_ast.specs.Syntax.{Number}
use Rattle.src_ast.specs.Grammar.{Spelled, number}
use Rattle.src_parse.specs.Expressions.{expression_in, expression_at}
use Rattle.src_parse.specs.Reading.{Reading, Reader, Done, Stuck, ◌|>◌, expect}
use Rattle.src_parse.proofs.Exact.{Exact, ExactAt, Good, head, head-nil, head-cons, head-following}
use Rattle.src_parse.proofs.Exact.{exact_always}
use Rattle.src_parse.proofs.Tokens.{Alone, exact_expect, lexeme_with}
use Rattle.src_parse.proofs.Expressions.{exact_expression}
use Rattle.src_parse.proofs.Steady.{Alike, alike_expression_at}

-- a reader of a phrase that some lexemes spell, exact on any input
pub record Ready {A : Type 0} (L : List Lexeme → A → Type 0) (P : Reader A) : Type 0 where
  pub phrase : List Lexeme
  pub tree : A
  pub spelled : L phrase tree
  pub exact : (x : List Lexeme) → Exact L P x

-- one reader after another, where what is spelled after a phrase is what makes the whole
next_after : {A B : Type 0} (L : List Lexeme → A → Type 0) (N : List Lexeme → B → Type 0)
    (P : Reader A) (Q : A → Reader B) (input : List Lexeme) (a : A) (rest : List Lexeme)
    → (g : Good L P input a rest)
    → (y : Reading B) → ExactAt (λ vs b. N (g.front ++ vs) b) (Q a) rest y → ExactAt N (λ i. P i |> Q) input y
next_after L N P Q input a rest g (Done b rest') h =
    grind (arith, append_assoc, g.front, h.front, g.local, head-following, h.local)
next_after L N P Q input a rest g (Stuck rest') h = record {
  front = g.front ++ h.front;
  is = grind (arith, append_assoc, g.front, h.front);
  more = h.more;
  tree = h.tree;
  spelled = rw append_assoc h.spelled;
  local = grind (arith, append_assoc, g.local, head-following, h.front, h.local);
}

next_at : {A B : Type 0} (L : List Lexeme → A → Type 0) (N : List Lexeme → B → Type 0) (P : Reader A)
    (Q : A → Reader B) (input : List Lexeme)
    → ((us : List Lexeme) (a : A) → L us a → Ready (λ vs b. N (us ++ vs) b) (Q a))
    → (x : Reading A) → ExactAt L P input x → P input ≡ x → ExactAt N (λ i. P i |> Q) input (x |> Q)
next_at L N P Q input q (Done a rest) g e = next_after L N P Q input a rest g (Q a rest)
    ((q g.front a g.spelled).exact rest)
next_at L N P Q input q (Stuck rest) g e = grind (arith, append_assoc, g.front, g.more, g.local)

-- a reader after another
pub ready_next : {A B : Type 0} (L : List Lexeme → A → Type 0) (N : List Lexeme → B → Type 0) (P : Reader A)
    (Q : A → Reader B)
    → Ready L P → ((us : List Lexeme) (a : A) → L us a → Ready (λ vs b. N (us ++ vs) b) (Q a))
    → Ready N (λ i. P i |> Q)
ready_next L N P Q p q =
    let f = q p.phrase p.tree p.spelled in
    record {
      phrase = p.phrase ++ f.phrase;
      tree = f.tree;
      spelled = f.spelled;
      exact = λ x. next_at L N P Q x q (P x) (p.exact x) refl;
    }

-- a reader of nothing
pub ready_done : {A : Type 0} (L : List Lexeme → A → Type 0) (a : A) → L [] a → Ready L (Done a)
ready_done L a h = grind (arith, exact_always)

-- a mark
pub ready_token : (m : Mark) → Ready (Alone m) (expect m)
ready_token m = record {
  phrase = lexeme_with (shape.Mark m) ∷ [];
  tree = tt;
  spelled = record { lexeme = lexeme_with (shape.Mark m); one = refl; mark = refl };
  exact = exact_expect m;
}

-- readers that see the same next lexeme go alike
same_head_at : {A : Type 0} (L : List Lexeme → A → Type 0) (P Q : Reader A) (input : List Lexeme)
    → ((x : List Lexeme) → head x ≡ head input → P x ≡ Q x)
    → (y : Reading A) → ExactAt L Q input y → ExactAt L P input y
same_head_at L P Q input e (Done a rest) g = grind (arith, head-following, g.front, g.local)
same_head_at L P Q input e (Stuck rest) g = grind (arith, head-following, g.front, g.local)

pub exact_same_head : {A : Type 0} (L : List Lexeme → A → Type 0) (P Q : Reader A) (input : List Lexeme)
    → ((x : List Lexeme) → head x ≡ head input → P x ≡ Q x)
    → Exact L Q input → Exact L P input
exact_same_head L P Q input e g = grind (arith, same_head_at)

cancel : (xs ys zs : List Lexeme) → xs ++ zs ≡ ys ++ zs → xs ≡ ys
cancel xs ys zs e =
    let n : length xs ≡ length ys = omega (arith, length-append xs zs, length-append ys zs, ap length e) in
    sym (take-append_seam xs zs) ∙ ap (λ k. take k (xs ++ zs)) n ∙ ap (take (length ys)) e
    ∙ take-append_seam ys zs

-- a reader without a bound, from readers with every bound
unbounded_at : {A : Type 0} (L : List Lexeme → A → Type 0) (R : ℕ → Reader A) (P : Reader A)
    → ((k : ℕ) (x : List Lexeme) → Exact L (R k) x) → ((k : ℕ) → Alike k (R k) P)
    → (input : List Lexeme) (y : Reading A) → P input ≡ y → ExactAt L (R (length input + 1)) input y
    → ExactAt L P input y
unbounded_at L R P g e input (Done a rest) q h = record {
  front = h.front;
  is = h.is;
  spelled = h.spelled;
  local = λ c s.
      let k = length input + length (h.front ++ c) + 1 in
      let g' = subst (ExactAt L (R k) input) (e k input (omega arith) ∙ q) (g k input) in
      let same : g'.front ≡ h.front = cancel g'.front h.front rest (sym g'.is ∙ h.is) in
      sym (e k (h.front ++ c) (omega arith)) ∙ ap (λ f. R k (f ++ c)) (sym same) ∙ g'.local c s;
}
unbounded_at L R P g e input (Stuck rest) q h = record {
  front = h.front;
  is = h.is;
  more = h.more;
  tree = h.tree;
  spelled = h.spelled;
  local = λ c s.
      let k = length input + length (h.front ++ c) + 1 in
      let g' = subst (ExactAt L (R k) input) (e k input (omega arith) ∙ q) (g k input) in
      let same : g'.front ≡ h.front = cancel g'.front h.front rest (sym g'.is ∙ h.is) in
      sym (e k (h.front ++ c) (omega arith)) ∙ ap (λ f. R k (f ++ c)) (sym same) ∙ g'.local c s;
}

-- a reader with fuel enough is exact
pub exact_unbounded : {A : Type 0} (L : List Lexeme → A → Type 0) (R : ℕ → Reader A) (P : Reader A)
    → ((k : ℕ) (x : List Lexeme) → Exact L (R k) x) → ((k : ℕ) → Alike k (R k) P)
    → (input : List Lexeme) → Exact L P input
exact_unbounded L R P g e input =
    unbounded_at L R P g e input (P input) refl (subst (ExactAt L (R (length input + 1)) input)
    (e (length input + 1) input (omega arith)) (g (length input + 1) input))

-- an expression
pub ready_expression : Ready (Spelled 0) (expression_at 0)
ready_expression = record {
  phrase = lexeme_with (shape.Number 0) ∷ [];
  tree = Number 0;
  spelled = number (lexeme_with (shape.Number 0)) 0 refl;
  exact = exact_unbounded (Spelled 0) (λ k. expression_in k 0) (expression_at 0)
      (λ k. exact_expression k 0 (omega arith)) (λ k. alike_expression_at k 0);
}

-- the same reader for a larger set of phrases
as_at : {A : Type 0} (L M : List Lexeme → A → Type 0) (P : Reader A)
    → ((us : List Lexeme) (a : A) → L us a → M us a)
    → (input : List Lexeme) (x : Reading A) → ExactAt L P input x → ExactAt M P input x
as_at L M P h input (Done a rest) g = grind (arith, g.front)
as_at L M P h input (Stuck rest) g = grind arith

-- the same reader of another phrase
pub ready_as : {A : Type 0} (L M : List Lexeme → A → Type 0) (P : Reader A)
    → ((us : List Lexeme) (a : A) → L us a → M us a) → Ready L P → Ready M P
ready_as L M P h g = grind (arith, as_at, g.exact)

-- a bound that is high enough is as good as any
enough : {A : Type 0} (R : ℕ → Reader A) → ((k : ℕ) → Alike k (R (suc k)) (R k)) → (d : ℕ) (x : List Lexeme)
    → R (d + suc (length x)) x ≡ R (suc (length x)) x
enough R s zero x = rw zero-add refl
enough R s (suc d) x = grind (arith, suc-add, enough R s d x)

-- fuel enough is enough
pub alike_unbounded : {A : Type 0} (R : ℕ → Reader A) → ((k : ℕ) → Alike k (R (suc k)) (R k)) → (k : ℕ)
    → Alike k (R k) (λ x. R (suc (length x)) x)
alike_unbounded R s k x lt = let e : k ≡ (k - suc (length x)) + suc (length x) = omega arith in
    ap (λ n. R n x) e ∙ enough R s (k - suc (length x)) x

-- readers that agree at the end
pub exact_as_end : {A : Type 0} (L : List Lexeme → A → Type 0) (P Q : Reader A) → P [] ≡ Q [] → Exact L Q []
    → Exact L P []
exact_as_end L P Q e g = exact_same_head L P Q [] (λ x s. subst (λ x. P x ≡ Q x) (sym (head-nil x s)) e) g

-- readers that agree before a lexeme
pub exact_as_cons : {A : Type 0} (L : List Lexeme → A → Type 0) (P Q : Reader A) (l : Lexeme)
    (ls : List Lexeme) → ((x : List Lexeme) → P (l ∷ x) ≡ Q (l ∷ x)) → Exact L Q (l ∷ ls) → Exact L P (l ∷ ls)
exact_as_cons L P Q l ls e g = exact_same_head L P Q (l ∷ ls) (grind (arith, head-cons)) g
