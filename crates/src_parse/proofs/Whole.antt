-- What exactness and completeness together say of a whole text.
use Rattle.std.proofs.Common.{arith, sym, ◌∙◌, ap, subst, append_assoc, append-nil}
use Rattle.std.specs.Prelude.{◌≡◌, List, [], ◌∷◌, ◌++◌, refl}
use Rattle.src_ast.specs.declared.lexeme.Lexeme.{Lexeme}
use Rattle.src_parse.specs.Reading.{Reading, Reader, Done, Stuck}
use Rattle.src_parse.proofs.Exact.{ExactAt}
use Rattle.src_parse.proofs.Ready.{Ready}

-- some phrase begins so
abbrev pub Begins : {A : Type 0} → (List Lexeme → A → Type 0) → List Lexeme → Type 0
Begins {A} L ls = (more : List Lexeme) × (a : A) × L (ls ++ more) a

-- the first lexeme that no phrase continues
pub record Stops_at {A : Type 0} (L : List Lexeme → A → Type 0) (input : List Lexeme) (l : Lexeme)
    (following : List Lexeme) : Type 0 where
  pub front : List Lexeme
  pub is : input ≡ front ++ (l ∷ following)
  pub begins : Begins L front
  pub no_more : Begins L (front ++ (l ∷ [])) → ⊥

-- what is read to the end is spelled
pub whole_found : {A : Type 0} (L : List Lexeme → A → Type 0) (P : Reader A) → Ready L P
    → (input : List Lexeme) (a : A) → P input ≡ Done a [] → L input a
whole_found L P g input a e =
    let h = subst (ExactAt L P input) e (g.exact input) in
    subst (λ x. L x a) (sym (h.is ∙ append-nil h.front)) h.spelled

-- where a reader is stuck, no phrase goes on
pub whole_place : {A : Type 0} (L : List Lexeme → A → Type 0) (P : Reader A) → Ready L P
    → ((ws : List Lexeme) (a : A) → L ws a → P ws ≡ Done a [])
    → (input : List Lexeme) (l : Lexeme) (following : List Lexeme) → P input ≡ Stuck (l ∷ following)
    → Stops_at L input l following
whole_place {A} L P g complete input l following e =
    let h = subst (ExactAt L P input) e (g.exact input) in
    record {
      front = h.front;
      is = h.is;
      begins = (h.more, h.tree, h.spelled);
      no_more = λ b.
          let found : P (h.front ++ (l ∷ b.0)) ≡ Done b.1 [] = ap P (sym (append_assoc h.front (l ∷ []) b.0))
          ∙ complete ((h.front ++ (l ∷ [])) ++ b.0) b.1 b.2 in
          let stuck : P (h.front ++ (l ∷ b.0)) ≡ Stuck (l ∷ b.0) = h.local (l ∷ b.0) refl in
          let bad : (Reading.Done b.1 []) ≡ Stuck (l ∷ b.0) = sym found ∙ stuck in cc;
    }

-- where a reader is stuck at the end, only a rest is missing
pub whole_end : {A : Type 0} (L : List Lexeme → A → Type 0) (P : Reader A) → Ready L P
    → ((ws : List Lexeme) (a : A) → L ws a → P ws ≡ Done a [])
    → (input : List Lexeme) → P input ≡ Stuck [] → Begins L input × ((a : A) → L input a → ⊥)
whole_end L P g complete input e = grind (arith, g.exact, append-nil)

-- a text has at most one tree
pub whole_one : {A : Type 0} (L : List Lexeme → A → Type 0) (P : Reader A)
    → ((ws : List Lexeme) (a : A) → L ws a → P ws ≡ Done a [])
    → (ws : List Lexeme) (a b : A) → L ws a → L ws b → a ≡ b
whole_one L P complete ws a b x y = grind arith
