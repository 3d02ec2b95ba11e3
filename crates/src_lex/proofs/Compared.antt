-- Two readings of one text: they are one, or one goes on where the other stops.
use Rattle.std.specs.Prelude.{◌≡◌, ℕ, suc, true, List, ◌∷◌, ◌++◌, refl}
use Rattle.std.proofs.Common.{arith, sym, ap, ◌∙◌}
use Rattle.std.proofs.lemmas.Bool.{or_right}
use Rattle.src_ast.specs.declared.lexeme.Place.{Place}
use Rattle.src_ast.specs.declared.lexeme.Lexeme.{Lexeme}
use Rattle.src_ast.specs.declared.lexeme.Shape.{Shape}
use Rattle.src_ast.specs.declared.lexeme.Shape.TheVariants as shape
use Rattle.src_ast.specs.Lexemes.{after, Spells, LexesTo}
use Rattle.src_lex.specs.Reads.{ends_gap}
use Rattle.src_lex.proofs.Unique.{gap_same, spelled_same, head_kind, spelled_kind}

-- where a word, a number or a mark may begin, no gap is left
pub kind_ends_gap : (xs : List ℕ) (k : ℕ) → head_kind xs ≡ suc k → ends_gap xs ≡ true
kind_ends_gap xs k h = grind (arith, or_right)

-- no gap is left before a lexeme
pub spelled_ends_gap : (s : Shape) (a b : List ℕ) → Spells s a b → ends_gap (a ++ b) ≡ true
spelled_ends_gap s a b p = grind (arith, kind_ends_gap, spelled_kind)

-- two readings of one text are one, or one goes on with a lexeme where the other stops
pub data Compared (ls : List Lexeme) (p : Place) (r : List ℕ) (ms : List Lexeme) (q : Place)
    (t : List ℕ) : Type 0 where
  same : ls ≡ ms → p ≡ q → r ≡ t → Compared ls p r ms q t
  ahead : (l : Lexeme) (more : List Lexeme) (bytes following : List ℕ) → ls ≡ ms ++ (l ∷ more)
      → t ≡ bytes ++ following → Spells l.shape bytes following → Compared ls p r ms q t
  short : (l : Lexeme) (more : List Lexeme) (bytes following : List ℕ) → ms ≡ ls ++ (l ∷ more)
      → r ≡ bytes ++ following → Spells l.shape bytes following → Compared ls p r ms q t

compared_more : (l m : Lexeme) (ls ms : List Lexeme) (p q : Place) (r t : List ℕ) → l ≡ m
    → Compared ls p r ms q t → Compared (l ∷ ls) p r (m ∷ ms) q t
compared_more l m ls ms p q r t e (Compared.same a b c) = Compared.same (cc) b c
compared_more l m ls ms p q r t e (Compared.ahead n more bytes following a b s) =
    Compared.ahead n more bytes following (cc) b s
compared_more l m ls ms p q r t e (Compared.short n more bytes following a b s) =
    Compared.short n more bytes following (cc) b s

same_lexeme : (l m : Lexeme) → l.shape ≡ m.shape → l.place ≡ m.place → l ≡ m
same_lexeme l m e p = λ i. record { shape = e i; place = p i }

-- any two readings of a text that leave no gap
pub compare : (at : Place) (text : List ℕ) (ls : List Lexeme) (p : Place) (r : List ℕ) (ms : List Lexeme)
    (q : Place) (t : List ℕ)
    → LexesTo at text ls p r → LexesTo at text ms q t → ends_gap r ≡ true → ends_gap t ≡ true
    → Compared ls p r ms q t
compare at text ls p r ms q t (LexesTo.stop gap x g h) (LexesTo.stop gap' x' g' h') k k' =
    let s = gap_same gap gap' r t g g' k k' (sym x ∙ x') in
    Compared.same refl (h ∙ (ap (after at) s.front ∙ sym h')) s.back
compare at text ls p r ms q t (LexesTo.stop gap x g h) (LexesTo.next {ls = more} l gap' bytes far x' g' h' w
    d) k k' =
    let s = gap_same gap gap' r (bytes ++ far) g g' k (spelled_ends_gap l.shape bytes far w) (sym x ∙ x') in
    Compared.short l more bytes far refl s.back w
compare at text ls p r ms q t (LexesTo.next {ls = more} l gap bytes far x g h w d)
    (LexesTo.stop gap' x' g' h') k k' =
    let s = gap_same gap' gap t (bytes ++ far) g' g k' (spelled_ends_gap l.shape bytes far w) (sym x' ∙ x) in
    Compared.ahead l more bytes far refl s.back w
compare at text ls p r ms q t (LexesTo.next {ls = ls'} l gap bytes far x g h w d)
    (LexesTo.next {ls = ms'} m gap' bytes' far' x' g' h' w' d') k k' =
    let s = gap_same gap gap' (bytes ++ far) (bytes' ++ far') g g' (spelled_ends_gap l.shape bytes far w)
    (spelled_ends_gap m.shape bytes' far' w') (sym x ∙ x') in
    let o = spelled_same l.shape m.shape bytes far bytes' far' w w' s.back in
    let place : l.place ≡ m.place = h ∙ (ap (after at) s.front ∙ sym h') in
    let on : LexesTo (after l.place bytes) far ms' q t = rw (place, o.1.front, o.1.back) d' in
    compared_more l m ls' ms' p q r t (same_lexeme l m o.0 place)
    (compare (after l.place bytes) far ls' p r ms' q t d on k k')
