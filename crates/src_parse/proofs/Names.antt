-- Names, numbers and words as single lexemes.
use Rattle.std.proofs.Common.{arith, sym, ◌∙◌, ap, subst}
use Rattle.std.specs.Prelude.{◌≡◌, ℕ, List, [], ◌∷◌, Option, Some, None, Bool, true, false, refl, codes}
use Rattle.std.specs.Cmp.Lexicographic.{same_text}
use Rattle.src_ast.specs.declared.lexeme.Name.{Name}
use Rattle.src_ast.specs.declared.lexeme.Lexeme.{Lexeme}
use Rattle.src_ast.specs.declared.lexeme.Shape.{Shape}
use Rattle.src_ast.specs.declared.lexeme.Shape.TheVariants as shape
use Rattle.src_ast.specs.Grammar.{is_reserved, IsName, IsNumber, SpelledName, name}
use Rattle.src_parse.specs.Reading.{Done, is_word, name_in, name_by, name_at, Count, count_by, count_at}
use Rattle.src_parse.proofs.Exact.{Exact, exact_stuck_end, exact_stuck, exact_shift, exact_always}
use Rattle.src_parse.proofs.Tokens.{lexeme_with}
use Rattle.src_parse.proofs.Ready.{Ready, ready_as}

-- a word is known by its bytes
pub word-is : (v : List ℕ) (s : Shape) → is_word v s ≡ true → s ≡ shape.Word v
word-is v (shape.Word w) e = ap (λ w. shape.Word w) (same_text w v (sym e))
word-is v (shape.Number n) e = cc
word-is v (shape.Mark m) e = cc

-- a word that is read as a name is one
pub name_in-is : (s : Shape) (l : Lexeme) (y : Name) → l.shape ≡ s → name_in s l ≡ Some y → IsName y l
name_in-is (shape.Word w) l y h e = go (is_reserved w) refl
  where
    go : (t : Bool) → is_reserved w ≡ t → IsName y l
    go true t = let bad : None ≡ Some y = sym (rw t refl) ∙ e in cc
    go false t = grind arith
name_in-is (shape.Number n) l y h e = cc
name_in-is (shape.Mark m) l y h e = cc

-- one lexeme, a name
pub record OneName (ks : List Lexeme) (x : Name) : Type 0 where
  pub lexeme : Lexeme
  pub one : ks ≡ lexeme ∷ []
  pub name : IsName x lexeme

-- some name: a letter
abbrev pub letter : Lexeme
letter = lexeme_with (shape.Word (codes "a"))

-- some name
abbrev pub letter_name : Name
letter_name = record { text = codes "a"; place = letter.place }

-- it is one
pub is_letter : IsName letter_name letter
is_letter = record { word = refl; place = refl; free = refl }

-- a name
pub ready_name : Ready OneName name_at
unfolding name_at
ready_name = record { phrase = letter ∷ []; tree = letter_name; spelled = it; exact = all }
  where
    it : OneName (letter ∷ []) letter_name
    it = record { lexeme = letter; one = refl; name = is_letter }

    all : (x : List Lexeme) → Exact OneName name_at x
    all [] = exact_stuck_end OneName name_at (letter ∷ []) letter_name refl it
    all (l ∷ ls) = go (name_in l.shape l) refl
      where
        go : (o : Option Name) → name_in l.shape l ≡ o → Exact OneName name_at (l ∷ ls)
        go None e = exact_stuck OneName name_at (letter ∷ []) letter_name l ls
            (λ x. ap (λ o. name_by o l x) e) it
        go (Some y) e =
            exact_shift OneName (λ ws a. (ws ≡ []) × (a ≡ y)) name_at (Done y) l ls
            (λ x. ap (λ o. name_by o l x) e)
            (λ ws a k. record {
              lexeme = l;
              one = ap (λ w. l ∷ w) k.0;
              name = subst (λ a. IsName a l) (sym k.1) (name_in-is l.shape l y refl e);
            })
            (exact_always (λ ws a. (ws ≡ []) × (a ≡ y)) (Done y) y ls (λ x. refl) (refl, refl))

-- a name as the grammar has it
pub ready_spelled_name : Ready SpelledName name_at
ready_spelled_name = ready_as OneName SpelledName name_at
    (λ us x h. subst (λ us. SpelledName us x) (sym h.one) (name h.lexeme x h.name)) ready_name

-- a name that is there is read
pub name_done : (x : Name) (l : Lexeme) (ts : List Lexeme) → IsName x l → name_at (l ∷ ts) ≡ Done x ts
unfolding name_at
name_done x l ts h = rw (h.word, h.free, h.place) refl

-- one lexeme, a number
pub record OneCount (ks : List Lexeme) (n : Count) : Type 0 where
  pub lexeme : Lexeme
  pub one : ks ≡ lexeme ∷ []
  pub number : IsNumber n.number lexeme
  pub place : lexeme.place ≡ n.place

-- some number
abbrev pub nought : Lexeme
nought = lexeme_with (shape.Number 0)

-- a number
pub ready_count : Ready OneCount count_at
unfolding count_at
ready_count = record {
  phrase = nought ∷ [];
  tree = record { number = 0; place = nought.place };
  spelled = it;
  exact = all;
}
  where
    it : OneCount (nought ∷ []) (record { number = 0; place = nought.place })
    it = record { lexeme = nought; one = refl; number = refl; place = refl }

    all : (x : List Lexeme) → Exact OneCount count_at x
    all [] = exact_stuck_end OneCount count_at (nought ∷ []) (record { number = 0; place = nought.place })
        refl it
    all (l ∷ ls) = go l.shape refl
      where
        go : (s : Shape) → l.shape ≡ s → Exact OneCount count_at (l ∷ ls)
        go (shape.Number n) e =
            exact_shift OneCount (λ ws a. (ws ≡ []) × (a ≡ record { number = n; place = l.place })) count_at
            (Done (record { number = n; place = l.place })) l ls (λ x. ap (λ s. count_by s l x) e)
            (λ ws a k. record {
              lexeme = l;
              one = ap (λ w. l ∷ w) k.0;
              number = e
                  ∙ ap (λ c. shape.Number c.number) (sym k.1);
              place = ap (λ c. c.place) (sym k.1);
            })
            (exact_always (λ ws a. (ws ≡ []) × (a ≡ record { number = n; place = l.place }))
            (Done (record { number = n; place = l.place })) (record { number = n; place = l.place }) ls
            (λ x. refl) (refl, refl))
        go (shape.Word w) e = exact_stuck OneCount count_at (nought ∷ [])
            (record { number = 0; place = nought.place }) l ls (λ x. ap (λ s. count_by s l x) e) it
        go (shape.Mark m) e = exact_stuck OneCount count_at (nought ∷ [])
            (record { number = 0; place = nought.place }) l ls (λ x. ap (λ s. count_by s l x) e) it

-- a number that is there is read
pub count_done : (n : ℕ) (l : Lexeme) (ts : List Lexeme) → IsNumber n l
    → count_at (l ∷ ts) ≡ Done (record { number = n; place = l.place }) ts
unfolding count_at
count_done n l ts h = ap (λ s. count_by s l ts) h
