-- The words of the language, and what a reader's test of them says.
use Rattle.std.proofs.Common.{arith, sym, ◌∙◌, ap}
use Rattle.std.specs.Prelude.{◌≡◌, ℕ, List, [], ◌∷◌, Option, Some, None, Bool, true, false, ◌||◌, refl}
use Rattle.std.specs.Prelude.{nat_eq, if◌then◌else◌}
use Rattle.std.specs.Cmp.Lexicographic.{same_text}
use lib.Pointwise.{pointwise}
use Rattle.src_ast.specs.Grammar.{is_reserved}
use Rattle.src_parse.specs.declared.keyword.Keyword.{Keyword}
use Rattle.src_parse.specs.Keywords.{spelling_of, keywords, keyword_in, keyword_of}

keyword_in-is : (ks : List Keyword) (w : List ℕ) (k : Keyword) → keyword_in ks w ≡ Some k → w ≡ spelling_of k
keyword_in-is [] w k e = cc
keyword_in-is (j ∷ ks) w k e = go (keyword_in-is ks w k) (pointwise nat_eq w (spelling_of j)) refl
  where
    go : (keyword_in ks w ≡ Some k → w ≡ spelling_of k) → (t : Bool) → pointwise nat_eq w (spelling_of j) ≡ t
        → w ≡ spelling_of k
    go ih true q =
        let same : Some j ≡ Some k = sym (rw q refl) ∙ e in
        let one : j ≡ k = cc in
        same_text w (spelling_of j) (sym q) ∙ ap spelling_of one
    go ih false q = ih (sym (rw q refl) ∙ e)

-- a word of the language is spelled as it is
pub keyword_of-is : (w : List ℕ) (k : Keyword) → keyword_of w ≡ Some k → w ≡ spelling_of k
keyword_of-is w k e = keyword_in-is keywords w k e

abbrev is_one : Option Keyword → Bool
is_one None = false
is_one (Some k) = true

-- one of these words, or b
abbrev reserved_from : Bool → List Keyword → List ℕ → Bool
reserved_from b [] w = b
reserved_from b (k ∷ ks) w = reserved_from (b || pointwise nat_eq w (spelling_of k)) ks w

or_false : (b : Bool) → b ≡ (b || false)
or_false b = grind arith

or_either : (b t : Bool) (k : Keyword) (o : Option Keyword) → ((b || t) || is_one o)
    ≡ (b || is_one (if t then Some k else o))
or_either b t k o = grind arith

reserved_from-is : (b : Bool) (ks : List Keyword) (w : List ℕ) → reserved_from b ks w
    ≡ (b || is_one (keyword_in ks w))
reserved_from-is b [] w = or_false b
reserved_from-is b (k ∷ ks) w =
    grind (arith, pointwise, or_either, reserved_from-is (b || pointwise nat_eq w (spelling_of k)) ks w)

reserved_by : (w : List ℕ) → is_reserved w ≡ is_one (keyword_of w)
reserved_by w = reserved_from-is false keywords w

-- for the code
pub reserved_is : (w : List ℕ) (b : Bool) (k : Option Keyword) → k ≡ keyword_of w → b ≡ is_one k
    → b ≡ is_reserved w
reserved_is w b k e q = q ∙ ap is_one e ∙ sym (reserved_by w)

-- a word of the language is no name
pub keyword_reserved : (w : List ℕ) (k : Keyword) → keyword_of w ≡ Some k → is_reserved w ≡ true
keyword_reserved w k e = reserved_by w ∙ ap is_one e

-- another word is one
pub keyword_free : (w : List ℕ) → keyword_of w ≡ None → is_reserved w ≡ false
keyword_free w e = reserved_by w ∙ ap is_one e

-- a word that is not reserved is none of the language
pub keyword_none : (w : List ℕ) → is_reserved w ≡ false → keyword_of w ≡ None
keyword_none w f = go (keyword_of w) refl
  where
    go : (o : Option Keyword) → keyword_of w ≡ o → o ≡ None
    go o e = grind (arith, keyword_reserved)
