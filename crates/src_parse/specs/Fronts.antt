-- What stands first.
use Rattle.std.specs.Prelude.{◌≡◌, ℕ, List, [], ◌∷◌, Bool, true, false}
use Rattle.src_ast.specs.declared.lexeme.Lexeme.{Lexeme}
use Rattle.src_ast.specs.declared.lexeme.Mark.{Mark}
use Rattle.src_ast.specs.declared.lexeme.Mark.TheVariants as mark
use Rattle.src_ast.specs.declared.lexeme.Name.{Name}
use Rattle.src_ast.specs.Grammar.{IsName}
use Rattle.src_parse.specs.Reading.{is_mark, is_word}

abbrev pub has_mark : Mark → List Lexeme → Bool
has_mark m [] = false
has_mark m (l ∷ ls) = is_mark m l.shape

abbrev pub has_word : List ℕ → List Lexeme → Bool
has_word w [] = false
has_word w (l ∷ ls) = is_word w l.shape

-- the rest stands after this mark
pub record IsAfterMark (m : Mark) (ls rest : List Lexeme) : Type 0 where
  pub lexeme : Lexeme
  pub is : ls ≡ lexeme ∷ rest
  pub mark : is_mark m lexeme.shape ≡ true

-- the rest stands after this word
pub record IsAfterWord (w : List ℕ) (ls rest : List Lexeme) : Type 0 where
  pub lexeme : Lexeme
  pub is : ls ≡ lexeme ∷ rest
  pub word : is_word w lexeme.shape ≡ true

-- no call begins here: no name with an opening parenthesis after it
abbrev pub NoCall : List Lexeme → Type 0
NoCall [] = Unit {0}
NoCall (l ∷ ls) = (y : Name) → IsName y l → has_mark mark.LParen ls ≡ false

-- the name of a call and what stands after its opening parenthesis
pub record IsCallee (ls : List Lexeme) (y : Name) (rest : List Lexeme) : Type 0 where
  pub name : Lexeme
  pub open' : Lexeme
  pub is : ls ≡ name ∷ open' ∷ rest
  pub called : IsName y name
  pub mark : is_mark mark.LParen open'.shape ≡ true
