-- The words of the language.
use Rattle.std.specs.Prelude.{List, [], ◌∷◌, ℕ, Option, Some, None, if◌then◌else◌, codes, nat_eq}
use lib.Pointwise.{pointwise}
use Rattle.src_parse.specs.declared.keyword.Keyword.{Keyword}
use Rattle.src_parse.specs.declared.keyword.Keyword.TheVariants.{Proc, Array, Var, If, Else, While, Print}
use Rattle.src_parse.specs.declared.keyword.Keyword.TheVariants.{Read, Give, Take, Return}

abbrev pub spelling_of : Keyword → List ℕ
spelling_of Proc = codes "proc"
spelling_of Array = codes "array"
spelling_of Var = codes "var"
spelling_of If = codes "if"
spelling_of Else = codes "else"
spelling_of While = codes "while"
spelling_of Print = codes "print"
spelling_of Read = codes "read"
spelling_of Give = codes "give"
spelling_of Take = codes "take"
spelling_of Return = codes "return"

abbrev pub keywords : List Keyword
keywords = Proc ∷ Array ∷ Var ∷ If ∷ Else ∷ While ∷ Print ∷ Read ∷ Give ∷ Take ∷ Return ∷ []

-- the first of these that is spelled so
abbrev pub keyword_in : List Keyword → List ℕ → Option Keyword
keyword_in [] w = None
keyword_in (k ∷ ks) w = if pointwise nat_eq w (spelling_of k) then Some k else keyword_in ks w

-- the word of the language that is spelled so
abbrev pub keyword_of : List ℕ → Option Keyword
keyword_of w = keyword_in keywords w
