-- A list with commas, from its second item on.
use Rattle.std.specs.Prelude.{ℕ, List, [], ◌∷◌, ◌++◌, codes, Option, Some, None}
use Rattle.src_ast.specs.declared.lexeme.Name.{Name}

abbrev pub comma_text : List (List ℕ) → List ℕ
comma_text [] = []
comma_text (t ∷ ts) = codes ", " ++ t ++ comma_text ts

-- a call as a statement: its variable, if it has one, and the call
abbrev pub call_line : Option Name → List ℕ → List ℕ
call_line None call = (call ++ codes ";") ++ codes "\n"
call_line (Some x) call = (x.text ++ codes " = " ++ call ++ codes ";") ++ codes "\n"
