-- How a parser goes over lists with commas.
use Rattle.std.specs.Prelude.{ℕ, zero, suc, length, List, [], ◌∷◌, ◌++◌, if◌then◌else◌}
use Rattle.src_ast.specs.declared.lexeme.Lexeme.{Lexeme}
use Rattle.src_ast.specs.declared.lexeme.Mark.TheVariants as mark
use Rattle.src_parse.specs.Reading.{Reading, Reader, Done, Stuck, ◌|>◌, is_mark, expect}

-- after an item of a list: a comma and more, or nothing
unfoldable pub comma_or_end : {A : Type 0} → Reader (List A) → A → Reader (List A)
comma_or_end rest a [] = Done (a ∷ []) []
comma_or_end rest a (l ∷ ls) =
    if is_mark mark.Comma l.shape then (rest ls |> λ all r. Done (a ∷ all) r)
    else Done (a ∷ []) (l ∷ ls)

-- items with commas between them, at least one; the number bounds the depth
unfoldable pub separated_in : {A : Type 0} → Reader A → ℕ → Reader (List A)
separated_in item zero ls = Stuck ls
separated_in item (suc k) ls = item ls |> comma_or_end (separated_in item k)

unfoldable pub separated_at : {A : Type 0} → Reader A → Reader (List A)
separated_at item ls = separated_in item (suc (length ls)) ls

-- some items and a closing parenthesis
abbrev pub some_enclosed : {A : Type 0} → Reader A → Reader (List A)
some_enclosed item ls = separated_at item ls |> λ all r. (expect mark.RParen r |> λ _ r. Done all r)

-- after an opening parenthesis, with the closing one: no items, or some
unfoldable pub enclosed_at : {A : Type 0} → Reader A → Reader (List A)
enclosed_at item [] = some_enclosed item []
enclosed_at item (l ∷ ls) =
    if is_mark mark.RParen l.shape then Done [] ls else some_enclosed item (l ∷ ls)

-- a list so far, and what comes after it: a comma and more, or nothing
abbrev pub going_on : {A : Type 0} → Reader A → List A → List Lexeme → Reading (List A)
going_on item all [] = Done all []
going_on item all (l ∷ ls) =
    if is_mark mark.Comma l.shape then (separated_at item ls |> λ more r. Done (all ++ more) r)
    else Done all (l ∷ ls)
