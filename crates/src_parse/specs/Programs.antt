-- How a parser goes over a program.
use Rattle.std.specs.Prelude.{ℕ, zero, suc, length, List, [], ◌∷◌, ◌++◌, Option, Some, None, if◌then◌else◌}
use Rattle.std.specs.Prelude.{codes}
use Rattle.src_ast.specs.declared.lexeme.Name.{Name}
use Rattle.src_ast.specs.declared.lexeme.Place.{Place}
use Rattle.src_ast.specs.declared.lexeme.Lexeme.{Lexeme}
use Rattle.src_ast.specs.declared.lexeme.Mark.TheVariants as mark
use Rattle.src_ast.specs.Syntax.{Last, Part, Array, Proc}
use Rattle.src_parse.specs.Reading.{Reader, Done, Stuck, ◌|>◌, is_word, expect, name_at, count_at}
use Rattle.src_parse.specs.Lists.{separated_at, enclosed_at}
use Rattle.src_parse.specs.Statements.{value_at, statements_at}

-- after `array`
unfoldable pub array_at : Reader Part
array_at ls =
    name_at ls
    |> λ x r.
    (expect mark.LSquare r
    |> λ _ r.
    (count_at r
    |> λ n r.
    (expect mark.RSquare r
    |> λ _ r.
    (expect mark.Semi r
    |> λ _ r. Done (Array x n.number n.place) r))))

-- after `var`
unfoldable pub line_at : Reader (List Name)
line_at ls = separated_at name_at ls |> λ xs r. (expect mark.Semi r |> λ _ r. Done xs r)

-- lines of variables
unfoldable pub vars_by : Reader (List Name) → Reader (List Name)
vars_by rest [] = Done [] []
vars_by rest (l ∷ ls) =
    if is_word (codes "var") l.shape
    then (line_at ls |> λ xs r. (rest r |> λ ys r. Done (xs ++ ys) r)) else Done [] (l ∷ ls)

unfoldable pub vars_in : ℕ → Reader (List Name)
vars_in zero ls = Stuck ls
vars_in (suc k) ls = vars_by (vars_in k) ls

unfoldable pub vars_at : Reader (List Name)
vars_at ls = vars_in (suc (length ls)) ls

-- `return` and its expression, or nothing
unfoldable pub ending_at : Reader (Option Last)
ending_at [] = Done None []
ending_at (l ∷ ls) =
    if is_word (codes "return") l.shape
    then value_at (λ e. Some (record { place = l.place; value = e })) ls else Done None (l ∷ ls)

-- a procedure with this name and these parameters, between its braces and with the closing one
unfoldable pub inside_at : Name → List Name → Reader Part
inside_at x ps ls =
    vars_at ls
    |> λ vs r.
    (statements_at r
    |> λ b r.
    (ending_at r
    |> λ e r.
    (expect mark.RBrace r
    |> λ _ r. Done
    (Proc (record {
      name = x;
      params = ps;
      vars = vs;
      body = b;
      ending = e;
    })) r)))

-- after `proc`
unfoldable pub proc_at : Reader Part
proc_at ls =
    name_at ls
    |> λ x r.
    (expect mark.LParen r
    |> λ _ r.
    (enclosed_at name_at r
    |> λ ps r. (expect mark.LBrace r |> λ _ r. inside_at x ps r)))

unfoldable pub item_at : Reader Part
item_at [] = Stuck []
item_at (l ∷ ls) =
    if is_word (codes "proc") l.shape then proc_at ls
    else if is_word (codes "array") l.shape then array_at ls
    else Stuck (l ∷ ls)

unfoldable pub items_by : Reader (List Part) → Reader (List Part)
items_by rest [] = Done [] []
items_by rest (l ∷ ls) = item_at (l ∷ ls) |> λ a r. (rest r |> λ all r. Done (a ∷ all) r)

unfoldable pub items_in : ℕ → Reader (List Part)
items_in zero ls = Stuck ls
items_in (suc k) ls = items_by (items_in k) ls

unfoldable pub program_at : Reader (List Part)
program_at ls = items_in (suc (length ls)) ls

-- the place of the first of these lexemes, or else of the end
abbrev pub place_of : List Lexeme → Place → Place
place_of [] finish = finish
place_of (l ∷ ls) finish = l.place
