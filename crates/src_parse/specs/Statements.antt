-- How a parser goes over statements.
use Rattle.std.specs.Prelude.{ℕ, zero, suc, length, List, [], ◌∷◌, Option, Some, None, Bool, true, false}
use Rattle.std.specs.Prelude.{if◌then◌else◌, codes}
use Rattle.src_ast.specs.declared.lexeme.Name.{Name}
use Rattle.src_ast.specs.declared.lexeme.Place.{Place}
use Rattle.src_ast.specs.declared.lexeme.Lexeme.{Lexeme}
use Rattle.src_ast.specs.declared.lexeme.Shape.{Shape}
use Rattle.src_ast.specs.declared.lexeme.Shape.TheVariants as shape
use Rattle.src_ast.specs.declared.lexeme.Mark.TheVariants as mark
use Rattle.src_ast.specs.Syntax.{Expression, Statement, Assign, Store, Print, Read, Give, Take, Call, If}
use Rattle.src_ast.specs.Syntax.{While, Statements, Nothing, Then}
use Rattle.src_parse.specs.declared.keyword.Keyword.{Keyword}
use Rattle.src_parse.specs.declared.keyword.Keyword.TheVariants as keyword
use Rattle.src_parse.specs.Keywords.{keyword_of}
use Rattle.src_parse.specs.Reading.{Reading, Reader, Done, Stuck, ◌|>◌, is_mark, is_word, expect, name_in}
use Rattle.src_parse.specs.Reading.{name_at, count_at}
use Rattle.src_parse.specs.Expressions.{named, operators_at, expression_at}
use Rattle.src_parse.specs.Lists.{enclosed_at}

-- an expression and a semicolon
unfoldable pub ended_at : Reader Expression
ended_at ls = expression_at 0 ls |> λ e r. (expect mark.Semi r |> λ _ r. Done e r)

unfoldable pub value_at : {A : Type 0} → (Expression → A) → Reader A
value_at f ls = ended_at ls |> λ e r. Done (f e) r

-- after `f(`
unfoldable pub call_at : (List Expression → Statement) → Reader Statement
call_at f ls =
    enclosed_at (expression_at 0) ls |> λ es r. (expect mark.Semi r |> λ _ r. Done (f es) r)

-- after `x = y`: the arguments of a call, or the rest of an expression
unfoldable pub named_value : (Expression → Statement) → (List Expression → Statement) → Name
    → Reader Statement
named_value f g y [] =
    (named (expression_at 0) y [] |> operators_at 0)
    |> λ e r. (expect mark.Semi r |> λ _ r. Done (f e) r)
named_value f g y (l ∷ ls) =
    if is_mark mark.LParen l.shape then call_at g ls
    else ((named (expression_at 0) y (l ∷ ls) |> operators_at 0)
    |> λ e r. (expect mark.Semi r |> λ _ r. Done (f e) r))

-- after `x =`
unfoldable pub assigned_by : (Expression → Statement) → (Name → List Expression → Statement)
    → Option Name → Lexeme → Reader Statement
assigned_by f g None l ls = value_at f (l ∷ ls)
assigned_by f g (Some y) l ls = named_value f (g y) y ls

unfoldable pub assigned_at : (Expression → Statement) → (Name → List Expression → Statement)
    → Reader Statement
assigned_at f g [] = value_at f []
assigned_at f g (l ∷ ls) = assigned_by f g (name_in l.shape l) l ls

-- after `x[`
unfoldable pub stored_at : Name → Reader Statement
stored_at x ls =
    expression_at 0 ls
    |> λ i r.
    (expect mark.RSquare r
    |> λ _ r. (expect mark.Assign r |> λ _ r. value_at (Store x.place x i) r))

-- after a name that begins a statement
unfoldable pub named_statement : Name → Reader Statement
named_statement x [] = Stuck []
named_statement x (l ∷ ls) =
    if is_mark mark.Assign l.shape then assigned_at (Assign x.place x) (Call x.place (Some x)) ls
    else if is_mark mark.LSquare l.shape then stored_at x ls
    else if is_mark mark.LParen l.shape then call_at (Call x.place None x) ls
    else Stuck (l ∷ ls)

-- after `read`
unfoldable pub read_at : Place → Reader Statement
read_at at ls = name_at ls |> λ x r. (expect mark.Semi r |> λ _ r. Done (Read at x) r)

-- after `give`
unfoldable pub give_at : Place → Reader Statement
give_at at ls =
    count_at ls
    |> λ n r.
    (expect mark.Comma r
    |> λ _ r.
    (name_at r
    |> λ x r.
    (expect mark.Semi r |> λ _ r. Done (Give at n.number n.place x) r)))

-- after `take`
unfoldable pub take_at : Place → Reader Statement
take_at at ls =
    count_at ls |> λ n r. (expect mark.Comma r |> λ _ r. value_at (Take at n.number n.place) r)

unfoldable pub block_by : Reader Statements → Reader Statements
block_by body ls =
    expect mark.LBrace ls |> λ _ r. (body r |> λ b r. (expect mark.RBrace r |> λ _ r. Done b r))

-- the test of an `if` or a `while`, in parentheses
unfoldable pub test_at : Reader Expression
test_at ls =
    expect mark.LParen ls
    |> λ _ r. (expression_at 0 r |> λ e r. (expect mark.RParen r |> λ _ r. Done e r))

-- an `else` and its block, or nothing
unfoldable pub else_by : Reader Statements → Reader Statements
else_by body [] = Done Nothing []
else_by body (l ∷ ls) =
    if is_word (codes "else") l.shape then block_by body ls else Done Nothing (l ∷ ls)

-- after `if`
unfoldable pub if_by : Reader Statements → Place → Reader Statement
if_by body at ls =
    test_at ls |> λ e r. (block_by body r |> λ a r. (else_by body r |> λ b r. Done (If at e a b) r))

-- after `while`
unfoldable pub while_by : Reader Statements → Place → Reader Statement
while_by body at ls = test_at ls |> λ e r. (block_by body r |> λ b r. Done (While at e b) r)

-- a statement that begins with a word: one of the language, or a name
unfoldable pub statement_word : Reader Statements → Option Keyword → List ℕ → Lexeme
    → Reader Statement
statement_word body (Some keyword.Print) w l ls = value_at (Print l.place) ls
statement_word body (Some keyword.Read) w l ls = read_at l.place ls
statement_word body (Some keyword.Give) w l ls = give_at l.place ls
statement_word body (Some keyword.Take) w l ls = take_at l.place ls
statement_word body (Some keyword.If) w l ls = if_by body l.place ls
statement_word body (Some keyword.While) w l ls = while_by body l.place ls
statement_word body (Some _) w l ls = Stuck (l ∷ ls)
statement_word body None w l ls = named_statement (record { text = w; place = l.place }) ls

unfoldable pub statement_shape : Reader Statements → Shape → Lexeme → Reader Statement
statement_shape body (shape.Word w) l ls = statement_word body (keyword_of w) w l ls
statement_shape body (shape.Number n) l ls = Stuck (l ∷ ls)
statement_shape body (shape.Mark m) l ls = Stuck (l ∷ ls)

-- a statement, whose blocks have what body reads
unfoldable pub statement_by : Reader Statements → Reader Statement
statement_by body [] = Stuck []
statement_by body (l ∷ ls) = statement_shape body l.shape l ls

abbrev pub starts_word : Option Keyword → Bool
starts_word None = true
starts_word (Some keyword.Print) = true
starts_word (Some keyword.Read) = true
starts_word (Some keyword.Give) = true
starts_word (Some keyword.Take) = true
starts_word (Some keyword.If) = true
starts_word (Some keyword.While) = true
starts_word (Some _) = false

-- a statement begins with this shape
abbrev pub starts : Shape → Bool
starts (shape.Word w) = starts_word (keyword_of w)
starts (shape.Number n) = false
starts (shape.Mark m) = false

unfoldable pub statements_by : Reader Statements → Reader Statements
statements_by body [] = Done Nothing []
statements_by body (l ∷ ls) =
    if starts l.shape
    then (statement_by body (l ∷ ls) |> λ s r. (body r |> λ rest r. Done (Then s rest) r))
    else Done Nothing (l ∷ ls)

unfoldable pub statements_in : ℕ → Reader Statements
statements_in zero ls = Stuck ls
statements_in (suc k) ls = statements_by (statements_in k) ls

unfoldable pub statements_at : Reader Statements
statements_at ls = statements_in (suc (length ls)) ls

abbrev pub starts_at : List Lexeme → Bool
starts_at [] = false
starts_at (l ∷ ls) = starts l.shape

-- these statements and then those
abbrev pub followed : Statements → Statements → Statements
followed Nothing b = b
followed (Then s rest) b = Then s (followed rest b)

-- what was read before, in front of what is read
abbrev pub prefixed : Statements → Reading Statements → Reading Statements
prefixed a (Done b r) = Done (followed a b) r
prefixed a (Stuck r) = Stuck r
