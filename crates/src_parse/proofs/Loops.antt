-- For the code: what its loops keep, and what it does at the lexemes that it looks at.
use Rattle.std.specs.Prelude.{◌≡◌, ◌<◌, List, [], ◌∷◌, ◌++◌, length, map, refl, true, false, codes}
use Rattle.std.specs.Prelude.{Some, None}
use Rattle.std.proofs.Common.{sym, ◌∙◌, ap, append_assoc, append-nil, arith}
use Rattle.std.proofs.lemmas.List.{map-append}
use Rattle.src_ast.specs.View as view
use Rattle.src_ast.specs.declared.tree.Expr.{Expr}
use Rattle.src_ast.specs.declared.tree.Stmt.{Stmt}
use Rattle.src_ast.specs.declared.tree.Item.{Item}
use Rattle.src_ast.specs.declared.lexeme.Lexeme.{Lexeme}
use Rattle.src_ast.specs.declared.lexeme.Mark.TheVariants as mark
use Rattle.src_ast.specs.declared.lexeme.Name.{Name}
use Rattle.src_ast.specs.Syntax.{Expression, Statement, Assign, Call, Statements, Nothing, Then}
use Rattle.src_ast.specs.Grammar.{IsName, Spelled, SpelledName}
use Rattle.src_parse.specs.declared.stop.Stop.{Stop}
use Rattle.src_parse.specs.declared.stop.Stop.TheVariants.{Memory, Here}
use Rattle.src_parse.specs.Gives.{Stops}
use Rattle.src_parse.specs.Reading.{Reading, Reader, Done, Stuck, ◌|>◌, expect, name_at, before}
use Rattle.src_parse.specs.Expressions.{named, operators_at, expression_at}
use Rattle.src_parse.specs.Lists.{comma_or_end, separated_at, some_enclosed, enclosed_at, going_on}
use Rattle.src_parse.specs.Statements.{block_by, else_by, ended_at, value_at, call_at, named_value}
use Rattle.src_parse.specs.Statements.{assigned_by, assigned_at, stored_at, named_statement, statement_by}
use Rattle.src_parse.specs.Statements.{statements_by, statements_at, starts_at, followed, prefixed}
use Rattle.src_parse.specs.Programs.{line_at, vars_by, vars_at, item_at, items_by, program_at}
use Rattle.src_parse.specs.Fronts.{has_mark, has_word, NoCall, IsCallee, IsAfterMark, IsAfterWord}
use Rattle.src_parse.proofs.Tokens.{is_mark-true}
use Rattle.src_parse.proofs.Ready.{Ready, ready_expression}
use Rattle.src_parse.proofs.Names.{name_in-is, ready_spelled_name}
use Rattle.src_parse.proofs.Lists.{separated_at_is}
use Rattle.src_parse.proofs.Statements.{statements_at_is}
use Rattle.src_parse.proofs.CompleteStatements.{named_rest, assigned_call}
use Rattle.src_parse.proofs.Programs.{vars_at_is, program_at_is}

-- lists with commas
going_on_one : {A : Type 0} (item : Reader A) (a : A) (ls : List Lexeme)
    → comma_or_end (separated_at item) a ls ≡ going_on item (a ∷ []) ls
unfolding comma_or_end
going_on_one item a ls = grind arith

list_first : {A : Type 0} (L : List Lexeme → A → Type 0) (item : Reader A) → Ready L item
    → (ls : List Lexeme) (a : A) (r : List Lexeme) → item ls ≡ Done a r
    → separated_at item ls ≡ going_on item (a ∷ []) r
list_first L item g ls a r h = separated_at_is L item g ls ∙ ap (λ y. y |> comma_or_end (separated_at item)) h
    ∙ going_on_one item a r

-- more items after those that were read
going_on_more : {A : Type 0} (item : Reader A) (all : List A) (a : A) (r : List Lexeme)
    → before all (going_on item (a ∷ []) r) ≡ going_on item (all ++ a ∷ []) r
going_on_more item all a r = grind (arith, append_assoc, separated_at)

before_is : {A : Type 0} (all : List A) (y : Reading (List A)) → (y |> λ more r. Done (all ++ more) r)
    ≡ before all y
before_is all y = grind arith

list_more : {A : Type 0} (L : List Lexeme → A → Type 0) (item : Reader A) → Ready L item
    → (all : List A) (ls following : List Lexeme) (a : A) (r : List Lexeme)
    → IsAfterMark mark.Comma ls following → item following ≡ Done a r → going_on item all ls ≡ going_on item
    (all ++ a ∷ []) r
list_more L item g all ls following a r b h =
    ap (going_on item all) b.is ∙ rw b.mark (before_is all (separated_at item following)
    ∙ ap (before all) (list_first L item g following a r h) ∙ going_on_more item all a r)

list_end : {A : Type 0} (item : Reader A) (all : List A) (ls : List Lexeme) → has_mark mark.Comma ls ≡ false
    → going_on item all ls ≡ Done all ls
list_end item all ls h = grind arith

stop_first : {A : Type 0} (L : List Lexeme → A → Type 0) (item : Reader A) → Ready L item
    → (ls : List Lexeme) (e : Stop) → Stops e (item ls) → Stops e (separated_at item ls)
stop_first L item g ls Memory h = tt
stop_first L item g ls (Here x) h = separated_at_is L item g ls ∙ rw h refl

stop_before : {A : Type 0} (all : List A) (y : Reading (List A)) (e : Stop) → Stops e y
    → Stops e (before all y)
stop_before all y e h = grind (arith, before)

list_stop : {A : Type 0} (L : List Lexeme → A → Type 0) (item : Reader A) → Ready L item
    → (all : List A) (ls following : List Lexeme) (e : Stop)
    → IsAfterMark mark.Comma ls following → Stops e (item following) → Stops e (going_on item all ls)
list_stop L item g all ls following Memory b h = tt
list_stop L item g all ls following (Here x) b h = ap (going_on item all) b.is
    ∙ rw (b.mark, separated_at_is L item g following, h) refl

-- expressions with commas
pub expressions_first : (ls : List Lexeme) (e : Expr) (r : List Lexeme)
    → expression_at 0 ls ≡ Done (view.expression e) r
    → separated_at (expression_at 0) ls ≡ going_on (expression_at 0) (map view.expression ([] ++ e ∷ [])) r
expressions_first ls e r h = list_first (Spelled 0) (expression_at 0) ready_expression ls (view.expression e)
    r h

-- one more expression of a list
pub expressions_more : (all : List Expr) (ls following : List Lexeme) (e : Expr) (r : List Lexeme)
    → IsAfterMark mark.Comma ls following → expression_at 0 following ≡ Done (view.expression e) r
    → going_on (expression_at 0) (map view.expression all) ls ≡ going_on (expression_at 0)
    (map view.expression (all ++ e ∷ [])) r
expressions_more all ls following e r b h =
    list_more (Spelled 0) (expression_at 0) ready_expression (map view.expression all) ls following
    (view.expression e) r b h
    ∙ ap (λ x. going_on (expression_at 0) x r) (sym (map-append view.expression all (e ∷ [])))

-- a list ends where no comma stands
pub expressions_end : (all : List Expression) (ls : List Lexeme) → has_mark mark.Comma ls ≡ false
    → going_on (expression_at 0) all ls ≡ Done all ls
expressions_end = list_end (expression_at 0)

-- a list stops after a comma
pub expressions_stop : (all : List Expression) (ls following : List Lexeme) (e : Stop)
    → IsAfterMark mark.Comma ls following → Stops e (expression_at 0 following)
    → Stops e (going_on (expression_at 0) all ls)
expressions_stop = list_stop (Spelled 0) (expression_at 0) ready_expression

-- a list stops at its first expression
pub expressions_stop_first : (ls : List Lexeme) (e : Stop) → Stops e (expression_at 0 ls)
    → Stops e (separated_at (expression_at 0) ls)
expressions_stop_first = stop_first (Spelled 0) (expression_at 0) ready_expression

-- names with commas, after others
pub names_first : (all : List Name) (ls : List Lexeme) (x : Name) (r : List Lexeme) → name_at ls ≡ Done x r
    → before all (separated_at name_at ls) ≡ going_on name_at (all ++ x ∷ []) r
names_first all ls x r h = ap (before all) (list_first SpelledName name_at ready_spelled_name ls x r h)
    ∙ going_on_more name_at all x r

-- one more name of a list
pub names_more : (all : List Name) (ls following : List Lexeme) (x : Name) (r : List Lexeme)
    → IsAfterMark mark.Comma ls following → name_at following ≡ Done x r
    → going_on name_at all ls ≡ going_on name_at (all ++ x ∷ []) r
names_more = list_more SpelledName name_at ready_spelled_name

-- a list ends where no comma stands
pub names_end : (all : List Name) (ls : List Lexeme) → has_mark mark.Comma ls ≡ false
    → going_on name_at all ls ≡ Done all ls
names_end = list_end name_at

-- a list stops after a comma
pub names_stop : (all : List Name) (ls following : List Lexeme) (e : Stop)
    → IsAfterMark mark.Comma ls following → Stops e (name_at following) → Stops e (going_on name_at all ls)
names_stop = list_stop SpelledName name_at ready_spelled_name

-- a list stops at its first name
pub names_stop_first : (all : List Name) (ls : List Lexeme) (e : Stop) → Stops e (name_at ls)
    → Stops e (before all (separated_at name_at ls))
names_stop_first all ls e h = stop_before all (separated_at name_at ls) e
    (stop_first SpelledName name_at ready_spelled_name ls e h)

-- parentheses
pub arguments_none : (all : List Expr) (ls r : List Lexeme) → IsAfterMark mark.RParen ls r → all ≡ []
    → enclosed_at (expression_at 0) ls ≡ Done (map view.expression all) r
unfolding enclosed_at
arguments_none all ls r b e = ap (enclosed_at (expression_at 0)) b.is ∙ rw (b.mark, e) refl

-- arguments, where no parenthesis closes them at once
pub arguments_some : (ls : List Lexeme) → has_mark mark.RParen ls ≡ false
    → enclosed_at (expression_at 0) ls ≡ some_enclosed (expression_at 0) ls
unfolding enclosed_at
arguments_some ls h = grind arith

-- no parameters
pub parameters_none : (all : List Name) (ls r : List Lexeme) → IsAfterMark mark.RParen ls r → all ≡ []
    → enclosed_at name_at ls ≡ Done all r
unfolding enclosed_at
parameters_none all ls r b e = ap (enclosed_at name_at) b.is ∙ rw (b.mark, e) refl

-- parameters, where no parenthesis closes them at once
pub parameters_some : (ls : List Lexeme) → has_mark mark.RParen ls ≡ false
    → enclosed_at name_at ls ≡ some_enclosed name_at ls
unfolding enclosed_at
parameters_some ls h = grind arith

-- nothing was read before
pub before_nothing : (y : Reading (List Name)) → before [] y ≡ y
before_nothing y = grind arith

-- after `x =`
pub assigned_calls : (f : Expression → Statement) (g : Name → List Expression → Statement) (ls : List Lexeme)
    (y : Name) (r : List Lexeme) → IsCallee ls y r → assigned_at f g ls ≡ call_at (g y) r
assigned_calls f g ls y r h = grind (arith, assigned_at, assigned_call, h.called, is_mark-true)

value_plain : (f : Expression → Statement) (g : List Expression → Statement) (l : Lexeme) (y : Name)
    (x : List Lexeme) → IsName y l → has_mark mark.LParen x ≡ false → named_value f g y x ≡ value_at f (l ∷ x)
unfolding named_value value_at ended_at
value_plain f g l y x h q = grind (arith, named_rest, named, expression_at, operators_at, expect)

-- what is assigned is no call
pub assigned_plain : (f : Expression → Statement) (g : Name → List Expression → Statement) (ls : List Lexeme)
    → NoCall ls → assigned_at f g ls ≡ value_at f ls
unfolding assigned_at assigned_by
assigned_plain f g ls h = grind (arith, assigned_by, name_in-is, value_plain)

-- a name and `=`
pub named_assigns : (x : Name) (ls r : List Lexeme) → IsAfterMark mark.Assign ls r
    → named_statement x ls ≡ assigned_at (Assign x.place x) (Call x.place (Some x)) r
unfolding named_statement
named_assigns x ls r b = ap (named_statement x) b.is ∙ rw b.mark refl

-- a name and `[`
pub named_stores : (x : Name) (ls r : List Lexeme) → IsAfterMark mark.LSquare ls r
    → has_mark mark.Assign ls ≡ false → named_statement x ls ≡ stored_at x r
unfolding named_statement
named_stores x ls r b n = grind (arith, named_statement)

-- a name and `(`
pub named_calls : (x : Name) (ls r : List Lexeme) → IsAfterMark mark.LParen ls r
    → has_mark mark.Assign ls ≡ false → has_mark mark.LSquare ls ≡ false
    → named_statement x ls ≡ call_at (Call x.place None x) r
unfolding named_statement
named_calls x ls r b n o = grind (arith, named_statement)

-- a name that begins no statement
pub named_stops : (x : Name) (ls : List Lexeme) → has_mark mark.Assign ls ≡ false
    → has_mark mark.LSquare ls ≡ false → has_mark mark.LParen ls ≡ false → named_statement x ls ≡ Stuck ls
unfolding named_statement
named_stops x ls n o q = grind arith

-- statements that were read, in front of what is left
followed_nothing : (a : Statements) → followed a Nothing ≡ a
followed_nothing Nothing = refl
followed_nothing (Then s rest) = ap (Then s) (followed_nothing rest)

followed_last : (a : List Stmt) (s : Stmt) (b : Statements) → followed (view.statements (a ++ s ∷ [])) b
    ≡ followed (view.statements a) (Then (view.statement s) b)
followed_last [] s b = refl
followed_last (t ∷ a) s b = ap (Then (view.statement t)) (followed_last a s b)

-- a step of the loop
pub statements_step : (a : List Stmt) (ls : List Lexeme) (s : Stmt) (r : List Lexeme) → true ≡ starts_at ls
    → statement_by statements_at ls ≡ Done (view.statement s) r
    → prefixed (view.statements a) (statements_at ls) ≡ prefixed (view.statements (a ++ s ∷ []))
    (statements_at r)
unfolding statements_by
statements_step a ls s r h e = grind (arith, prefixed, statements_at_is, statements_at, followed_last)

-- its end
pub statements_end : (a : List Stmt) (ls : List Lexeme) → false ≡ starts_at ls
    → prefixed (view.statements a) (statements_at ls) ≡ Done (view.statements a) ls
unfolding statements_by
statements_end a ls h = grind (arith, prefixed, statements_at_is, followed_nothing)

-- where a statement stops
pub statements_stop : (a : List Stmt) (ls : List Lexeme) (e : Stop) → true ≡ starts_at ls
    → Stops e (statement_by statements_at ls) → Stops e (prefixed (view.statements a) (statements_at ls))
unfolding statements_by
statements_stop a ls e h s = grind (arith, prefixed, statements_at_is)

-- variables that were read, in front of what is left
pub vars_step : (a b : List Name) (ls following r : List Lexeme) → IsAfterWord (codes "var") ls following
    → before a (line_at following) ≡ Done b r → before a (vars_at ls) ≡ before b (vars_at r)
unfolding vars_by
vars_step a b ls following r w e = grind (arith, before, vars_at, vars_at_is, line_at, append_assoc)

-- lines of variables end where no `var` stands
pub vars_end : (a : List Name) (ls : List Lexeme) → has_word (codes "var") ls ≡ false
    → before a (vars_at ls) ≡ Done a ls
unfolding vars_by
vars_end a ls h = grind (arith, before, vars_at_is, append-nil)

-- a line of variables stops
pub vars_stop : (a : List Name) (ls following : List Lexeme) (e : Stop)
    → IsAfterWord (codes "var") ls following → Stops e (before a (line_at following))
    → Stops e (before a (vars_at ls))
unfolding vars_by
vars_stop a ls following e w h = grind (arith, before, vars_at, vars_at_is, line_at)

-- items that were read, in front of what is left
pub items_step : (a : List Item) (ls : List Lexeme) (i : Item) (r : List Lexeme)
    → item_at ls ≡ Done (view.part i) r
    → before (view.parts a) (program_at ls) ≡ before (view.parts (a ++ i ∷ [])) (program_at r)
unfolding items_by item_at
items_step a ls i r e = grind (arith, before, program_at_is, program_at, map-append, append_assoc)

-- a program ends with its lexemes
pub items_end : (a : List Item) (ls : List Lexeme) → length ls ≡ 0 → before (view.parts a) (program_at ls)
    ≡ Done (view.parts a) []
unfolding items_by
items_end a ls h = grind (arith, before, program_at_is, append-nil)

-- a program stops at an item
pub items_stop : (a : List Item) (ls : List Lexeme) (e : Stop) → 0 < length ls → Stops e (item_at ls)
    → Stops e (before (view.parts a) (program_at ls))
unfolding items_by
items_stop a ls e h s = grind (arith, before, program_at_is, program_at)

-- after an `if`
pub else_goes : (body : Reader Statements) (ls r : List Lexeme) → IsAfterWord (codes "else") ls r
    → else_by body ls ≡ block_by body r
unfolding else_by
else_goes body ls r b = ap (else_by body) b.is ∙ rw b.word refl

-- no second arm
pub else_stays : (body : Reader Statements) (ls : List Lexeme) (a : List Stmt)
    → has_word (codes "else") ls ≡ false → a ≡ [] → else_by body ls ≡ Done (view.statements a) ls
unfolding else_by
else_stays body ls a h e = grind arith

-- a line of variables, after others
pub line_done : (a b : List Name) (ls r q : List Lexeme) → before a (separated_at name_at ls) ≡ Done b r
    → expect mark.Semi r ≡ Done tt q → before a (line_at ls) ≡ Done b q
unfolding line_at
line_done a b ls r q h s = grind (arith, separated_at, name_at, before, expect)

-- a line of variables stops at its names
pub line_unnamed : (a : List Name) (ls : List Lexeme) (e : Stop)
    → Stops e (before a (separated_at name_at ls)) → Stops e (before a (line_at ls))
unfolding line_at
line_unnamed a ls e h = grind (arith, separated_at, name_at)

-- a line of variables stops at its semicolon
pub line_open : (a b : List Name) (ls r : List Lexeme) (e : Stop) → before a (separated_at name_at ls)
    ≡ Done b r → Stops e (expect mark.Semi r) → Stops e (before a (line_at ls))
unfolding line_at
line_open a b ls r e h s = grind (arith, separated_at, name_at, before, expect)
