-- What the view says of statements with blocks.
use Rattle.std.proofs.Common.{◌≡◌, ◌∙◌, ap, rules}
use Rattle.std.specs.declared.vec.Vec.{Vec}
use Rattle.std.specs.declared.alloc.Global.{Global}
use Rattle.src_ast.specs.declared.lexeme.Place.{Place}
use Rattle.src_ast.specs.declared.tree.Expr.{Expr}
use Rattle.src_ast.specs.declared.tree.Stmt.{Stmt}
use Rattle.src_ast.specs.declared.tree.Form.TheVariants.{If, While}
use Rattle.src_ast.specs.declared.tree.Form.TheViews.{the_lemmas}
use Rattle.src_ast.specs.Syntax as syntax
use Rattle.src_ast.specs.View.{expression, statement, statement_of, statements, row_of_items}

pub if_view : (at : Place) (e : Expr) (a b : Vec Stmt Global) → statement_of at (If e a b) ≡ syntax.If at
    (expression e) (statements a.items) (statements b.items)
if_view at e a b = search (rules, the_lemmas, row_of_items)

pub while_view : (at : Place) (e : Expr) (a : Vec Stmt Global) → statement_of at (While e a) ≡ syntax.While at
    (expression e) (statements a.items)
while_view at e a = search (rules, the_lemmas, row_of_items)

-- what an `if` says
pub at_if : (s : Stmt) (e : Expr) (a b : Vec Stmt Global) → s.form ≡ If e a b
    → statement s ≡ syntax.If s.place (expression e) (statements a.items) (statements b.items)
at_if s e a b is = ap (statement_of s.place) is ∙ if_view s.place e a b

-- what a `while` says
pub at_while : (s : Stmt) (e : Expr) (a : Vec Stmt Global) → s.form ≡ While e a
    → statement s ≡ syntax.While s.place (expression e) (statements a.items)
at_while s e a is = ap (statement_of s.place) is ∙ while_view s.place e a
