-- The rules of statements with blocks in them, and how many statements those are.
use Rattle.std.proofs.Common.{◌≡◌, ℕ, ◌+◌, List, [], ◌∷◌, ◌++◌, rules, add-one, arith}
use Rattle.std.specs.Global.{Global}
use Rattle.std.specs.declared.vec.Vec.{Vec}
use Rattle.src_ast.specs.Syntax as syntax
use Rattle.src_ast.specs.View.{expression, statement, statement_of, statements, row_of_items}
use Rattle.src_ast.specs.declared.lexeme.Place.{Place}
use Rattle.src_ast.specs.declared.tree.Expr.{Expr}
use Rattle.src_ast.specs.declared.tree.Stmt.{Stmt}
use Rattle.src_ast.specs.declared.tree.Form.{If, While}
use Rattle.src_ast.specs.declared.tree.Form.TheViews.{the_lemmas}
use Rattle.src_ast.specs.Rules.{Declared, statement_rule, expression_rules, body_rules, statement_rules}
use Rattle.src_ast.specs.Rules.{size_of, size_of_all}

seen_if : (at : Place) (test : Expr) (first second : Vec Stmt Global) → statement_of at (If test first second)
    ≡ syntax.If at (expression test) (statements first.items) (statements second.items)
seen_if at test first second = search (rules, the_lemmas, row_of_items)

seen_while : (at : Place) (test : Expr) (body : Vec Stmt Global) → statement_of at (While test body)
    ≡ syntax.While at (expression test) (statements body.items)
seen_while at test body = search (rules, the_lemmas, row_of_items)

module _ (s : Stmt) (test : Expr) where
  if_is : (first second : Vec Stmt Global) (xs ys : List Stmt) → s.form ≡ If test first second
      → xs ≡ first.items → ys ≡ second.items
      → statement s ≡ syntax.If s.place (expression test) (statements xs) (statements ys)
  if_is first second xs ys is a b = grind (arith, seen_if s.place test first second)

  -- the rules of an `if` are those of its test and arms
  pub if_rules : (visible : List Declared) (k n m : ℕ) (first second : Vec Stmt Global) (xs ys : List Stmt)
      → s.form ≡ If test first second → xs ≡ first.items → ys ≡ second.items
      → n ≡ k + 1 → m ≡ n + size_of_all (statements xs)
      → statement_rules visible k (statement s) ≡ (statement_rule k s.place ∷ [])
      ++ (expression_rules visible (expression test)
      ++ (body_rules visible n (statements xs) ++ body_rules visible m (statements ys)))
  if_rules visible k n m first second xs ys is a b at_n at_m = grind (arith, if_is, add-one)

  -- how many statements an `if` is
  pub if_size : (k n m j : ℕ) (first second : Vec Stmt Global) (xs ys : List Stmt)
      → s.form ≡ If test first second → xs ≡ first.items → ys ≡ second.items
      → n ≡ k + 1 → m ≡ n + size_of_all (statements xs) → j ≡ m + size_of_all (statements ys)
      → j ≡ k + size_of (statement s)
  if_size k n m j first second xs ys is a b at_n at_m at_j = grind (arith, if_is)

  while_is : (body : Vec Stmt Global) (xs : List Stmt) → s.form ≡ While test body → xs ≡ body.items
      → statement s ≡ syntax.While s.place (expression test) (statements xs)
  while_is body xs is a = grind (arith, seen_while s.place test body)

  -- the rules of a `while` are those of its test and body
  pub while_rules : (visible : List Declared) (k n : ℕ) (body : Vec Stmt Global) (xs : List Stmt)
      → s.form ≡ While test body → xs ≡ body.items → n ≡ k + 1
      → statement_rules visible k (statement s) ≡ (statement_rule k s.place ∷ [])
      ++ (expression_rules visible (expression test) ++ body_rules visible n (statements xs))
  while_rules visible k n body xs is a at_n = grind (arith, while_is, add-one)

  -- how many statements a `while` is
  pub while_size : (k n j : ℕ) (body : Vec Stmt Global) (xs : List Stmt) → s.form ≡ While test body
      → xs ≡ body.items
      → n ≡ k + 1 → j ≡ n + size_of_all (statements xs) → j ≡ k + size_of (statement s)
  while_size k n j body xs is a at_n at_j = rw (while_is body xs is a) (omega arith)
