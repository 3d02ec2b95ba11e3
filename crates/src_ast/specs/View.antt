-- What the code's tree says: the same tree as plain data, without boxes and buffers.
use Rattle.std.specs.Prelude.{List, [], ◌∷◌, Option, Some, None, map, ◌≡◌, refl}
use Rattle.std.proofs.Common.{ap}
use Rattle.src_ast.specs.Syntax.{Expression, Statement, Statements, Last, Part}
use Rattle.src_ast.specs.declared.tree.Ending.{Ending}
use Rattle.src_ast.specs.declared.tree.Item.{Item}
use Rattle.src_ast.specs.declared.tree.Item.TheVariants.{Array, Proc}
use Rattle.src_ast.specs.Syntax as syntax
use Rattle.src_ast.specs.declared.lexeme.Place.{Place}
use Rattle.src_ast.specs.declared.tree.Expr.{Expr, Number, Var, Cell', Unary', Binary'}
use Rattle.src_ast.specs.declared.tree.Stmt.{Stmt}
use Rattle.src_ast.specs.declared.tree.Form.{Form, Assign, Store, Print, Read, Give, Take, Call, If', While'}
use Rattle.src_ast.specs.declared.tree.Form.{Row_of-Stmt, end_of-Stmt, more_of-Stmt, items-the_row-Stmt}

abbrev pub expression : Expr → Expression
expression (Number n) = syntax.Number n
expression (Var x) = syntax.Variable x
expression (Cell' a p e) = syntax.Cell a (expression e)
expression (Unary' s p e) = syntax.Signed s (expression e)
expression (Binary' op p a q b) = syntax.Binary op (expression a) (expression b)

abbrev mutual
  pub statement_of : Place → Form → Statement
  statement_of at (Assign x e) = syntax.Assign at x (expression e)
  statement_of at (Store a i e) = syntax.Store at a (expression i) (expression e)
  statement_of at (Print e) = syntax.Print at (expression e)
  statement_of at (Read x) = syntax.Read at x
  statement_of at (Give n p x) = syntax.Give at n p x
  statement_of at (Take n p e) = syntax.Take at n p (expression e)
  statement_of at (Call x f es) = syntax.Call at x f (map expression es.items)
  statement_of at (If' e n a m b) = syntax.If at (expression e) (row_of a) (row_of b)
  statement_of at (While' e n a) = syntax.While at (expression e) (row_of a)

  pub row_of : {n : _} → Row_of-Stmt n → Statements
  row_of end_of-Stmt = syntax.Nothing
  row_of (more_of-Stmt at s rest) = syntax.Then (statement_of at s) (row_of rest)

abbrev pub statement : Stmt → Statement
statement s = statement_of s.place s.form

abbrev pub statements : List Stmt → Statements
statements [] = syntax.Nothing
statements (s ∷ rest) = syntax.Then (statement s) (statements rest)

pub row_of_items : (n : _) (k : Row_of-Stmt n) → row_of k ≡ statements (items-the_row-Stmt n k)
row_of_items n end_of-Stmt = refl
row_of_items n (more_of-Stmt {n = m} at s rest) =
    ap (syntax.Then (statement_of at s)) (row_of_items m rest)

abbrev pub last : Ending → Last
last e = record { place = e.place; value = expression e.value }

abbrev pub maybe_last : Option Ending → Option Last
maybe_last None = None
maybe_last (Some e) = Some (last e)

abbrev pub part : Item → Part
part (Array x n p) = syntax.Array x n p
part (Proc x ps vs b e) =
    syntax.Proc
    (record {
      name = x;
      params = ps.items;
      vars = vs.items;
      body = statements b.items;
      ending = maybe_last e;
    })

abbrev pub parts : List Item → List Part
parts = map part
