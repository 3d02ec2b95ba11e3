-- The tree with numbers in place of names.
use Rattle.std.specs.Prelude.{List, [], ◌∷◌, length, Option, Some, None}
use Rattle.src_ast.specs.declared.lexeme.Name.{Name}
use Rattle.src_ast.specs.Syntax.{Expression, Number, Variable, Cell, Signed, Binary, Statement, Assign, Store}
use Rattle.src_ast.specs.Syntax.{Print, Read, Give, Take, Call, If, While, Statements, Nothing, Then, Last}
use Rattle.src_ast.specs.Syntax.{Procedure, Part}
use Rattle.seq_run.specs.Resolved as resolved
use Rattle.seq_run.specs.Resolved.{Step, Steps, Proc}
use Rattle.cfg_core.specs.Graph as graph
use Rattle.cfg_core.specs.Graph.{Term}
use Rattle.src_ast.specs.declared.tree.Unary.{Unary}
use Rattle.src_ast.specs.declared.tree.Unary.TheVariants.{Flip, Not, Neg}
use Rattle.src_ast.specs.Meaning.{Scope, var_number, array_number, proc_number, target, scope_of, arrays_of}
use Rattle.src_ast.specs.Meaning.{lengths_of, procs_of, names_of}
use Rattle.src_ast.specs.Printed.{name_texts}

-- an operator of one operand
abbrev pub signed : Unary → Term → Term
signed Flip t = graph.Flip t
signed Not t = graph.Not t
signed Neg t = graph.Neg t

-- an expression; and below, likewise, arguments, a statement, a result and a procedure
abbrev pub term : Scope → Expression → Term
term scope (Number n) = graph.Number n
term scope (Variable x) = graph.Var (var_number scope x)
term scope (Cell a e) = graph.Cell (array_number scope a) (term scope e)
term scope (Signed s e) = signed s (term scope e)
term scope (Binary op a b) = graph.Binary op (term scope a) (term scope b)

abbrev pub terms : Scope → List Expression → List Term
terms scope [] = []
terms scope (e ∷ es) = term scope e ∷ terms scope es

abbrev mutual
  pub one : Scope → Statement → Step
  one scope (Assign at x e) = resolved.Do (resolved.Assign (var_number scope x) (term scope e))
  one scope (Store at a e f) =
      resolved.Do (resolved.Store (array_number scope a) (term scope e) (term scope f))
  one scope (Print at e) = resolved.Do (resolved.Print (term scope e))
  one scope (Read at x) = resolved.Do (resolved.Read (var_number scope x))
  one scope (Give at p q x) = resolved.Do (resolved.Give p (var_number scope x))
  one scope (Take at p q e) = resolved.Do (resolved.Take p (term scope e))
  one scope (Call at x f args) =
      resolved.Call (target scope x) (proc_number scope f) (terms scope args)
  one scope (If at e a b) = resolved.If (term scope e) (all scope a) (all scope b)
  one scope (While at e body) = resolved.While (term scope e) (all scope body)

  pub all : Scope → Statements → Steps
  all scope Nothing = resolved.Nothing
  all scope (Then st rest) = resolved.Then (one scope st) (all scope rest)

abbrev pub result : Scope → Option Last → Option Term
result scope None = None
result scope (Some e) = Some (term scope e.value)

abbrev pub proc : Scope → Procedure → Proc
proc scope p = record {
  params = length p.params;
  locals = length p.vars;
  body = all scope p.body;
  result = result scope p.ending;
}

abbrev pub procs : List Name → List Name → List Procedure → List Proc
procs arrays names [] = []
procs arrays names (p ∷ ps) = proc (scope_of arrays names p) p ∷ procs arrays names ps

-- a program
abbrev pub program : List Part → resolved.ResolvedProgram
program parts = record {
  names = name_texts (arrays_of parts);
  lengths = lengths_of parts;
  procs = procs (arrays_of parts) (names_of (procs_of parts)) (procs_of parts);
}
