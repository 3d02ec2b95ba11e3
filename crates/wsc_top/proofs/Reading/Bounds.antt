-- Programs that differ in places alone have one bound.
use Rattle.std.specs.Prelude.{◌≡◌, suc, ◌+◌, ◌*◌, max, List, [], ◌∷◌, Option, refl}
use Rattle.std.proofs.Common.{sym, ap, ◌∙◌, arith}
use Rattle.src_ast.specs.Syntax.{Expression, Cell, Signed, Binary, Statement, Assign, Store, Print, Read}
use Rattle.src_ast.specs.Syntax.{Give, Take, Call, If, While, Statements, Nothing, Then, Last, Part, Array}
use Rattle.src_ast.specs.Syntax.{Proc}
use Rattle.src_ast.specs.Same.{bare_expression, bare_expressions, bare_statement, bare_statements}
use Rattle.src_ast.specs.Same.{bare_ending, bare_parts, Same}
use Rattle.src_ast.specs.Bound.{nodes, nodes_of, most_nodes, most_nodes_of, ending_nodes, widest}
use Rattle.src_ast.specs.Bound.{most_variables, bound}
use Rattle.src_ast.proofs.Ruled.{names_bare}

both : {A B C : Type 0} (f : A → B → C) (a b : A) (c d : B) → a ≡ b → c ≡ d → f a c ≡ f b d
both f a b c d e g = ap (λ x. f x c) e ∙ ap (λ x. f b x) g

nodes_bare : (e : Expression) → nodes (bare_expression e) ≡ nodes e
nodes_bare (Cell a e) = ap suc (nodes_bare e)
nodes_bare (Signed s e) = ap suc (nodes_bare e)
nodes_bare (Binary op a b) = ap suc (both (λ m n. m + n) _ _ _ _ (nodes_bare a) (nodes_bare b))
nodes_bare e = refl

nodes_of_bare : (es : List Expression) → nodes_of (bare_expressions es) ≡ nodes_of es
nodes_of_bare [] = refl
nodes_of_bare (e ∷ es) = both (λ m n. m + n) _ _ _ _ (nodes_bare e) (nodes_of_bare es)

mutual
  most_bare : (s : Statement) → most_nodes (bare_statement s) ≡ most_nodes s
  most_bare (Assign at x e) = nodes_bare e
  most_bare (Store at a i e) = both (λ m n. m + n) _ _ _ _ (nodes_bare i) (nodes_bare e)
  most_bare (Print at e) = nodes_bare e
  most_bare (Read at x) = refl
  most_bare (Give at n p x) = refl
  most_bare (Take at n p e) = nodes_bare e
  most_bare (Call at x f es) = nodes_of_bare es
  most_bare (If at e a b) =
      both max _ _ _ _ (nodes_bare e) (both max _ _ _ _ (most_of_bare a) (most_of_bare b))
  most_bare (While at e body) = both max _ _ _ _ (nodes_bare e) (most_of_bare body)

  most_of_bare : (body : Statements) → most_nodes_of (bare_statements body) ≡ most_nodes_of body
  most_of_bare Nothing = refl
  most_of_bare (Then s rest) = both max _ _ _ _ (most_bare s) (most_of_bare rest)

ending_bare : (ending : Option Last) → ending_nodes (bare_ending ending) ≡ ending_nodes ending
ending_bare ending = grind (arith, nodes_bare)

widest_bare : (parts : List Part) → widest (bare_parts parts) ≡ widest parts
widest_bare [] = refl
widest_bare (Array x n at ∷ parts) = widest_bare parts
widest_bare (Proc p ∷ parts) =
    both max _ _ _ _ (both max _ _ _ _ (most_of_bare p.body) (ending_bare p.ending)) (widest_bare parts)

variables_bare : (parts : List Part) → most_variables (bare_parts parts) ≡ most_variables parts
variables_bare [] = refl
variables_bare (Array x n at ∷ parts) = variables_bare parts
variables_bare (Proc p ∷ parts) = grind (arith, both, names_bare, variables_bare parts)

bound_bare : (parts : List Part) → bound (bare_parts parts) ≡ bound parts
bound_bare parts = both (λ m n. 2 * m + 16 * (n + 8)) _ _ _ _ (widest_bare parts) (variables_bare parts)

pub one_bound : (a b : List Part) → Same a b → bound a ≡ bound b
one_bound a b same = sym (bound_bare a) ∙ ap bound same ∙ bound_bare b
