-- What does not see the places of a program: which rules it keeps.
use Rattle.std.proofs.Common.{arith, ◌≡◌, ℕ, suc, ◌+◌, Bool, ◌&&◌, ◌||◌, length, List, ◌∷◌, ◌++◌, Option, []}
use Rattle.std.proofs.Common.{Some, None, refl, sym, ap, subst}
use Rattle.std.specs.List.{list_all}
use Rattle.src_ast.specs.declared.lexeme.Name.{Name}
use Rattle.src_ast.specs.declared.lexeme.Place.{Place}
use Rattle.src_ast.specs.declared.fault.RefusalKind.{RefusalKind}
use Rattle.src_ast.specs.Rules.{Rule, Sort, variable, array, procedure, Declared, declared_by, variables}
use Rattle.src_ast.specs.Rules.{use_rules, expression_rules, argument_rules, size_of, size_of_all}
use Rattle.src_ast.specs.Rules.{statement_rules, body_rules, ending_rules, is_main, parameter_rules}
use Rattle.src_ast.specs.Rules.{variable_rules, has_main, arrays_in, procs_in, cells_in, size_of_ending}
use Rattle.src_ast.specs.Rules.{statements_in, part_rules, rules_after, rules_of, IsAccepted}
use Rattle.src_ast.specs.Same.{bare, bare_names, bare_expression, bare_expressions, bare_statement}
use Rattle.src_ast.specs.Same.{bare_statements, bare_ending, bare_part, bare_parts, Same}
use Rattle.src_ast.specs.Syntax.{Expression, Number, Variable, Cell, Signed, Binary, Statement, Assign, Store}
use Rattle.src_ast.specs.Syntax.{Print, Read, Give, Take, Call, If, While, Statements, Nothing, Then, Last}
use Rattle.src_ast.specs.Syntax.{Part, Array, Proc}

-- the same rules at other places: as many, and each is kept in both or in none
data Alike : List Rule → List Rule → Type 0 where
  none : Alike [] []
  more : {p q : Place} {k : RefusalKind} {b : Bool} {xs ys : List Rule} → Alike xs ys
      → Alike (record { place = p; kind = k; kept = b } ∷ xs) (record { place = q; kind = k; kept = b } ∷ ys)

both : {xs ys us vs : List Rule} → Alike xs ys → Alike us vs → Alike (xs ++ us) (ys ++ vs)
both none k = k
both (more h) k = more (both h k)

alike_kept : {xs ys : List Rule} → Alike xs ys → list_all (λ r. r.kept) xs ≡ list_all (λ r. r.kept) ys
alike_kept none = refl
alike_kept (more {b = b} h) = ap (λ t. b && t) (alike_kept h)

use_alike : (visible : List Declared) (x : Name) (sort : Sort) → Alike (use_rules visible (bare x) sort)
    (use_rules visible x sort)
use_alike visible x sort = more (more (more none))

expression_alike : (visible : List Declared) (e : Expression)
    → Alike (expression_rules visible (bare_expression e)) (expression_rules visible e)
expression_alike visible (Number n) = none
expression_alike visible (Variable x) = use_alike visible x variable
expression_alike visible (Cell a e) = both (use_alike visible a array) (expression_alike visible e)
expression_alike visible (Signed s e) = expression_alike visible e
expression_alike visible (Binary op a b) = both (expression_alike visible a) (expression_alike visible b)

arguments_alike : (visible : List Declared) (es : List Expression)
    → Alike (argument_rules visible (bare_expressions es)) (argument_rules visible es)
arguments_alike visible [] = none
arguments_alike visible (e ∷ es) = grind (arith, both, expression_alike, arguments_alike visible es)

length_bare : (es : List Expression) → length (bare_expressions es) ≡ length es
length_bare [] = refl
length_bare (e ∷ es) = ap suc (length_bare es)

mutual
  size_bare : (s : Statement) → size_of (bare_statement s) ≡ size_of s
  size_bare (If at e a b) = λ i. suc (size_all_bare a i + size_all_bare b i)
  size_bare (While at e body) = ap suc (size_all_bare body)
  size_bare _ = refl

  size_all_bare : (b : Statements) → size_of_all (bare_statements b) ≡ size_of_all b
  size_all_bare Nothing = refl
  size_all_bare (Then s rest) = λ i. size_bare s i + size_all_bare rest i

-- a call's procedure, with as many arguments
callee_alike : (visible : List Declared) (f : Name) (es : List Expression)
    → Alike (use_rules visible (bare f) (procedure (length (bare_expressions es))))
    (use_rules visible f (procedure (length es)))
callee_alike visible f es = rw (length_bare es) (use_alike visible f (procedure (length es)))

mutual
  statement_alike : (visible : List Declared) (k : ℕ) (s : Statement)
      → Alike (statement_rules visible k (bare_statement s)) (statement_rules visible k s)
  statement_alike visible k (Assign at x e) = both (use_alike visible x variable)
      (more (expression_alike visible e))
  statement_alike visible k (Store at a i e) =
      both (use_alike visible a array) (more (both (expression_alike visible i) (expression_alike visible e)))
  statement_alike visible k (Print at e) = more (expression_alike visible e)
  statement_alike visible k (Read at x) = more (use_alike visible x variable)
  statement_alike visible k (Give at n p x) = more (more (use_alike visible x variable))
  statement_alike visible k (Take at n p e) = more (more (expression_alike visible e))
  statement_alike visible k (Call at None f es) = both (callee_alike visible f es)
      (more (arguments_alike visible es))
  statement_alike visible k (Call at (Some x) f es) =
      both (use_alike visible x variable)
      (more (both (callee_alike visible f es) (arguments_alike visible es)))
  statement_alike visible k (If at e a b) =
      more (both (expression_alike visible e) (both (body_alike visible (suc k) a)
      (rw (size_all_bare a) (body_alike visible (suc k + size_of_all a) b))))
  statement_alike visible k (While at e body) =
      more (both (expression_alike visible e) (body_alike visible (suc k) body))

  body_alike : (visible : List Declared) (k : ℕ) (b : Statements)
      → Alike (body_rules visible k (bare_statements b)) (body_rules visible k b)
  body_alike visible k Nothing = none
  body_alike visible k (Then s rest) = both (statement_alike visible k s)
      (rw (size_bare s) (body_alike visible (k + size_of s) rest))

ending_alike : (visible : List Declared) (k : ℕ) (e : Option Last)
    → Alike (ending_rules visible k (bare_ending e)) (ending_rules visible k e)
ending_alike visible k None = none
ending_alike visible k (Some last) = more (expression_alike visible last.value)

parameters_alike : (main : Bool) (visible : List Declared) (k : ℕ) (xs : List Name)
    → Alike (parameter_rules main visible k (bare_names xs)) (parameter_rules main visible k xs)
parameters_alike main visible k [] = none
parameters_alike main visible k (x ∷ xs) =
    more (more
    (more (parameters_alike main (record { text = x.text; sort = variable } ∷ visible) (suc k) xs)))

variables_alike : (visible : List Declared) (k : ℕ) (xs : List Name)
    → Alike (variable_rules visible k (bare_names xs)) (variable_rules visible k xs)
variables_alike visible k [] = none
variables_alike visible k (x ∷ xs) =
    more (more (variables_alike (record { text = x.text; sort = variable } ∷ visible) (suc k) xs))

pub names_bare : (xs : List Name) → length (bare_names xs) ≡ length xs
names_bare [] = refl
names_bare (x ∷ xs) = ap suc (names_bare xs)

variables_bare : (xs : List Name) → variables (bare_names xs) ≡ variables xs
variables_bare [] = refl
variables_bare (x ∷ xs) = ap (λ ds. record { text = x.text; sort = variable } ∷ ds) (variables_bare xs)

locals_bare : (xs ys : List Name) → variables (bare_names xs ++ bare_names ys) ≡ variables (xs ++ ys)
locals_bare [] ys = variables_bare ys
locals_bare (x ∷ xs) ys = ap (λ ds. record { text = x.text; sort = variable } ∷ ds) (locals_bare xs ys)

declared_bare : (all : List Part) → declared_by (bare_parts all) ≡ declared_by all
declared_bare [] = refl
declared_bare (Array x n at ∷ all) = grind (arith, declared_bare all)
declared_bare (Proc p ∷ all) = λ i. record { text = p.name.text; sort = procedure (names_bare p.params i) }
    ∷ declared_bare all i

arrays_bare : (all : List Part) → arrays_in (bare_parts all) ≡ arrays_in all
arrays_bare [] = refl
arrays_bare (Array x n at ∷ all) = ap suc (arrays_bare all)
arrays_bare (Proc p ∷ all) = arrays_bare all

procs_bare : (all : List Part) → procs_in (bare_parts all) ≡ procs_in all
procs_bare [] = refl
procs_bare (Array x n at ∷ all) = procs_bare all
procs_bare (Proc p ∷ all) = ap suc (procs_bare all)

cells_bare : (all : List Part) → cells_in (bare_parts all) ≡ cells_in all
cells_bare [] = refl
cells_bare (Array x n at ∷ all) = ap (λ m. n + m) (cells_bare all)
cells_bare (Proc p ∷ all) = cells_bare all

main_bare : (all : List Part) → has_main (bare_parts all) ≡ has_main all
main_bare [] = refl
main_bare (Array x n at ∷ all) = main_bare all
main_bare (Proc p ∷ all) = λ i. (is_main p || main_bare all i)

ending_size : (e : Option Last) → size_of_ending (bare_ending e) ≡ size_of_ending e
ending_size e = grind arith

statements_bare : (all : List Part) → statements_in (bare_parts all) ≡ statements_in all
statements_bare [] = refl
statements_bare (Array x n at ∷ all) = statements_bare all
statements_bare (Proc p ∷ all) = λ i. size_all_bare p.body i + ending_size p.ending i + statements_bare all i

part_alike : (before : List Part) (p : Part) → Alike (part_rules (bare_parts before) (bare_part p))
    (part_rules before p)
part_alike before (Array x n at) = rw (declared_bare before, arrays_bare before, cells_bare before)
    (more (more (more (more none))))
part_alike before (Proc p) =
    let declared = declared_by before in
    let visible = variables (p.params ++ p.vars) ++ declared in
    let k = statements_in before in
    rw (
      declared_bare before,
      main_bare before,
      procs_bare before,
      statements_bare before,
      locals_bare p.params p.vars,
      variables_bare p.params,
      names_bare p.params,
      size_all_bare p.body,
    )
    (more (more (more
    (both (parameters_alike (is_main p) declared 0 p.params)
    (both (variables_alike (variables p.params ++ declared) (length p.params) p.vars)
    (both (body_alike visible k p.body) (ending_alike visible (k + size_of_all p.body) p.ending)))))))

append_bare : (xs ys : List Part) → bare_parts xs ++ bare_parts ys ≡ bare_parts (xs ++ ys)
append_bare [] ys = refl
append_bare (x ∷ xs) ys = ap (λ t. bare_part x ∷ t) (append_bare xs ys)

parts_alike : (before all : List Part) → Alike (rules_after (bare_parts before) (bare_parts all))
    (rules_after before all)
parts_alike before [] = none
parts_alike before (p ∷ all) =
    both (part_alike before p)
    (subst (λ b. Alike (rules_after b (bare_parts all)) (rules_after (before ++ p ∷ []) all))
    (sym (append_bare before (p ∷ []))) (parts_alike (before ++ p ∷ []) all))

rules_alike : (all : List Part) (f g : Place) → Alike (rules_of (bare_parts all) f) (rules_of all g)
rules_alike all f g = both (parts_alike [] all) (rw (main_bare all) (more none))

-- the same programs are accepted alike, wherever their texts end
pub accepted_alike : (a b : List Part) (f g : Place) → Same a b → IsAccepted a f → IsAccepted b g
accepted_alike a b f g e h = grind (arith, alike_kept (rules_alike b f g), alike_kept (rules_alike a f f))
