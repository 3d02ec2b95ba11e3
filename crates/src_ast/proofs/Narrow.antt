-- A written program has narrow statements, and the procedures of an accepted one have few parameters and
-- variables.
use Rattle.std.proofs.Common.{◌≡◌, ℕ, suc, ◌+◌, ◌≤◌, nat_lt, ◌==◌, Bool, true, not, ◌&&◌, length, List, ◌∷◌}
use Rattle.std.proofs.Common.{◌++◌, Option, sym, ◌∙◌, arith, []}
use Rattle.std.specs.List.{list_all}
use Rattle.std.proofs.lemmas.Bool.{and_parts, ltb-true}
use Rattle.std.proofs.lemmas.List.Folds.{list_all-append}
use Rattle.src_ast.specs.declared.lexeme.Name.{Name}
use Rattle.src_ast.specs.declared.lexeme.Place.{Place}
use Rattle.src_ast.specs.Syntax.{Expression, Cell, Signed, Binary, Statement, If, While, Statements, Nothing}
use Rattle.src_ast.specs.Syntax.{Then, Last, Procedure, Part, Array, Proc}
use Rattle.src_ast.specs.Written.{rounded, width, list_width, IsWrittenStatement, AreWrittenStatements}
use Rattle.src_ast.specs.Written.{IsWrittenEnding, IsWritten}
use Rattle.src_ast.specs.Bound.{nodes, nodes_of, most_nodes, most_nodes_of, ending_nodes, widest}
use Rattle.src_ast.specs.Bound.{most_variables}
use Rattle.src_ast.specs.Rules.{Rule, Declared, variable, is_visible, parameter_rules, variable_rules}
use Rattle.src_ast.specs.Rules.{part_rules, rules_after, IsAccepted}

-- parentheses only add
rounded_least : (needed : Bool) (n : ℕ) → n ≤ rounded needed n
rounded_least needed n = grind arith

-- each node of an expression is a lexeme of its printed form
nodes_width : (e : Expression) → nodes e ≤ width e
nodes_width (Cell a e) = omega (arith, nodes_width e)
nodes_width (Signed s e) = grind (arith, rounded_least, nodes_width e)
nodes_width (Binary op a b) = grind (arith, rounded_least, nodes_width a, nodes_width b)
nodes_width e = grind arith

nodes_list_width : (es : List Expression) → nodes_of es ≤ list_width es
nodes_list_width (e ∷ f ∷ es) = omega (arith, nodes_width e, nodes_list_width (f ∷ es))
nodes_list_width es = grind (arith, nodes_width)

mutual
  fit_narrow : (braces : ℕ) (s : Statement) → IsWrittenStatement braces s → most_nodes s ≤ 255
  fit_narrow braces (If at e a b) h =
      grind (arith, nodes_width, all_narrow (suc braces) a h.3, all_narrow (suc braces) b h.4)
  fit_narrow braces (While at e body) h = omega (arith, h.1, nodes_width e, all_narrow (suc braces) body h.3)
  fit_narrow v0 v1 v2 = grind (arith, nodes_width, nodes_list_width)

  all_narrow : (braces : ℕ) (b : Statements) → AreWrittenStatements braces b → most_nodes_of b ≤ 255
  all_narrow braces Nothing h = omega arith
  all_narrow braces (Then s rest) h = omega (arith, fit_narrow braces s h.0, all_narrow braces rest h.1)

ending_narrow : (e : Option Last) → IsWrittenEnding e → ending_nodes e ≤ 255
ending_narrow e h = grind (arith, nodes_width)

-- the statements of a written program have few nodes
pub written_narrow : (all : List Part) → IsWritten all → widest all ≤ 255
written_narrow [] h = omega arith
written_narrow (Array x n at ∷ all) h = written_narrow all h.1
written_narrow (Proc p ∷ all) h = grind (arith, all_narrow, ending_narrow, written_narrow all h.1)

-- a parameter after 8 others is refused
few_params : (main : Bool) (visible : List Declared) (k : ℕ) (xs : List Name) → k ≤ 8
    → list_all (λ r. r.kept) (parameter_rules main visible k xs) ≡ true
    → k + length xs ≤ 8
few_params main visible k [] h e = omega (arith, h)
few_params main visible k (x ∷ xs) h e =
    let first = and_parts (not (main && (k == 0))) _ e in
    let second = and_parts (not (is_visible visible x.text)) _ first.1 in
    let third = and_parts (nat_lt k 8) _ second.1 in
    let below = ltb-true k 8 third.0 in
    omega (
      arith,
      few_params main (record { text = x.text; sort = variable } ∷ visible) (suc k) xs
          (omega arith) third.1,
    )

-- a variable after 32 parameters and variables is refused
few_vars : (visible : List Declared) (k : ℕ) (xs : List Name) → k ≤ 32
    → list_all (λ r. r.kept) (variable_rules visible k xs) ≡ true → k + length xs ≤ 32
few_vars visible k [] h e = omega (arith, h)
few_vars visible k (x ∷ xs) h e =
    let first = and_parts (not (is_visible visible x.text)) _ e in
    let second = and_parts (nat_lt k 32) _ first.1 in
    let below = ltb-true k 32 second.0 in
    omega (
      arith,
      few_vars (record { text = x.text; sort = variable } ∷ visible) (suc k) xs
          (omega arith) second.1,
    )

procedure_few : (before : List Part) (p : Procedure) → list_all (λ r. r.kept) (part_rules before (Proc p))
    ≡ true → length p.params + length p.vars ≤ 32
procedure_few before p e = grind (arith, and_parts, list_all-append, few_params, few_vars)

few_from : (before all : List Part) → list_all (λ r. r.kept) (rules_after before all) ≡ true
    → most_variables all ≤ 32
few_from before [] e = omega arith
few_from before (Array x n at ∷ all) e =
    let kept : Rule → Bool = λ r. r.kept in
    let here = part_rules before (Array x n at) in
    let following = rules_after (before ++ Array x n at ∷ []) all in
    few_from (before ++ Array x n at ∷ []) all (and_parts (list_all kept here) (list_all kept following)
    (sym (list_all-append kept here following) ∙ e)).1
few_from before (Proc p ∷ all) e =
    let kept : Rule → Bool = λ r. r.kept in
    let here = part_rules before (Proc p) in
    let following = rules_after (before ++ Proc p ∷ []) all in
    let both = and_parts (list_all kept here) (list_all kept following)
    (sym (list_all-append kept here following) ∙ e) in
    omega (arith, procedure_few before p both.0, few_from (before ++ Proc p ∷ []) all both.1)

-- the procedures of an accepted program have few variables
pub accepted_few : (all : List Part) (finish : Place) → IsAccepted all finish → most_variables all ≤ 32
accepted_few all finish e = grind (arith, few_from, and_parts, list_all-append)
