-- An accepted program has few statements, of which each has a turn.
use Rattle.std.proofs.Common.{◌+◌, ◌≡◌, ◌≤◌, List, [], ◌∷◌, ◌++◌, Option, refl, arith}
use Rattle.src_ast.specs.declared.lexeme.Place.{Place}
use Rattle.src_ast.specs.Syntax.{Statement, Assign, Store, Print, Read, Give, Take, Call, If, While}
use Rattle.src_ast.specs.Syntax.{Statements, Nothing, Then, Last, Part, Array, Proc}
use Rattle.src_ast.specs.LanguageLimits.{most_statements}
use Rattle.src_ast.specs.Meaning.{procs_of}
use Rattle.src_ast.specs.Rules.{variables, declared_by, size_of, size_of_all, size_of_ending, statements_in}
use Rattle.src_ast.specs.Rules.{part_rules, rules_after, IsAccepted}
use Rattle.cfg_build.specs.Sizes.{sum_in, sum_over, sum_procs, ending_ops}
use Rattle.cfg_build.proofs.FewArrays.{kept_both}
use Rattle.seq_run.proofs.InBodies.{body_few, ending_few, Kept}
use Rattle.seq_run.proofs.PartRules.{proc_kept}
use Rattle.src_check.proofs.Parts.{statements_in-append as statements_both}

-- one for each statement

mutual
  one_each : (s : Statement) → sum_in (λ s. 1) s ≡ size_of s
  one_each (Assign at x e) = refl
  one_each (Store at a i e) = refl
  one_each (Print at e) = refl
  one_each (Read at x) = refl
  one_each (Give at n p x) = refl
  one_each (Take at n p e) = refl
  one_each (Call at x f es) = refl
  one_each (If at e a b) = omega (arith, all_each a, all_each b)
  one_each (While at e body) = omega (arith, all_each body)

  all_each : (b : Statements) → sum_over (λ s. 1) b ≡ size_of_all b
  all_each Nothing = refl
  all_each (Then s rest) = omega (arith, one_each s, all_each rest)

ending_same : (r : Option Last) → ending_ops r ≡ size_of_ending r
ending_same r = grind arith

pub turns_are : (parts : List Part) → sum_procs (λ s. 1) ending_ops (procs_of parts) ≡ statements_in parts
turns_are [] = refl
turns_are (Array x n at ∷ parts) = turns_are parts
turns_are (Proc p ∷ parts) = omega (arith, all_each p.body, ending_same p.ending, turns_are parts)

few_from : (before parts : List Part) → statements_in before ≤ most_statements
    → Kept (rules_after before parts) → statements_in before + statements_in parts ≤ most_statements
few_from before [] le h = omega (arith, le)
few_from before (Array x n at ∷ parts) le h =
    let next = before ++ Array x n at ∷ [] in
    let both = kept_both (part_rules before (Array x n at)) (rules_after next parts) h in
    let e = statements_both before (Array x n at ∷ []) in
    omega (arith, e, few_from next parts (omega (arith, e, le)) both.1)
few_from before (Proc p ∷ parts) le h =
    let next = before ++ Proc p ∷ [] in
    let both = kept_both (part_rules before (Proc p)) (rules_after next parts) h in
    let visible = variables (p.params ++ p.vars) ++ declared_by before in
    let kept = proc_kept before p both.0 in
    let body = body_few visible (statements_in before) p.body le kept.body in
    let whole = ending_few visible (statements_in before + size_of_all p.body) p.ending body kept.ending in
    let e = statements_both before (Proc p ∷ []) in
    omega (arith, e, few_from next parts (omega (arith, e, whole)) both.1)

-- the statements of an accepted program keep the limit
pub few_statements : (parts : List Part) (finish : Place) → IsAccepted parts finish
    → statements_in parts ≤ most_statements
few_statements parts finish h = grind (arith, few_from, kept_both)
