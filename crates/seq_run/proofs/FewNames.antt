-- An accepted program has few enough names for 32 bits.
use Rattle.std.proofs.Common.{ℕ, ◌+◌, ◌<◌, ◌≤◌, ◌^◌, List, [], ◌∷◌, ◌++◌, length, arith}
use Rattle.std.specs.List.{AllByRecursion}
use Rattle.src_ast.specs.declared.lexeme.Place.{Place}
use Rattle.src_ast.specs.Syntax.{Part, Array, Proc}
use Rattle.src_ast.specs.Rules.{declared_by, variables, is_main, arrays_in, procs_in, part_rules, rules_after}
use Rattle.src_ast.specs.Rules.{IsAccepted}
use Rattle.src_ast.specs.Meaning.{procs_of}
use Rattle.seq_run.specs.Tables.{FewVars}
use Rattle.seq_run.proofs.InBodies.{Kept, kept_front, kept_after}
use Rattle.seq_run.proofs.PartRules.{proc_kept, array_room, params_few, vars_few}
use Rattle.src_check.proofs.Parts.{arrays_in-append as arrays_append, procs_in-append as procs_append}

few_from : (before parts : List Part) → arrays_in before ≤ 64 → procs_in before ≤ 64
    → Kept (rules_after before parts) → (arrays_in before + procs_in before) + length parts ≤ 128
few_from before [] la lp h = omega (arith, la, lp)
few_from before (Array x n at ∷ parts) la lp h =
    let next = before ++ Array x n at ∷ [] in
    let room = array_room before x n at (kept_front (part_rules before (Array x n at))
    (rules_after next parts) h) in
    let a = arrays_append before (Array x n at ∷ []) in
    let b = procs_append before (Array x n at ∷ []) in
    let i = few_from next parts (omega (arith, room, a)) (omega (arith, lp, b))
    (kept_after (part_rules before (Array x n at)) (rules_after next parts) h) in
    omega (arith, i, a, b)
few_from before (Proc p ∷ parts) la lp h =
    let next = before ++ Proc p ∷ [] in
    let kept = proc_kept before p (kept_front (part_rules before (Proc p)) (rules_after next parts) h) in
    let room = kept.room in
    let a = arrays_append before (Proc p ∷ []) in
    let b = procs_append before (Proc p ∷ []) in
    let i = few_from next parts (omega (arith, la, a)) (omega (arith, room, b))
    (kept_after (part_rules before (Proc p)) (rules_after next parts) h) in
    omega (arith, i, a, b)

-- an accepted program has few arrays and procedures
pub accepted_few : (parts : List Part) (finish : Place) → IsAccepted parts finish → length parts + 1 < 2 ^ 32
accepted_few parts finish a = grind (arith, few_from, kept_front)

few_vars : (n m : ℕ) → n + m ≤ 32 → n + m < 2 ^ 32
few_vars n m h = omega (arith, h)

vars_from : (before parts : List Part) → Kept (rules_after before parts)
    → AllByRecursion FewVars (procs_of parts)
vars_from before [] h = tt
vars_from before (Array x n at ∷ parts) h =
    let next = before ++ Array x n at ∷ [] in
    vars_from next parts (grind (arith, kept_after))
vars_from before (Proc p ∷ parts) h =
    let next = before ++ Proc p ∷ [] in
    let kept = proc_kept before p (kept_front (part_rules before (Proc p)) (rules_after next parts) h) in
    let k = params_few (is_main p) (declared_by before) 0 p.params (omega arith) kept.params in
    let m = vars_few (variables p.params ++ declared_by before) (length p.params) p.vars (omega (arith, k))
    kept.vars in (
      few_vars (length p.params) (length p.vars) m,
      vars_from next parts (kept_after (part_rules before (Proc p)) (rules_after next parts) h),
    )

-- and each procedure few variables
pub accepted_vars : (parts : List Part) (finish : Place) → IsAccepted parts finish
    → AllByRecursion FewVars (procs_of parts)
accepted_vars parts finish a = vars_from [] parts (kept_front (rules_after [] parts) _ a)
