-- Where the rules of a program are kept, each number of the tree with numbers names something.
use Rattle.std.proofs.Common.{◌≡◌, ℕ, zero, suc, ◌+◌, ◌-◌, ◌<◌, ◌≤◌, Bool, true, false, ◌||◌, List, [], ◌∷◌}
use Rattle.std.proofs.Common.{◌++◌, length, refl, ap, ◌∙◌, subst, append_assoc, length-append, arith}
use Rattle.std.specs.List.{AllByRecursion}
use Rattle.src_ast.specs.declared.lexeme.Place.{Place}
use Rattle.src_ast.specs.declared.lexeme.Name.{Name}
use Rattle.src_ast.specs.Syntax.{Part, Array, Proc, Procedure}
use Rattle.src_ast.specs.Rules.{Declared, array, procedure, declared_by, variables, has_sort}
use Rattle.src_ast.specs.Rules.{is_main, has_main, procs_in, statements_in, size_of_all, parameter_rules}
use Rattle.src_ast.specs.Rules.{part_rules, rules_after, IsAccepted}
use Rattle.src_ast.specs.Meaning.{Scope, scope_of, arrays_of, lengths_of, procs_of, names_of, nth_procedure}
use Rattle.seq_run.specs.Resolved.{nth_proc}
use Rattle.seq_run.specs.Resolved as resolved
use Rattle.seq_run.specs.Resolving as resolving
use Rattle.seq_run.specs.InRange.{ProcIn, ProgramIn, steps_in}
use Rattle.seq_run.proofs.Declares.{procs_append}
use Rattle.seq_run.proofs.Places.{length_procs}
use Rattle.seq_run.proofs.Whole.{some_proc, accepted_has_proc, list_all_end}
use Rattle.seq_run.proofs.Visible.{in_front_or_after, variable_place, no_variable, only_variables}
use Rattle.seq_run.proofs.Visible.{array_place, procedure_place, array_stays, proc_stays}
use Rattle.seq_run.proofs.Visible.{nth_stays, Known, known_none, known_array, known_procedure}
use Rattle.seq_run.proofs.InBodies.{Kept, kept_front, kept_after, Seen, all_in, result_in, body_size}
use Rattle.seq_run.proofs.InBodies.{body_few, ending_few}
use Rattle.seq_run.proofs.PartRules.{proc_kept, array_kept, params_few, vars_few, no_params}
use Rattle.ws_words.proofs.Bools.{or_true, no_both}
use Rattle.src_check.proofs.Parts.{statements_in-append as statements_append}
use Rattle.src_ast.specs.Printed.{name_texts}

lengths_more : (ps qs : List Part) → length (arrays_of ps) ≤ length (lengths_of (ps ++ qs))
lengths_more [] qs = omega arith
lengths_more (Array x n at ∷ ps) qs = let h = lengths_more ps qs in omega (arith, h)
lengths_more (Proc p ∷ ps) qs = lengths_more ps qs

params_at : (arrays names : List Name) (ps : List Procedure) (k : ℕ)
    → (nth_proc (resolving.procs arrays names ps) k).params ≡ length (nth_procedure ps k).params
params_at arrays names (p ∷ ps) (suc k) = params_at arrays names ps k
params_at arrays names ps k = grind arith

abbrev scope_in : List Part → Procedure → Scope
scope_in whole p = scope_of (arrays_of whole) (names_of (procs_of whole)) p

abbrev visible_in : List Part → Procedure → List Declared
visible_in before p = variables (p.params ++ p.vars) ++ declared_by before

-- of these parts the procedure with this number
abbrev InRangeAt : List Part → ℕ → resolved.Proc → Type 0
InRangeAt whole home q = ProcIn (length (lengths_of whole)) (resolving.program whole).procs home q

-- a procedure after others is in range, whatever comes after it
module _ (before rest : List Part) (p : Procedure) (known : Known before) where
  declared_array : (text : List ℕ) → has_sort (visible_in before p) text array ≡ true
      → has_sort (declared_by before) text array ≡ true
  declared_array text h = grind (arith, in_front_or_after, no_both, only_variables)

  declared_procedure : (text : List ℕ) (n : ℕ) → has_sort (visible_in before p) text (procedure n) ≡ true
      → has_sort (declared_by before) text (procedure n) ≡ true
  declared_procedure text n h = grind (arith, in_front_or_after, no_both, only_variables)

  seen : Seen (scope_in (before ++ rest) p) (visible_in before p) (length (lengths_of (before ++ rest)))
      (resolving.program (before ++ rest)).procs (length (procs_of before)) (length p.params + length p.vars)
  seen = grind (
    arith,
    in_front_or_after,
    variable_place,
    length-append,
    no_both,
    no_variable,
    array_place,
    declared_array,
    array_stays,
    lengths_more,
    procedure_place,
    declared_procedure,
    proc_stays,
    params_at,
    nth_stays,
  )

  proc_in : Kept (part_rules before (Proc p)) → InRangeAt (before ++ rest) (length (procs_of before))
      (resolving.proc (scope_in (before ++ rest) p) p)
  proc_in h = grind (arith, proc_kept, params_few, vars_few, p.vars, all_in, seen, result_in, p.ending)

-- counts with one more part
module _ (before : List Part) where
  length_array : (x : Name) (n : ℕ) (at : Place) → length (procs_of (before ++ Array x n at ∷ []))
      ≡ length (procs_of before)
  length_array x n at = grind (arith, procs_append, length-append)

  length_procedure : (p : Procedure) → length (procs_of (before ++ Proc p ∷ []))
      ≡ suc (length (procs_of before))
  length_procedure p = grind (arith, procs_append, length-append)

procs_in_is : (ps : List Part) → procs_in ps ≡ length (procs_of ps)
procs_in_is [] = refl
procs_in_is (Array x n at ∷ ps) = procs_in_is ps
procs_in_is (Proc p ∷ ps) = ap suc (procs_in_is ps)

moved : (before : List Part) (part : Part) (parts whole : List Part) → before ++ part ∷ parts ≡ whole
    → (before ++ part ∷ []) ++ parts ≡ whole
moved before part parts whole e = append_assoc before (part ∷ []) parts ∙ e

all_procs_in : (whole before parts : List Part) → before ++ parts ≡ whole → Known before
    → Kept (rules_after before parts)
    → (k : ℕ) → k < length (procs_of parts) → InRangeAt whole (length (procs_of before) + k)
    (nth_proc (resolving.procs (arrays_of whole) (names_of (procs_of whole)) (procs_of parts)) k)
all_procs_in whole before [] e known h k lt = absurd (omega arith)
all_procs_in whole before (Array x n at ∷ parts) e known h k lt =
    let next = before ++ Array x n at ∷ [] in
    let i = all_procs_in whole next parts (moved before (Array x n at) parts whole e)
    (known_array before known x n at) (kept_after (part_rules before (Array x n at))
    (rules_after next parts) h) k lt in
    subst (λ (m : ℕ). InRangeAt whole (m + k)
    (nth_proc (resolving.procs (arrays_of whole) (names_of (procs_of whole)) (procs_of parts)) k))
    (length_array before x n at) i
all_procs_in whole before (Proc p ∷ parts) e known h zero lt =
    let here = proc_in before (Proc p ∷ parts) p known
    (kept_front (part_rules before (Proc p)) (rules_after (before ++ Proc p ∷ []) parts) h) in grind arith
all_procs_in whole before (Proc p ∷ parts) e known h (suc k) lt =
    let next = before ++ Proc p ∷ [] in
    let kept = proc_kept before p (kept_front (part_rules before (Proc p)) (rules_after next parts) h) in
    let i = all_procs_in whole next parts (moved before (Proc p) parts whole e)
    (known_procedure before known p kept.new) (kept_after (part_rules before (Proc p))
    (rules_after next parts) h) k (omega (arith, lt)) in
    let l = length_procedure before p in
    let z : length (procs_of next) + k ≡ length (procs_of before) + suc k = omega (arith, l) in
    subst (λ (m : ℕ). InRangeAt whole m
    (nth_proc (resolving.procs (arrays_of whole) (names_of (procs_of whole)) (procs_of parts)) k)) z i

procs_few : (before parts : List Part) → length (procs_of before) ≤ 64 → Kept (rules_after before parts)
    → length (procs_of before) + length (procs_of parts) ≤ 64
procs_few before [] le h = omega (arith, le)
procs_few before (Array x n at ∷ parts) le h =
    let next = before ++ Array x n at ∷ [] in
    let l = length_array before x n at in
    let i = procs_few next parts (omega (arith, l, le)) (kept_after (part_rules before (Array x n at))
    (rules_after next parts) h) in
    omega (arith, i, l)
procs_few before (Proc p ∷ parts) le h =
    let next = before ++ Proc p ∷ [] in
    let l = length_procedure before p in
    let kept = proc_kept before p (kept_front (part_rules before (Proc p)) (rules_after next parts) h) in
    let room = kept.room in
    let c = procs_in_is before in
    let i = procs_few next parts (omega (arith, l, room, c))
    (kept_after (part_rules before (Proc p)) (rules_after next parts) h) in
    omega (arith, i, l)

module _ (arrays names : List Name) where
  steps_few : (before parts : List Part) → statements_in before ≤ 2048 → Kept (rules_after before parts)
      → statements_in before + steps_in (resolving.procs arrays names (procs_of parts)) ≤ 2048
  steps_few before [] le h = omega (arith, le)
  steps_few before (Array x n at ∷ parts) le h =
      let next = before ++ Array x n at ∷ [] in
      let l = statements_append before (Array x n at ∷ []) in
      let i = steps_few next parts (omega (arith, l, le)) (kept_after (part_rules before (Array x n at))
      (rules_after next parts) h) in
      omega (arith, i, l)
  steps_few before (Proc p ∷ parts) le h =
      let next = before ++ Proc p ∷ [] in
      let l = statements_append before (Proc p ∷ []) in
      let kept = proc_kept before p (kept_front (part_rules before (Proc p)) (rules_after next parts) h) in
      let few = body_few (visible_in before p) (statements_in before) p.body le kept.body in
      let fewer = ending_few (visible_in before p) (statements_in before + size_of_all p.body) p.ending few
      kept.ending in
      let s = body_size (scope_of arrays names p) p.body in
      let i = steps_few next parts (omega (arith, l, fewer))
      (kept_after (part_rules before (Proc p)) (rules_after next parts) h) in
      omega (arith, i, l, s)

lengths_in : (before parts : List Part) → Kept (rules_after before parts)
    → AllByRecursion (λ n. n ≤ 65536) (lengths_of parts)
lengths_in before [] h = tt
lengths_in before (Array x n at ∷ parts) h =
    let next = before ++ Array x n at ∷ [] in (
      array_kept before x n at (kept_front (part_rules before (Array x n at)) (rules_after next parts) h),
      lengths_in next parts (kept_after (part_rules before (Array x n at)) (rules_after next parts) h),
    )
lengths_in before (Proc p ∷ parts) h =
    let next = before ++ Proc p ∷ [] in
    lengths_in next parts (kept_after (part_rules before (Proc p)) (rules_after next parts) h)

length_texts : (parts : List Part) → length (name_texts (arrays_of parts)) ≡ length (lengths_of parts)
length_texts [] = refl
length_texts (Array x n at ∷ parts) = ap suc (length_texts parts)
length_texts (Proc p ∷ parts) = length_texts parts

main_front : (ps qs : List Part) → has_main ps ≡ true → has_main (ps ++ qs) ≡ true
main_front [] qs h = absurd (cc)
main_front (Array x n at ∷ ps) qs h = main_front ps qs h
main_front (Proc p ∷ ps) qs h = by_flag (is_main p) h (main_front ps qs)
  where
    by_flag : (b : Bool) → (b || has_main ps) ≡ true → (has_main ps ≡ true → has_main (ps ++ qs) ≡ true)
        → (b || has_main (ps ++ qs)) ≡ true
    by_flag b h f = grind arith

main_last : (ps : List Part) (p : Procedure) → is_main p ≡ true → has_main (ps ++ Proc p ∷ []) ≡ true
main_last [] p h = ap (λ (b : Bool). b || false) h
main_last (Array x n at ∷ ps) p h = main_last ps p h
main_last (Proc q ∷ ps) p h = grind (arith, or_true, main_last ps p h)

-- no procedure stands after `main`
none_after : (before parts : List Part) → has_main before ≡ true → Kept (rules_after before parts)
    → length (procs_of parts) ≡ 0
none_after before (Array x n at ∷ parts) m h =
    let next = before ++ Array x n at ∷ [] in none_after next parts (main_front before (Array x n at ∷ []) m)
    (kept_after (part_rules before (Array x n at)) (rules_after next parts) h)
none_after before parts m h = grind (arith, no_both, proc_kept, kept_front)

main_in : (before parts : List Part) → Kept (rules_after before parts) → has_main parts ≡ true
    → length (nth_procedure (procs_of parts) (length (procs_of parts) - 1)).params ≡ 0
main_in before [] h m = absurd (cc)
main_in before (Array x n at ∷ parts) h m =
    let next = before ++ Array x n at ∷ [] in
    main_in next parts (grind (arith, kept_after)) m
main_in before (Proc p ∷ parts) h m =
    let next = before ++ Proc p ∷ [] in
    let following = kept_after (part_rules before (Proc p)) (rules_after next parts) h in
    by_flag (is_main p) refl m
    (proc_kept before p (kept_front (part_rules before (Proc p)) (rules_after next parts) h)).params
    (λ f. none_after next parts (main_last before p f) following)
    (main_in next parts following)
  where
    by_flag : (b : Bool) → is_main p ≡ b → (b || has_main parts) ≡ true
        → Kept (parameter_rules (is_main p) (declared_by before) 0 p.params)
        → (is_main p ≡ true → length (procs_of parts) ≡ 0)
        → (has_main parts ≡ true
        → length (nth_procedure (procs_of parts) (length (procs_of parts) - 1)).params ≡ 0)
        → length (nth_procedure (p ∷ procs_of parts) (suc (length (procs_of parts)) - 1)).params ≡ 0
    by_flag b e m h none later = grind (arith, no_params, some_proc)

-- an accepted program is in range
pub accepted_in : (parts : List Part) (finish : Place) → IsAccepted parts finish
    → ProgramIn (resolving.program parts)
accepted_in parts finish a =
    let h : Kept (rules_after [] parts) = kept_front (rules_after [] parts) _ a in
    let arrays = arrays_of parts in let names = names_of (procs_of parts) in
    let l = length_procs arrays names (procs_of parts) in
    let some = accepted_has_proc parts finish a in
    let few = procs_few [] parts (omega arith) h in
    let steps = steps_few arrays names [] parts (omega arith) h in
    record {
      some_proc = omega (arith, l, some);
      few_procs = omega (arith, l, few);
      main = params_at arrays names (procs_of parts) (length (resolving.procs arrays names (procs_of parts))
          - 1)
          ∙ ap (λ (k : ℕ). length (nth_procedure (procs_of parts) (k - 1)).params) l
          ∙ main_in [] parts h (list_all_end (rules_after [] parts) _ a);
      names = length_texts parts;
      lengths = lengths_in [] parts h;
      procs = λ k lt.
          let z : 0 + k ≡ k = omega arith in
          subst (λ (m : ℕ). InRangeAt parts m (nth_proc (resolving.procs arrays names (procs_of parts)) k)) z
          (all_procs_in parts [] parts refl known_none h k (omega (arith, lt, l)));
      few_steps = omega (arith, steps);
    }
