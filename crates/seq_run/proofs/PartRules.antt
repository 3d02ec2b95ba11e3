-- What the rules of one array or procedure say where they are kept.
use Rattle.std.proofs.Common.{◌≡◌, ℕ, suc, ◌+◌, ◌<◌, ◌≤◌, ◌==◌, nat_lt, nat_le, Bool, true, false, not, ◌&&◌}
use Rattle.std.proofs.Common.{List, [], ◌∷◌, ◌++◌, length, refl, arith}
use Rattle.std.proofs.lemmas.Bool.{ltb-true, leb-true}
use Rattle.src_ast.specs.declared.lexeme.Place.{Place}
use Rattle.src_ast.specs.declared.lexeme.Name.{Name}
use Rattle.src_ast.specs.declared.fault.Quantity.TheVariants.{Params, Vars}
use Rattle.src_ast.specs.declared.fault.RefusalKind.TheVariants.{Twice, Main, Limit}
use Rattle.src_ast.specs.Syntax.{Part, Array, Proc, Procedure}
use Rattle.src_ast.specs.Rules.{Rule, Declared, variable, declared_by, variables, is_visible, is_main}
use Rattle.src_ast.specs.Rules.{has_main, arrays_in, procs_in, statements_in, size_of_all}
use Rattle.src_ast.specs.Rules.{parameter_rules, variable_rules, body_rules, ending_rules, part_rules}
use Rattle.seq_run.proofs.InBodies.{Kept, kept_front, kept_after, kept_one, kept_rest}
use Rattle.ws_words.proofs.Bools.{not_true}

-- the rules of a procedure, one by one
pub record ProcKept (before : List Part) (p : Procedure) : Type 0 where
  pub first : has_main before ≡ false
  pub new : is_visible (declared_by before) p.name.text ≡ false
  pub room : procs_in before < 64
  pub params : Kept (parameter_rules (is_main p) (declared_by before) 0 p.params)
  pub vars : Kept (variable_rules (variables p.params ++ declared_by before) (length p.params) p.vars)
  pub body : Kept (body_rules (variables (p.params ++ p.vars) ++ declared_by before) (statements_in before)
      p.body)
  pub ending : Kept (ending_rules (variables (p.params ++ p.vars) ++ declared_by before)
      (statements_in before + size_of_all p.body) p.ending)

-- what the rules say of a procedure
pub proc_kept : (before : List Part) (p : Procedure) → Kept (part_rules before (Proc p)) → ProcKept before p
proc_kept before p h = grind (arith, nat_lt, kept_rest, kept_after, not_true, kept_one, ltb-true, kept_front)

-- what they say of the length of an array
pub array_kept : (before : List Part) (x : Name) (n : ℕ) (at : Place)
    → Kept (part_rules before (Array x n at)) → n ≤ 65536
array_kept before x n at h = grind (arith, nat_lt, nat_le, leb-true, kept_one, kept_rest)

-- there is room for an array
pub array_room : (before : List Part) (x : Name) (n : ℕ) (at : Place)
    → Kept (part_rules before (Array x n at)) → arrays_in before < 64
array_room before x n at h = grind (arith, nat_lt, nat_le, ltb-true, kept_one, kept_rest)

-- there are few enough parameters
pub params_few : (main : Bool) (visible : List Declared) (k : ℕ) (xs : List Name) → k ≤ 8
    → Kept (parameter_rules main visible k xs) → k + length xs ≤ 8
params_few main visible k [] le h = omega (arith, le)
params_few main visible k (x ∷ xs) le h =
    let rest = parameter_rules main (record { text = x.text; sort = variable } ∷ visible) (suc k) xs in
    let r1 : Rule = record { place = x.place; kind = Main; kept = not (main && (k == 0)) } in
    let r2 : Rule = record { place = x.place; kind = Twice; kept = not (is_visible visible x.text) } in
    let r3 : Rule = record { place = x.place; kind = Limit Params; kept = nat_lt k 8 } in
    let h3 = kept_rest r2 (r3 ∷ rest) (kept_rest r1 (r2 ∷ (r3 ∷ rest)) h) in
    let lt = ltb-true k 8 (kept_one r3 rest h3) in
    let i = params_few main (record { text = x.text; sort = variable } ∷ visible) (suc k) xs
    (omega (arith, lt)) (kept_rest r3 rest h3) in
    omega (arith, i)

-- there are few enough variables
pub vars_few : (visible : List Declared) (k : ℕ) (xs : List Name) → k ≤ 32
    → Kept (variable_rules visible k xs) → k + length xs ≤ 32
vars_few visible k [] le h = omega (arith, le)
vars_few visible k (x ∷ xs) le h =
    let rest = variable_rules (record { text = x.text; sort = variable } ∷ visible) (suc k) xs in
    let r1 : Rule = record { place = x.place; kind = Twice; kept = not (is_visible visible x.text) } in
    let r2 : Rule = record { place = x.place; kind = Limit Vars; kept = nat_lt k 32 } in
    let h2 = kept_rest r1 (r2 ∷ rest) h in
    let lt = ltb-true k 32 (kept_one r2 rest h2) in
    let i = vars_few (record { text = x.text; sort = variable } ∷ visible) (suc k) xs (omega (arith, lt))
    (kept_rest r2 rest h2) in
    omega (arith, i)

-- `main` has no parameters
pub no_params : (visible : List Declared) (xs : List Name) → Kept (parameter_rules true visible 0 xs)
    → length xs ≡ 0
no_params visible [] h = refl
no_params visible (x ∷ xs) h = absurd (cc)
