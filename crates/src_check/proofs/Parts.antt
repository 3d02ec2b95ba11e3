-- The rules of an array or a procedure, as tested; and what is known after one more of them.
use Rattle.std.proofs.Common.{◌≡◌, ℕ, ◌+◌, List, [], ◌∷◌, ◌++◌, Bool, true, false, not, ◌||◌, nat_lt, nat_le}
use Rattle.std.proofs.Common.{nat_eq, Option, Some, if◌then◌else◌, length, refl, arith}
use lib.Pointwise.{pointwise}
use Rattle.src_ast.specs.declared.lexeme.Place.{Place}
use Rattle.src_ast.specs.declared.lexeme.Name.{Name}
use Rattle.src_ast.specs.declared.fault.RefusalKind.TheVariants.{Main, Twice, Limit}
use Rattle.src_ast.specs.declared.fault.Quantity.TheVariants.{Arrays, Length, CellSum, Procs}
use Rattle.src_ast.specs.Syntax.{Part, Array, Proc, Procedure}
use Rattle.src_ast.specs.Rules.{array, procedure, variables, is_visible, declared_by, arrays_in, procs_in}
use Rattle.src_ast.specs.Rules.{cells_in, statements_in, has_main, is_main, size_of_all, size_of_ending}
use Rattle.src_ast.specs.Rules.{part_rules, parameter_rules, variable_rules, body_rules, ending_rules, rule}
use Rattle.src_check.specs.Names.{found, passes, StandsFor}
use Rattle.src_check.specs.After.{IsAfter}
use Rattle.src_check.specs.declared.checker.Checker.{Checker}
use Rattle.src_check.proofs.Stands.{stands_with, stands_moved}
use Rattle.ws_words.proofs.Bools.{or_false}

-- the rules of an array by what the checker knows
pub array_rules_as : (before : List Part) (x : Name) (n : ℕ) (at : Place) (known : Bool) (checker : Checker)
    → known ≡ is_visible (declared_by before) x.text → IsAfter checker before
    → part_rules before (Array x n at) ≡ rule x.place Twice (not known) ∷ rule x.place (Limit Arrays)
    (nat_lt checker.arrays 64) ∷ rule at (Limit Length) (nat_le n 65536) ∷ rule at (Limit CellSum)
    (nat_le (checker.cells + n) 1048576) ∷ []
array_rules_as before x n at known checker is_known b = grind (arith, nat_lt, nat_le)

-- the rules of a procedure by what the checker knows
pub procedure_rules_as : (before : List Part) (p : Procedure) (known : Bool) (checker : Checker) (main : Bool)
    (count : ℕ) → known ≡ is_visible (declared_by before) p.name.text → main ≡ is_main p
    → IsAfter checker before
    → count ≡ checker.statements + size_of_all p.body
    → part_rules before (Proc p)
    ≡ (rule p.name.place Main (not checker.has_main) ∷ [])
    ++ ((rule p.name.place Twice (not known) ∷ [])
    ++ ((rule p.name.place (Limit Procs) (nat_lt checker.procedures 64) ∷ [])
    ++ (parameter_rules main (declared_by before) 0 p.params
    ++ (variable_rules (variables p.params ++ declared_by before) (length p.params) p.vars
    ++ (body_rules (variables (p.params ++ p.vars) ++ declared_by before) checker.statements p.body
    ++ ending_rules (variables (p.params ++ p.vars) ++ declared_by before) count p.ending)))))
procedure_rules_as before p known checker main count is_known at_main b at_count = grind (arith, nat_lt)

pub declared_by-append : (ps qs : List Part) → declared_by (ps ++ qs) ≡ declared_by ps ++ declared_by qs
declared_by-append [] qs = refl
declared_by-append (Array x n at ∷ ps) qs = grind (arith, declared_by-append ps qs)
declared_by-append (Proc p ∷ ps) qs = grind (arith, declared_by-append ps qs)

pub arrays_in-append : (ps qs : List Part) → arrays_in (ps ++ qs) ≡ arrays_in ps + arrays_in qs
arrays_in-append [] qs = omega arith
arrays_in-append (Array x n at ∷ ps) qs = let h = arrays_in-append ps qs in omega arith
arrays_in-append (Proc p ∷ ps) qs = arrays_in-append ps qs

pub procs_in-append : (ps qs : List Part) → procs_in (ps ++ qs) ≡ procs_in ps + procs_in qs
procs_in-append [] qs = omega arith
procs_in-append (Array x n at ∷ ps) qs = procs_in-append ps qs
procs_in-append (Proc p ∷ ps) qs = let h = procs_in-append ps qs in omega arith

pub cells_in-append : (ps qs : List Part) → cells_in (ps ++ qs) ≡ cells_in ps + cells_in qs
cells_in-append [] qs = omega arith
cells_in-append (Array x n at ∷ ps) qs = let h = cells_in-append ps qs in omega arith
cells_in-append (Proc p ∷ ps) qs = cells_in-append ps qs

pub statements_in-append : (ps qs : List Part) → statements_in (ps ++ qs) ≡ statements_in ps + statements_in
    qs
statements_in-append [] qs = omega arith
statements_in-append (Array x n at ∷ ps) qs = statements_in-append ps qs
statements_in-append (Proc p ∷ ps) qs = let h = statements_in-append ps qs in omega arith

or_assoc : (a b c : Bool) → (a || (b || c)) ≡ ((a || b) || c)
or_assoc a b c = grind arith

has_main-append : (ps qs : List Part) → has_main (ps ++ qs) ≡ (has_main ps || has_main qs)
has_main-append [] qs = refl
has_main-append (Array x n at ∷ ps) qs = has_main-append ps qs
has_main-append (Proc p ∷ ps) qs = grind (arith, or_assoc, has_main-append ps qs)

stands_after : {find : List ℕ → Option _} (before : List Part) (p : Part)
    → StandsFor find (declared_by (p ∷ []) ++ declared_by before)
    → StandsFor find (declared_by (before ++ p ∷ []))
stands_after before p st = grind (arith, declared_by-append, stands_moved)

module _ (old new : Checker) (before : List Part) (b : IsAfter old before) where
  -- what the checker knows after an array
  pub after_array : (x : Name) (n : ℕ) (at : Place) → passes (λ _. true) (found old.names.outer x.text)
      ≡ false
      → ((text : List ℕ) → found new.names.outer text ≡ (if pointwise nat_eq x.text text then Some array
      else found old.names.outer text))
      → new.arrays ≡ old.arrays + 1 → new.procedures ≡ old.procedures → new.cells ≡ old.cells + n
      → new.statements ≡ old.statements → new.has_main ≡ old.has_main
      → IsAfter new (before ++ Array x n at ∷ [])
  after_array x n at free puts arrays procedures cells statements main = record {
    names = grind (arith, stands_after, stands_with);
    arrays = grind (arith, arrays_in-append);
    procedures = grind (arith, procs_in-append);
    cells = grind (arith, cells_in-append);
    statements = grind (arith, statements_in-append);
    main = grind (arith, or_false, has_main-append);
  }

  -- what the checker knows after a procedure
  pub after_procedure : (p : Procedure) (count : ℕ) → passes (λ _. true) (found old.names.outer p.name.text)
      ≡ false → old.has_main ≡ false
      → ((text : List ℕ) → found new.names.outer text ≡ (if pointwise nat_eq p.name.text text
      then Some (procedure (length p.params)) else found old.names.outer text))
      → new.arrays ≡ old.arrays → new.procedures ≡ old.procedures + 1 → new.cells ≡ old.cells
      → count ≡ old.statements + size_of_all p.body → new.statements ≡ count + size_of_ending p.ending
      → new.has_main ≡ is_main p
      → IsAfter new (before ++ Proc p ∷ [])
  after_procedure p count free no_main puts arrays procedures cells counted statements main = grind (
    arith,
    stands_after,
    stands_with,
    arrays_in-append,
    procs_in-append,
    cells_in-append,
    statements_in-append,
    or_false,
    has_main-append,
  )
