-- What does not see the places of a program: how it runs.
use Rattle.std.proofs.Common.{arith, ◌≡◌, ℕ, zero, suc, ◌-◌, ◌==◌, length, List, ◌∷◌, ◌++◌, Option, Some, []}
use Rattle.std.proofs.Common.{None, if◌then◌else◌, slice_index, nat_eq, refl, sym, ap, ◌∙◌, subst}
use lib.Pointwise.{pointwise}
use Rattle.ws_words.specs.Operators.{applied}
use Rattle.ws_words.specs.Outside.{Outside, ProcState, write, with_acts, row, loads, stored, printed, taken}
use Rattle.ws_words.specs.Outside.{zeros, opening_out}
use Rattle.src_ast.specs.declared.lexeme.Name.{Name}
use Rattle.src_ast.specs.Syntax.{Expression, Cell, Signed, Binary, Statement, Assign, Store}
use Rattle.src_ast.specs.Syntax.{Print, Read, Give, Take, Call, If, While, Statements, Nothing, Then, Last}
use Rattle.src_ast.specs.Syntax.{Procedure, Part, Array, Proc}
use Rattle.src_ast.specs.Turns.{Ended, and_then, turn, CallEnd, Returned, Stopped, back_in, ending, loop}
use Rattle.src_ast.specs.Meaning.{signed_value, place_of, Scope, value, loads_of, values, all_loads, value_of}
use Rattle.src_ast.specs.Meaning.{values_of, target, Calls, run_one, run_all, finish, scope_of, run_procedure}
use Rattle.src_ast.specs.Meaning.{arrays_of, lengths_of, procs_of, names_of, nth_procedure, empty_cells}
use Rattle.src_ast.specs.Meaning.{run_number, calls_below, run_at, run}
use Rattle.ws_words.specs.Past.{AreWithin, FirstPast, after_acts}
use Rattle.src_ast.specs.Runs.{outside_of}
use Rattle.src_ast.specs.Alike.{RunAlike}
use Rattle.src_ast.specs.Same.{bare, bare_names, bare_target, bare_expression, bare_expressions}
use Rattle.src_ast.specs.Same.{bare_statement, bare_statements, bare_ending, bare_parts, Same}
use Rattle.src_ast.proofs.Ruled.{names_bare as length_bare}

place_bare : (ns : List Name) (x : List ℕ) → place_of (bare_names ns) x ≡ place_of ns x
place_bare [] x = refl
place_bare (n ∷ ns) x = grind (arith, pointwise, nat_eq, place_bare ns x)

abbrev bare_scope : Scope → Scope
bare_scope scope = record {
  names = bare_names scope.names;
  arrays = bare_names scope.arrays;
  procs = bare_names scope.procs;
}

value_bare : (scope : Scope) (e : Expression) → value (bare_scope scope) (bare_expression e) ≡ value scope e
value_bare scope (Cell a e) = λ i vars cells.
    slice_index (row cells (suc (place_bare scope.arrays a.text i) - 1)) (value_bare scope e i vars cells)
value_bare scope (Signed sign e) = λ i vars cells. signed_value sign (value_bare scope e i vars cells)
value_bare scope (Binary op a b) = λ i vars cells. applied op (value_bare scope a i vars cells)
    (value_bare scope b i vars cells)
value_bare scope e = grind (arith, slice_index, place_bare)

loads_bare : (scope : Scope) (e : Expression) → loads_of (bare_scope scope) (bare_expression e) ≡ loads_of
    scope e
loads_bare scope (Cell a e) =
    λ i vars cells. loads_bare scope e i vars cells ++ loads (suc (place_bare scope.arrays a.text i))
    (value_bare scope e i vars cells) ∷ []
loads_bare scope (Signed sign e) = loads_bare scope e
loads_bare scope (Binary op a b) = λ i vars cells. loads_bare scope a i vars cells ++ loads_bare scope b i
    vars cells
loads_bare scope e = grind arith

values_bare : (scope : Scope) (es : List Expression) → values (bare_scope scope) (bare_expressions es)
    ≡ values scope es
values_bare scope [] = refl
values_bare scope (e ∷ es) = λ i vars cells. value_bare scope e i vars cells ∷ values_bare scope es i vars
    cells

all_loads_bare : (scope : Scope) (es : List Expression) → all_loads (bare_scope scope) (bare_expressions es)
    ≡ all_loads scope es
all_loads_bare scope [] = refl
all_loads_bare scope (e ∷ es) = λ i vars cells. loads_bare scope e i vars cells ++ all_loads_bare scope es i
    vars cells

value_of_bare : (scope : Scope) (e : Expression) → value_of (bare_scope scope) (bare_expression e) ≡ value_of
    scope e
value_of_bare scope e = λ i s. (
  value_bare scope e i s.vars s.out.cells,
  with_acts s (loads_bare scope e i s.vars s.out.cells),
)

values_of_bare : (scope : Scope) (es : List Expression) → values_of (bare_scope scope) (bare_expressions es)
    ≡ values_of scope es
values_of_bare scope es = λ i s. (
  values_bare scope es i s.vars s.out.cells,
  with_acts s (all_loads_bare scope es i s.vars s.out.cells),
)

target_is : (scope : Scope) (x : Option Name) → target (bare_scope scope) (bare_target x) ≡ target scope x
target_is scope x = grind (arith, place_bare)

mutual
  one_bare : (scope : Scope) (calls : Calls) (s : Statement) → run_one (bare_scope scope) calls
      (bare_statement s) ≡ run_one scope calls s
  one_bare scope calls (Assign at x e) =
      λ i s k. turn k s (λ j. let v = value_of_bare scope e i s in
      Ended (write v.1 (place_bare scope.names x.text i) v.0) j)
  one_bare scope calls (Store at a e f) =
      λ i s k. turn k s (λ j. let n = value_of_bare scope e i s in let v = value_of_bare scope f i n.1 in
      Ended (stored v.1 (suc (place_bare scope.arrays a.text i)) n.0 v.0) j)
  one_bare scope calls (Print at e) = λ i s k. turn k s (λ j. let v = value_of_bare scope e i s in
      Ended (printed v.1 v.0) j)
  one_bare scope calls (Read at x) = grind (arith, place_bare)
  one_bare scope calls (Give at p q x) = grind (arith, place_bare)
  one_bare scope calls (Take at p q e) = λ i s k. turn k s (λ j. let v = value_of_bare scope e i s in
      Ended (taken v.1 p v.0) j)
  one_bare scope calls (Call at x f args) =
      λ i s k. turn k s (λ j. let vs = values_of_bare scope args i s in
      back_in vs.1.vars (target_is scope x i) (calls (place_bare scope.procs f.text i) vs.0 vs.1.out j))
  one_bare scope calls (If at e a b) =
      λ i s k. turn k s (λ j. let v = value_of_bare scope e i s in if v.0 == 0
      then all_bare scope calls b i v.1 j else all_bare scope calls a i v.1 j)
  one_bare scope calls (While at e body) = λ i s k. loop (suc k) (value_of_bare scope e i)
      (all_bare scope calls body i) s k

  all_bare : (scope : Scope) (calls : Calls) (b : Statements) → run_all (bare_scope scope) calls
      (bare_statements b) ≡ run_all scope calls b
  all_bare scope calls Nothing = refl
  all_bare scope calls (Then st rest) = λ i s k. and_then (one_bare scope calls st i s k)
      (all_bare scope calls rest i)

finish_at : (scope : Scope) (e : Option Last) (s : ProcState) (k : ℕ)
    → finish (bare_scope scope) (bare_ending e) s k ≡ finish scope e s k
finish_at scope None s k = refl
finish_at scope (Some e) s zero = refl
finish_at scope (Some e) s (suc j) = ap (λ (v : ℕ × ProcState). Returned v.0 v.1.out j)
    (λ i. value_of_bare scope e.value i s)

names_append : (xs ys : List Name) → bare_names xs ++ bare_names ys ≡ bare_names (xs ++ ys)
names_append [] ys = refl
names_append (x ∷ xs) ys = ap (λ zs. bare x ∷ zs) (names_append xs ys)

abbrev bare_procedure : Procedure → Procedure
bare_procedure p =
    record {
      name = bare p.name;
      params = bare_names p.params;
      vars = bare_names p.vars;
      body = bare_statements p.body;
      ending = bare_ending p.ending;
    }

abbrev bare_procedures : List Procedure → List Procedure
bare_procedures [] = []
bare_procedures (p ∷ ps) = bare_procedure p ∷ bare_procedures ps

scope_bare : (arrays procs : List Name) (p : Procedure) → scope_of (bare_names arrays) (bare_names procs)
    (bare_procedure p) ≡ bare_scope (scope_of arrays procs p)
scope_bare arrays procs p = grind (arith, names_append, p.vars)

procedure_bare : (scope : Scope) (calls : Calls) (p : Procedure) → run_procedure (bare_scope scope) calls
    (bare_procedure p) ≡ run_procedure scope calls p
procedure_bare scope calls p =
    λ i args o k.
    ending (all_bare scope calls p.body i
    (record { vars = args ++ zeros (length_bare p.vars i); out = o }) k)
    (λ s j. finish_at scope p.ending s j i)

-- the procedure of a number, with its scope
abbrev nth_run : List Name → List Name → List Procedure → Calls → ℕ → List ℕ → Outside → ℕ → CallEnd
nth_run arrays procs ps calls n = let p = nth_procedure ps n in run_procedure (scope_of arrays procs p) calls
    p

nth_bare : (arrays procs : List Name) (ps : List Procedure) (calls : Calls) (n : ℕ)
    → nth_run (bare_names arrays) (bare_names procs) (bare_procedures ps) calls n ≡ nth_run arrays procs ps
    calls n
nth_bare arrays procs [] calls n = refl
nth_bare arrays procs (p ∷ ps) calls zero =
    grind (arith, scope_bare arrays procs p, procedure_bare (scope_of arrays procs p) calls p)
nth_bare arrays procs (p ∷ ps) calls (suc n) = nth_bare arrays procs ps calls n

arrays_bare : (all : List Part) → arrays_of (bare_parts all) ≡ bare_names (arrays_of all)
arrays_bare [] = refl
arrays_bare (Array x n at ∷ all) = ap (λ xs. bare x ∷ xs) (arrays_bare all)
arrays_bare (Proc p ∷ all) = arrays_bare all

lengths_bare : (all : List Part) → lengths_of (bare_parts all) ≡ lengths_of all
lengths_bare [] = refl
lengths_bare (Array x n at ∷ all) = ap (λ ns. n ∷ ns) (lengths_bare all)
lengths_bare (Proc p ∷ all) = lengths_bare all

procs_bare : (all : List Part) → procs_of (bare_parts all) ≡ bare_procedures (procs_of all)
procs_bare [] = refl
procs_bare (Array x n at ∷ all) = procs_bare all
procs_bare (Proc p ∷ all) = ap (λ ps. bare_procedure p ∷ ps) (procs_bare all)

names_bare : (ps : List Procedure) → names_of (bare_procedures ps) ≡ bare_names (names_of ps)
names_bare [] = refl
names_bare (p ∷ ps) = ap (λ xs. bare p.name ∷ xs) (names_bare ps)

count_bare : (ps : List Procedure) → length (bare_procedures ps) ≡ length ps
count_bare [] = refl
count_bare (p ∷ ps) = ap suc (count_bare ps)

number_bare : (all : List Part) (calls : Calls) (n : ℕ) → run_number (bare_parts all) calls n ≡ run_number all
    calls n
number_bare all calls n =
    (λ i. nth_run (arrays_bare all i) (names_of (procs_bare all i)) (procs_bare all i) calls n)
    ∙ ap (λ names. nth_run (bare_names (arrays_of all)) names (bare_procedures (procs_of all)) calls n)
    (names_bare (procs_of all))
    ∙ nth_bare (arrays_of all) (names_of (procs_of all)) (procs_of all) calls n

calls_bare : (n : ℕ) (all : List Part) → calls_below n (bare_parts all) ≡ calls_below n all
calls_bare zero all = refl
calls_bare (suc n) all =
    λ i f args o k. if f == n then (ap (λ calls. run_number (bare_parts all) calls n) (calls_bare n all)
    ∙ number_bare all (calls_below n all) n) i args o k else calls_bare n all i f args o k

at_bare : (main : ℕ) (all : List Part) → run_at main (bare_parts all) ≡ run_at main all
at_bare main all =
    λ i world k. (ap (λ calls. run_number (bare_parts all) calls main) (calls_bare main all)
    ∙ number_bare all (calls_below main all) main) i
    [] (opening_out (empty_cells (lengths_bare all i)) world) k

run_bare : (all : List Part) → run (bare_parts all) ≡ run all
run_bare all =
    ap (λ n. run_at (n - 1) (bare_parts all)) (ap length (procs_bare all) ∙ count_bare (procs_of all))
    ∙ at_bare (length (procs_of all) - 1) all

same_run : (a b : List Part) → Same a b → run a ≡ run b
same_run a b e = sym (run_bare a) ∙ ap run e ∙ run_bare b

same_lengths : (a b : List Part) → Same a b → lengths_of a ≡ lengths_of b
same_lengths a b e = sym (lengths_bare a) ∙ ap lengths_of e ∙ lengths_bare b

-- the same programs run alike
pub run_alike : (a b : List Part) → Same a b → RunAlike a b
run_alike a b e =
    let r = same_run a b e in
    let l = same_lengths a b e in
    record {
      passing = λ world n. ap (λ f. f world n) r;
      ending = λ world n end h. record {
        passes = subst (λ f. (v : ℕ) × (f world n ≡ Returned v end 0)) r h.passes;
        within = subst (λ ls. AreWithin ls end.acts) l h.within;
      };
      going = λ world n now h. record {
        flows = subst (λ f. f world n ≡ Stopped now) r h.flows;
        within = subst (λ ls. AreWithin ls now.acts) l h.within;
      };
      faulting = λ world n array state h. record {
        first = subst (λ ls. FirstPast ls (outside_of (run b world n)).acts state.acts array) l
            (subst (λ f. FirstPast (lengths_of a) (outside_of (f world n)).acts state.acts array) r h.first);
        sooner = λ m few. subst (λ ls. AreWithin ls (outside_of (run b world m)).acts) l
            (subst (λ f. AreWithin (lengths_of a) (outside_of (f world m)).acts) r (h.sooner m few));
        left = h.left ∙ ap (λ ls. after_acts (opening_out (empty_cells ls) world) state.acts) l;
      };
    }
