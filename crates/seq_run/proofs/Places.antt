-- The tree with numbers runs as the tree with names.
use Rattle.std.proofs.Common.{arith, ℕ, zero, suc, ◌-◌, ◌≡◌, ◌==◌, Bool, List, [], ◌∷◌, ◌++◌, length, Option}
use Rattle.std.proofs.Common.{Some, None, if◌then◌else◌, refl, ap, ◌∙◌, slice_index}
use mathlib.Core.Path.{fun_ext}
use Rattle.ws_words.specs.Outside.{loads, Outside, ProcState, zeros, World, opening_out}
use Rattle.ws_words.specs.Outside.{write, stored, printed, taken}
use Rattle.src_ast.specs.Turns.{PartEnd, Ended, and_then, turn, CallEnd, Returned, back_in, ending, loop}
use Rattle.src_ast.specs.declared.lexeme.Name.{Name}
use Rattle.src_ast.specs.Syntax.{Expression, Cell, Signed, Binary, Statement, Assign, Store}
use Rattle.src_ast.specs.Syntax.{Print, Read, Give, Take, Call, If, While, Statements, Nothing, Then, Last}
use Rattle.src_ast.specs.Syntax.{Procedure, Part}
use Rattle.seq_run.specs.Resolved as resolved
use Rattle.cfg_core.specs.Graph as graph
use Rattle.cfg_core.specs.Walk as walks
use Rattle.src_ast.specs.declared.tree.Unary.{Unary}
use Rattle.src_ast.specs.Meaning as meaning
use Rattle.src_ast.specs.Meaning.{signed_value, Calls, empty_cells, Scope, var_number, array_number}
use Rattle.src_ast.specs.Meaning.{proc_number, target, scope_of, lengths_of, procs_of, nth_procedure}
use Rattle.seq_run.specs.Resolving.{signed, term, terms, one, all, result, proc, procs, program}

signed_same : (u : Unary) (t : graph.Term) (vars : List ℕ) (cells : List (List ℕ))
    → walks.value (signed u t) vars cells ≡ signed_value u (walks.value t vars cells)
signed_same u t vars cells = grind arith

signed_loads : (u : Unary) (t : graph.Term) (vars : List ℕ) (cells : List (List ℕ))
    → walks.loads_of (signed u t) vars cells ≡ walks.loads_of t vars cells
signed_loads u t vars cells = grind arith

module _ (scope : Scope) where
  value_same : (e : Expression) (vars : List ℕ) (cells : List (List ℕ))
      → meaning.value scope e vars cells ≡ walks.value (term scope e) vars cells
  value_same (Cell a e) vars cells = grind (arith, slice_index, value_same e vars cells)
  value_same (Signed s e) vars cells = grind (arith, signed_same, value_same e vars cells)
  value_same (Binary op a b) vars cells = grind (arith, value_same a vars cells, value_same b vars cells)
  value_same e vars cells = grind arith

  loads_same : (e : Expression) (vars : List ℕ) (cells : List (List ℕ))
      → meaning.loads_of scope e vars cells ≡ walks.loads_of (term scope e) vars cells
  loads_same (Cell a e) vars cells =
      ap (λ acts. acts ++ loads (array_number scope a) (meaning.value scope e vars cells) ∷ [])
      (loads_same e vars cells)
      ∙ ap (λ n. walks.loads_of (term scope e) vars cells ++ loads (array_number scope a) n ∷ [])
      (value_same e vars cells)
  loads_same (Signed s e) vars cells = grind (arith, signed_loads, loads_same e vars cells)
  loads_same (Binary op a b) vars cells = grind (arith, loads_same a vars cells, loads_same b vars cells)
  loads_same e vars cells = grind arith

  of_same : (e : Expression) (s : ProcState) → meaning.value_of scope e s ≡ walks.value_of (term scope e) s
  of_same e s = grind (arith, s.vars, value_same, loads_same)

  values_same : (es : List Expression) (vars : List ℕ) (cells : List (List ℕ))
      → meaning.values scope es vars cells ≡ walks.values (terms scope es) vars cells
  values_same [] vars cells = refl
  values_same (e ∷ es) vars cells = ap (λ n. n ∷ meaning.values scope es vars cells) (value_same e vars cells)
      ∙ ap (λ ns. walks.value (term scope e) vars cells ∷ ns) (values_same es vars cells)

  all_loads_same : (es : List Expression) (vars : List ℕ) (cells : List (List ℕ))
      → meaning.all_loads scope es vars cells ≡ walks.all_loads (terms scope es) vars cells
  all_loads_same [] vars cells = refl
  all_loads_same (e ∷ es) vars cells = grind (arith, loads_same, all_loads_same es vars cells)

  all_of_same : (es : List Expression) (s : ProcState) → meaning.values_of scope es s ≡ walks.values_of
      (terms scope es) s
  all_of_same es s = grind (arith, s.vars, values_same, all_loads_same)

turn_same : (k : ℕ) (s : ProcState) (go went : ℕ → PartEnd) → ((j : ℕ) → go j ≡ went j)
    → turn k s go ≡ turn k s went
turn_same k s go went h = grind arith

then_same : (o u : PartEnd) (go went : ProcState → ℕ → PartEnd) → o ≡ u
    → ((s : ProcState) (k : ℕ) → go s k ≡ went s k) → and_then o go ≡ and_then u went
then_same o u go went e h = grind arith

if_same : (b : Bool) (o u p q : PartEnd) → o ≡ p → u ≡ q → (if b then o else u) ≡ (if b then p else q)
if_same b o u p q e f = grind arith

loop_same : (fuel : ℕ) (test tested : ProcState → ℕ × ProcState) (body went : ProcState → ℕ → PartEnd)
    → ((s : ProcState) → test s ≡ tested s) → ((s : ProcState) (k : ℕ) → body s k ≡ went s k)
    → (s : ProcState) (k : ℕ) → loop fuel test body s k ≡ loop fuel tested went s k
loop_same zero test tested body went e h s k = refl
loop_same (suc fuel) test tested body went e h s k =
    grind (arith, turn_same, if_same, then_same, loop_same fuel test tested body went e h)

module _ (scope : Scope) (calls : Calls) where
  mutual
    one_same : (st : Statement) (s : ProcState) (k : ℕ) → meaning.run_one scope calls st s k
        ≡ resolved.run_one calls (one scope st) s k
    one_same (Assign at x e) s k =
        turn_same k s _ _ (λ j. ap (λ (v : ℕ × ProcState). Ended (write v.1 (var_number scope x) v.0) j)
        (of_same scope e s))
    one_same (Store at a e f) s k = turn_same k s _ _ (λ j.
        ap (λ (i : ℕ × ProcState). let v = meaning.value_of scope f i.1 in
        Ended (stored v.1 (array_number scope a) i.0 v.0) j) (of_same scope e s)
        ∙ ap (λ (v : ℕ × ProcState).
        Ended (stored v.1 (array_number scope a) (walks.value_of (term scope e) s).0 v.0) j)
        (of_same scope f (walks.value_of (term scope e) s).1))
    one_same (Print at e) s k =
        turn_same k s _ _ (λ j. ap (λ (v : ℕ × ProcState). Ended (printed v.1 v.0) j) (of_same scope e s))
    one_same (Read at x) s k = refl
    one_same (Give at p q x) s k = refl
    one_same (Take at p q e) s k =
        turn_same k s _ _ (λ j. ap (λ (v : ℕ × ProcState). Ended (taken v.1 p v.0) j) (of_same scope e s))
    one_same (Call at x f args) s k =
        turn_same k s _ _
        (λ j. ap (λ (vs : List ℕ × ProcState). back_in vs.1.vars (target scope x)
        (calls (proc_number scope f) vs.0 vs.1.out j)) (all_of_same scope args s))
    one_same (If at e a b) s k = turn_same k s _ _ (λ j.
        if_same ((meaning.value_of scope e s).0 == 0) _ _ _ _ (all_same b (meaning.value_of scope e s).1 j)
        (all_same a (meaning.value_of scope e s).1 j)
        ∙ ap (λ (v : ℕ × ProcState). if v.0 == 0 then resolved.run_all calls (all scope b) v.1 j
        else resolved.run_all calls (all scope a) v.1 j) (of_same scope e s))
    one_same (While at e body) s k = loop_same (suc k) _ _ _ _ (of_same scope e) (all_same body) s k

    all_same : (st : Statements) (s : ProcState) (k : ℕ) → meaning.run_all scope calls st s k
        ≡ resolved.run_all calls (all scope st) s k
    all_same Nothing s k = refl
    all_same (Then st rest) s k = then_same (meaning.run_one scope calls st s k)
        (resolved.run_one calls (one scope st) s k) (meaning.run_all scope calls rest)
        (resolved.run_all calls (all scope rest)) (one_same st s k) (all_same rest)

finish_same : (scope : Scope) (e : Option Last) (s : ProcState) (k : ℕ)
    → meaning.finish scope e s k ≡ resolved.finish (result scope e) s k
finish_same scope None s k = refl
finish_same scope (Some e) s zero = refl
finish_same scope (Some e) s (suc j) = ap (λ (v : ℕ × ProcState). Returned v.0 v.1.out j)
    (of_same scope e.value s)

ending_same : (o u : PartEnd) (go went : ProcState → ℕ → CallEnd) → o ≡ u
    → ((s : ProcState) (k : ℕ) → go s k ≡ went s k) → ending o go ≡ ending u went
ending_same o u go went e h = grind arith

proc_same : (scope : Scope) (calls called : Calls) → calls ≡ called
    → (p : Procedure) (args : List ℕ) (o : Outside) (k : ℕ) → meaning.run_procedure scope calls p args o k
    ≡ resolved.run_proc called (proc scope p) args o k
proc_same scope calls called e p args o k =
    ending_same _ _ _ _
    (all_same scope calls p.body (record { vars = args ++ zeros (length p.vars); out = o }) k)
    (finish_same scope p.ending)
    ∙ ap (λ (c : Calls). resolved.run_proc c (proc scope p) args o k) e

nth_same : (arrays names : List Name) (ps : List Procedure) (n : ℕ)
    → proc (scope_of arrays names (nth_procedure ps n)) (nth_procedure ps n) ≡ resolved.nth_proc
    (procs arrays names ps) n
nth_same arrays names (p ∷ ps) (suc n) = nth_same arrays names ps n
nth_same arrays names ps n = grind arith

number_same : (p : List Part) (calls called : Calls) → calls ≡ called → (n : ℕ) (args : List ℕ) (o : Outside)
    (k : ℕ) → meaning.run_number p calls n args o k ≡ resolved.run_proc called
    (resolved.nth_proc (program p).procs n) args o k
number_same p calls called e n args o k = grind (arith, proc_same, nth_same)

if_call_same : (b : Bool) (o u p q : CallEnd) → o ≡ p → u ≡ q → (if b then o else u) ≡ (if b then p else q)
if_call_same b o u p q e f = grind arith

calls_same : (p : List Part) (n : ℕ) → meaning.calls_below n p ≡ resolved.calls_below n (program p).procs
calls_same p zero = refl
calls_same p (suc n) = fun_ext (λ f. fun_ext (λ args. fun_ext (λ o. fun_ext (λ k.
    if_call_same (f == n) _ _ _ _
    (number_same p (meaning.calls_below n p) (resolved.calls_below n (program p).procs) (calls_same p n) n
    args o k)
    (ap (λ (c : Calls). c f args o k) (calls_same p n))))))

-- there are as many procedures
pub length_procs : (arrays names : List Name) (ps : List Procedure) → length (procs arrays names ps)
    ≡ length ps
length_procs arrays names [] = refl
length_procs arrays names (p ∷ ps) = ap suc (length_procs arrays names ps)

-- the run with numbers is the run with names
pub run_same : (p : List Part) (world : World) (k : ℕ) → meaning.run p world k ≡ resolved.run (program p)
    world k
run_same p world k =
    let m = length (procs_of p) - 1 in
    number_same p (meaning.calls_below m p) (resolved.calls_below m (program p).procs) (calls_same p m) m []
    (opening_out (empty_cells (lengths_of p)) world) k
    ∙ ap (λ n. resolved.run_at (n - 1) (program p) world k)
    (grind (arith, length_procs))
