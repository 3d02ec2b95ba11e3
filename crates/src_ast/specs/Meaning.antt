-- What a program does, turn by turn: the sequential run, which knows no blocks, waves, tags or tokens.
use Rattle.std.specs.Prelude.{◌≡◌, ℕ, zero, suc, ◌-◌, ◌^◌, ◌==◌, List, [], ◌∷◌, ◌++◌, length, Option, Some}
use Rattle.std.specs.Prelude.{None, if◌then◌else◌, slice_index, nat_eq}
use lib.Pointwise.{pointwise}
use Rattle.ws_words.specs.declared.alu.Alu.TheVariants.{Sub}
use Rattle.ws_words.specs.Operators.{applied, flag}
use Rattle.ws_words.specs.Outside.{Act, loads, Outside, ProcState}
use Rattle.ws_words.specs.Outside.{write, with_acts, row, stored, printed, taken}
use Rattle.ws_words.specs.Outside.{has_read, given, zeros, World, opening_out}
use Rattle.src_ast.specs.declared.lexeme.Name.{Name}
use Rattle.src_ast.specs.declared.tree.Unary.{Unary}
use Rattle.src_ast.specs.declared.tree.Unary.TheVariants.{Flip, Not, Neg}
use Rattle.src_ast.specs.Syntax.{Expression, Number, Variable, Cell, Signed, Binary, Statement, Assign, Store}
use Rattle.src_ast.specs.Syntax.{Print, Read, Give, Take, Call, If, While, Statements, Nothing, Then, Last}
use Rattle.src_ast.specs.Syntax.{Procedure, Part, Array, Proc}
use Rattle.src_ast.specs.Turns.{PartEnd, Ended, and_then, turn, CallEnd, Returned, Stopped, back_in, ending}
use Rattle.src_ast.specs.Turns.{loop}

-- what an operator of one operand does
abbrev pub signed_value : Unary → ℕ → ℕ
signed_value Flip v = 2 ^ 64 - 1 - v
signed_value Not v = flag (v == 0)
signed_value Neg v = applied Sub 0 v

-- the place of the first name that is spelled so
abbrev pub place_of : List Name → List ℕ → ℕ
place_of [] x = 0
place_of (n ∷ ns) x = if pointwise nat_eq n.text x then 0 else suc (place_of ns x)

-- the variables that are visible, parameters first, the arrays and the procedures, each in order of
-- declaration
pub record Scope : Type 0 where
  pub names : List Name
  pub arrays : List Name
  pub procs : List Name

abbrev pub var_number : Scope → Name → ℕ
var_number scope x = place_of scope.names x.text

abbrev pub proc_number : Scope → Name → ℕ
proc_number scope f = place_of scope.procs f.text

abbrev pub array_number : Scope → Name → ℕ
array_number scope a = suc (place_of scope.arrays a.text)

-- the value of an expression on these variables and arrays
abbrev pub value : Scope → Expression → List ℕ → List (List ℕ) → ℕ
value scope (Number n) vars cells = n
value scope (Variable x) vars cells = slice_index vars (var_number scope x)
value scope (Cell a e) vars cells =
    slice_index (row cells (array_number scope a - 1)) (value scope e vars cells)
value scope (Signed sign e) vars cells = signed_value sign (value scope e vars cells)
value scope (Binary op a b) vars cells = applied op (value scope a vars cells) (value scope b vars cells)

-- its loads, from left to right
abbrev pub loads_of : Scope → Expression → List ℕ → List (List ℕ) → List Act
loads_of scope (Number n) vars cells = []
loads_of scope (Variable x) vars cells = []
loads_of scope (Cell a e) vars cells = loads_of scope e vars cells
    ++ loads (array_number scope a) (value scope e vars cells) ∷ []
loads_of scope (Signed sign e) vars cells = loads_of scope e vars cells
loads_of scope (Binary op a b) vars cells = loads_of scope a vars cells ++ loads_of scope b vars cells

-- the values of arguments, from left to right
abbrev pub values : Scope → List Expression → List ℕ → List (List ℕ) → List ℕ
values scope [] vars cells = []
values scope (e ∷ es) vars cells = value scope e vars cells ∷ values scope es vars cells

abbrev pub all_loads : Scope → List Expression → List ℕ → List (List ℕ) → List Act
all_loads scope [] vars cells = []
all_loads scope (e ∷ es) vars cells = loads_of scope e vars cells ++ all_loads scope es vars cells

-- the value, and the state with the loads
abbrev pub value_of : Scope → Expression → ProcState → ℕ × ProcState
value_of scope e s = (value scope e s.vars s.out.cells, with_acts s (loads_of scope e s.vars s.out.cells))

abbrev pub values_of : Scope → List Expression → ProcState → List ℕ × ProcState
values_of scope es s = (
  values scope es s.vars s.out.cells,
  with_acts s (all_loads scope es s.vars s.out.cells),
)

abbrev pub target : Scope → Option Name → Option ℕ
target scope None = None
target scope (Some x) = Some (var_number scope x)

-- how a call of a procedure by number goes, on its arguments
abbrev pub Calls : Type 0
Calls = ℕ → List ℕ → Outside → ℕ → CallEnd

abbrev mutual
  pub run_one : Scope → Calls → Statement → ProcState → ℕ → PartEnd
  run_one scope calls (Assign at x e) s k =
      turn k s (λ j. let v = value_of scope e s in Ended (write v.1 (var_number scope x) v.0) j)
  run_one scope calls (Store at a e f) s k =
      turn k s (λ j. let i = value_of scope e s in let v = value_of scope f i.1 in
      Ended (stored v.1 (array_number scope a) i.0 v.0) j)
  run_one scope calls (Print at e) s k =
      turn k s (λ j. let v = value_of scope e s in Ended (printed v.1 v.0) j)
  run_one scope calls (Read at x) s k = turn k s (λ j. Ended (has_read s (var_number scope x)) j)
  run_one scope calls (Give at p q x) s k = turn k s (λ j. Ended (given s p (var_number scope x)) j)
  run_one scope calls (Take at p q e) s k =
      turn k s (λ j. let v = value_of scope e s in Ended (taken v.1 p v.0) j)
  run_one scope calls (Call at x f args) s k =
      turn k s (λ j. let vs = values_of scope args s in
      back_in vs.1.vars (target scope x) (calls (proc_number scope f) vs.0 vs.1.out j))
  run_one scope calls (If at e a b) s k =
      turn k s (λ j. let v = value_of scope e s in if v.0 == 0 then run_all scope calls b v.1 j
      else run_all scope calls a v.1 j)
  run_one scope calls (While at e body) s k = loop (suc k) (value_of scope e) (run_all scope calls body) s k

  pub run_all : Scope → Calls → Statements → ProcState → ℕ → PartEnd
  run_all scope calls Nothing s k = Ended s k
  run_all scope calls (Then st rest) s k = and_then (run_one scope calls st s k) (run_all scope calls rest)

-- the result of a procedure, for which `return` takes a turn
abbrev pub finish : Scope → Option Last → ProcState → ℕ → CallEnd
finish scope None s k = Returned 0 s.out k
finish scope (Some e) s zero = Stopped s.out
finish scope (Some e) s (suc j) = let v = value_of scope e.value s in Returned v.0 v.1.out j

abbrev pub scope_of : List Name → List Name → Procedure → Scope
scope_of arrays procs p = record { names = p.params ++ p.vars; arrays = arrays; procs = procs }

-- parameters have the arguments, and the other variables begin at 0
abbrev pub run_procedure : Scope → Calls → Procedure → List ℕ → Outside → ℕ → CallEnd
run_procedure scope calls p args o k =
    ending (run_all scope calls p.body (record { vars = args ++ zeros (length p.vars); out = o }) k)
    (finish scope p.ending)

abbrev pub arrays_of : List Part → List Name
arrays_of [] = []
arrays_of (Array name size at ∷ items) = name ∷ arrays_of items
arrays_of (Proc p ∷ items) = arrays_of items

abbrev pub lengths_of : List Part → List ℕ
lengths_of [] = []
lengths_of (Array name size at ∷ items) = size ∷ lengths_of items
lengths_of (Proc p ∷ items) = lengths_of items

abbrev pub procs_of : List Part → List Procedure
procs_of [] = []
procs_of (Array name size at ∷ items) = procs_of items
procs_of (Proc p ∷ items) = p ∷ procs_of items

abbrev pub names_of : List Procedure → List Name
names_of [] = []
names_of (p ∷ ps) = p.name ∷ names_of ps

-- the procedure at an out-of-bounds number
abbrev pub no_procedure : Procedure
no_procedure = record {
  name = record { text = []; place = record { line = 0; column = 0 } };
  params = [];
  vars = [];
  body = Nothing;
  ending = None;
}

abbrev pub nth_procedure : List Procedure → ℕ → Procedure
nth_procedure [] k = no_procedure
nth_procedure (p ∷ ps) zero = p
nth_procedure (p ∷ ps) (suc k) = nth_procedure ps k

-- all cells begin at 0
abbrev pub empty_cells : List ℕ → List (List ℕ)
empty_cells [] = []
empty_cells (n ∷ ns) = zeros n ∷ empty_cells ns

abbrev pub run_number : List Part → Calls → ℕ → List ℕ → Outside → ℕ → CallEnd
run_number parts calls n args o k =
    let p = nth_procedure (procs_of parts) n in
    run_procedure (scope_of (arrays_of parts) (names_of (procs_of parts)) p) calls p args o k

-- how calls of the first n procedures go
abbrev pub calls_below : ℕ → List Part → Calls
calls_below zero parts f args o k = Stopped o
calls_below (suc n) parts f args o k =
    if f == n then run_number parts (calls_below n parts) n args o k else calls_below n parts f args o k

abbrev pub run_at : ℕ → List Part → World → ℕ → CallEnd
run_at main parts world k =
    run_number parts (calls_below main parts) main [] (opening_out (empty_cells (lengths_of parts)) world) k

-- main, the last procedure, with at most k turns
abbrev pub run : List Part → World → ℕ → CallEnd
run parts world k = run_at (length (procs_of parts) - 1) parts world k

-- The unchecked run: an out-of-bounds load gives 0, an out-of-bounds store changes nothing, and the run
-- goes on.
-- It takes exactly n turns and leaves this
abbrev pub Passes : List Part → World → ℕ → Outside → Type 0
Passes parts world n end = (v : ℕ) × (run parts world n ≡ Returned v end 0)

-- after n turns, at this, it wants a further one
abbrev pub Flows : List Part → World → ℕ → Outside → Type 0
Flows parts world n now = run parts world n ≡ Stopped now
