-- The tree with numbers for names, and its sequential run: what the code runs and lowers. In its
-- terms variables are numbered from 0 in each procedure, parameters first, and arrays from 1.
use Rattle.std.specs.Prelude.{ℕ, zero, suc, ◌-◌, ◌==◌, List, [], ◌∷◌, ◌++◌, length, Option, Some, None}
use Rattle.std.specs.Prelude.{if◌then◌else◌}
use Rattle.ws_words.specs.Outside.{Outside, ProcState, write, stored, printed, taken, has_read, given, zeros}
use Rattle.ws_words.specs.Outside.{World, opening_out}
use Rattle.src_ast.specs.Turns.{PartEnd, Ended, and_then, turn, CallEnd, Returned, Stopped, back_in, ending}
use Rattle.src_ast.specs.Turns.{loop}
use Rattle.src_ast.specs.Meaning.{Calls, empty_cells}
use Rattle.cfg_core.specs.Graph.{Term}
use Rattle.cfg_core.specs.Walk.{value_of, values_of}

-- a step without a test or a call
pub data Action : Type 0 where
  Assign : (x : ℕ) (t : Term) → Action
  Store : (a : ℕ) (index value : Term) → Action
  Print : (t : Term) → Action
  Read : (x : ℕ) → Action
  Give : (port x : ℕ) → Action
  Take : (port : ℕ) (t : Term) → Action

mutual
  pub data Step : Type 0 where
    Do : (a : Action) → Step
    Call : (x : Option ℕ) (f : ℕ) (args : List Term) → Step
    If : (test : Term) (first second : Steps) → Step
    While : (test : Term) (body : Steps) → Step

  pub data Steps : Type 0 where
    Nothing : Steps
    Then : (s : Step) (rest : Steps) → Steps

-- `locals` counts the variables that are no parameters
pub record Proc : Type 0 where
  pub params : ℕ
  pub locals : ℕ
  pub body : Steps
  pub result : Option Term

-- what an action does, all but its turn
abbrev pub done : Action → ProcState → ProcState
done (Assign x t) s = let v = value_of t s in write v.1 x v.0
done (Store a t u) s = let i = value_of t s in let v = value_of u i.1 in stored v.1 a i.0 v.0
done (Print t) s = let v = value_of t s in printed v.1 v.0
done (Read x) s = has_read s x
done (Give p x) s = given s p x
done (Take p t) s = let v = value_of t s in taken v.1 p v.0

abbrev mutual
  pub run_one : Calls → Step → ProcState → ℕ → PartEnd
  run_one calls (Do a) s k = turn k s (λ j. Ended (done a s) j)
  run_one calls (Call x f args) s k =
      turn k s (λ j. let vs = values_of args s in back_in vs.1.vars x (calls f vs.0 vs.1.out j))
  run_one calls (If t a b) s k =
      turn k s (λ j. let v = value_of t s in
      if v.0 == 0 then run_all calls b v.1 j else run_all calls a v.1 j)
  run_one calls (While t body) s k = loop (suc k) (value_of t) (run_all calls body) s k

  pub run_all : Calls → Steps → ProcState → ℕ → PartEnd
  run_all calls Nothing s k = Ended s k
  run_all calls (Then st rest) s k = and_then (run_one calls st s k) (run_all calls rest)

-- the result of a procedure, for which `return` takes a turn
abbrev pub finish : Option Term → ProcState → ℕ → CallEnd
finish None s k = Returned 0 s.out k
finish (Some t) s zero = Stopped s.out
finish (Some t) s (suc j) = let v = value_of t s in Returned v.0 v.1.out j

-- parameters have the arguments, and the other variables begin at 0
abbrev pub run_proc : Calls → Proc → List ℕ → Outside → ℕ → CallEnd
run_proc calls p args o k =
    ending (run_all calls p.body (record { vars = args ++ zeros p.locals; out = o }) k)
    (finish p.result)

-- out of bounds stands a procedure with nothing in it
abbrev pub nth_proc : List Proc → ℕ → Proc
nth_proc [] k = record { params = 0; locals = 0; body = Nothing; result = None }
nth_proc (p ∷ ps) zero = p
nth_proc (p ∷ ps) (suc k) = nth_proc ps k

-- how calls of the first n procedures go
abbrev pub calls_below : ℕ → List Proc → Calls
calls_below zero procs f args o k = Stopped o
calls_below (suc n) procs f args o k =
    if f == n then run_proc (calls_below n procs) (nth_proc procs n) args o k
    else calls_below n procs f args o k

-- the names and lengths of the arrays, and the procedures, main last
pub record ResolvedProgram : Type 0 where
  pub names : List (List ℕ)
  pub lengths : List ℕ
  pub procs : List Proc

abbrev pub run_at : ℕ → ResolvedProgram → World → ℕ → CallEnd
run_at main program world k =
    run_proc (calls_below main program.procs) (nth_proc program.procs main) []
    (opening_out (empty_cells program.lengths) world) k

-- main with at most k turns
abbrev pub run : ResolvedProgram → World → ℕ → CallEnd
run program world k = run_at (length program.procs - 1) program world k
