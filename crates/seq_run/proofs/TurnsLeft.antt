-- A run never has more turns left than it had.
use Rattle.std.proofs.Common.{ℕ, zero, suc, ◌≤◌, ◌==◌, Bool, List, ◌++◌, Option, if◌then◌else◌, arith}
use Rattle.ws_words.specs.Outside.{Outside, ProcState, zeros}
use Rattle.src_ast.specs.Turns.{PartEnd, and_then, turn, CallEnd, Returned, Stopped, back_in, ending, loop}
use Rattle.src_ast.specs.Meaning.{Calls}
use Rattle.cfg_core.specs.Graph.{Term}
use Rattle.cfg_core.specs.Walk.{value_of}
use Rattle.seq_run.specs.Resolved.{Step, Do, Call, If, While, Steps, Nothing, Then, Proc, run_one, run_all}
use Rattle.seq_run.specs.Resolved.{finish, run_proc, calls_below}
use Rattle.seq_run.specs.TurnsLeft.{AtMost}

abbrev pub CallAtMost : ℕ → CallEnd → Type 0
CallAtMost k (Returned v o j) = j ≤ k
CallAtMost k (Stopped o) = Unit {0}

-- no call leaves more turns than it was given
abbrev pub CallsAtMost : Calls → Type 0
CallsAtMost calls = (f : ℕ) (args : List ℕ) (o : Outside) (k : ℕ) → CallAtMost k (calls f args o k)

lower : (j k : ℕ) → j ≤ k → (o : PartEnd) → AtMost j o → AtMost k o
lower j k le o h = grind arith

then_most : (k : ℕ) (o : PartEnd) (go : ProcState → ℕ → PartEnd) → AtMost k o
    → ((s : ProcState) (j : ℕ) → AtMost j (go s j)) → AtMost k (and_then o go)
then_most k o go h f = grind (arith, lower)

turn_most : (k : ℕ) (s : ProcState) (go : ℕ → PartEnd) → ((j : ℕ) → AtMost j (go j)) → AtMost k (turn k s go)
turn_most k s go f = grind (arith, lower)

if_most : (k : ℕ) (b : Bool) (o p : PartEnd) → AtMost k o → AtMost k p → AtMost k (if b then o else p)
if_most k b o p h i = grind arith

back_most : (k : ℕ) (vars : List ℕ) (x : Option ℕ) (e : CallEnd) → CallAtMost k e
    → AtMost k (back_in vars x e)
back_most k vars x e h = grind arith

loop_most : (fuel : ℕ) (test : ProcState → ℕ × ProcState) (body : ProcState → ℕ → PartEnd)
    → ((s : ProcState) (k : ℕ) → AtMost k (body s k)) → (s : ProcState) (k : ℕ)
    → AtMost k (loop fuel test body s k)
loop_most zero test body f s k = tt
loop_most (suc fuel) test body f s k =
    grind (arith, turn_most, if_most, then_most, loop_most fuel test body f)

mutual
  -- nor does a step
  pub one_most : (calls : Calls) → CallsAtMost calls → (st : Step) (s : ProcState) (k : ℕ)
      → AtMost k (run_one calls st s k)
  one_most calls c (Do a) s k = turn_most k s _ (λ j. omega arith)
  one_most calls c (Call x f ts) s k = turn_most k s _ (λ j. back_most j _ x _ (c f _ _ j))
  one_most calls c (If t a b) s k =
      turn_most k s _ (λ j. if_most j ((value_of t s).0 == 0) _ _ (all_most calls c b (value_of t s).1 j)
      (all_most calls c a (value_of t s).1 j))
  one_most calls c (While t body) s k = loop_most (suc k) (value_of t) (run_all calls body)
      (all_most calls c body) s k

  -- nor do steps
  pub all_most : (calls : Calls) → CallsAtMost calls → (st : Steps) (s : ProcState) (k : ℕ)
      → AtMost k (run_all calls st s k)
  all_most calls c Nothing s k = omega arith
  all_most calls c (Then st rest) s k = then_most k (run_one calls st s k) (run_all calls rest)
      (one_most calls c st s k) (all_most calls c rest)

finish_most : (r : Option Term) (s : ProcState) (k : ℕ) → CallAtMost k (finish r s k)
finish_most r s k = grind arith

lower_call : (j k : ℕ) → j ≤ k → (e : CallEnd) → CallAtMost j e → CallAtMost k e
lower_call j k le e h = grind arith

ending_most : (k : ℕ) (o : PartEnd) (r : Option Term) → AtMost k o → CallAtMost k (ending o (finish r))
ending_most k o r h = grind (arith, lower_call, finish_most)

if_call_most : (k : ℕ) (b : Bool) (o p : CallEnd) → CallAtMost k o → CallAtMost k p
    → CallAtMost k (if b then o else p)
if_call_most k b o p h i = grind arith

pub proc_most : (calls : Calls) → CallsAtMost calls → (p : Proc) (args : List ℕ) (o : Outside) (k : ℕ)
    → CallAtMost k (run_proc calls p args o k)
proc_most calls c p args o k =
    ending_most k _ p.result (all_most calls c p.body (record { vars = args ++ zeros p.locals; out = o }) k)

-- so it is with the calls of a program
pub calls_most : (n : ℕ) (procs : List Proc) → CallsAtMost (calls_below n procs)
calls_most zero procs f args o k = tt
calls_most (suc n) procs f args o k =
    grind (arith, if_call_most, proc_most, calls_most n procs, calls_most n procs f args o k)
