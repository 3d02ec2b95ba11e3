-- What a part of a run does outside is what its acts do.
use Rattle.std.proofs.Common.{arith, ℕ, zero, suc, ◌≡◌, ◌==◌, Bool, List, [], ◌∷◌, ◌++◌, Option}
use Rattle.std.proofs.Common.{if◌then◌else◌, refl, sym, append_assoc}
use Rattle.std.proofs.lemmas.List.{append-nil}
use Rattle.std.specs.List.{AllByRecursion}
use Rattle.ws_words.specs.Outside.{Act, loads, stores, reads, prints, gives, takes, Outside, ProcState, zeros}
use Rattle.ws_words.specs.Outside.{World, opening_out}
use Rattle.ws_words.specs.Past.{after_act, after_acts}
use Rattle.ws_words.proofs.Acts.{after_append, with_more}
use Rattle.src_ast.specs.Turns.{PartEnd, Ended, Out, and_then, turn, CallEnd, Returned, Stopped, back_in}
use Rattle.src_ast.specs.Turns.{ending, loop}
use Rattle.src_ast.specs.Meaning.{Calls, empty_cells}
use Rattle.cfg_core.specs.Graph.{Term, Cell, Flip, Not, Neg, Binary}
use Rattle.cfg_core.specs.Walk.{loads_of, all_loads, value_of, values_of}
use Rattle.seq_run.specs.Resolved.{Action, Assign, Store, Print, Read, Give, Take, Step, Do, Call, If, While}
use Rattle.seq_run.specs.Resolved.{Steps, Nothing, Then, Proc, ResolvedProgram, done, run_one, run_all}
use Rattle.seq_run.specs.Resolved.{finish, run_proc, calls_below, nth_proc, run_at}

-- what is outside later is what acts leave
pub record Tells (o p : Outside) : Type 0 where
  pub more : List Act
  pub after : p ≡ after_acts o more

-- no act leaves all as it is
pub tells_none : (o : Outside) → Tells o o
tells_none o = record { more = []; after = refl }

-- acts after acts
pub tells_then : (o p q : Outside) → Tells o p → Tells p q → Tells o q
tells_then o p q h i = record {
  more = h.more ++ i.more;
  after = grind (arith, after_append, h.more);
}

abbrev pub IsLoad : Act → Type 0
IsLoad (loads a i) = Unit {0}
IsLoad _ = ⊥

-- nothing but loads
abbrev pub OnlyLoads : List Act → Type 0
OnlyLoads acts = AllByRecursion IsLoad acts

-- loads, one list after another
pub loads_both : (xs ys : List Act) → OnlyLoads xs → OnlyLoads ys → OnlyLoads (xs ++ ys)
loads_both [] ys h i = i
loads_both (x ∷ xs) ys h i = (h.0, loads_both xs ys h.1 i)

-- the first of them are loads
pub loads_front : (xs ys : List Act) → OnlyLoads (xs ++ ys) → OnlyLoads xs
loads_front [] ys h = tt
loads_front (x ∷ xs) ys h = (h.0, loads_front xs ys h.1)

-- evaluation does nothing but load
pub only_loads : (t : Term) (vars : List ℕ) (cells : List (List ℕ)) → OnlyLoads (loads_of t vars cells)
only_loads (Cell a t) vars cells = grind (arith, loads_both, only_loads t vars cells)
only_loads (Flip t) vars cells = only_loads t vars cells
only_loads (Not t) vars cells = only_loads t vars cells
only_loads (Neg t) vars cells = only_loads t vars cells
only_loads (Binary op a b) vars cells =
    grind (arith, loads_both, only_loads a vars cells, only_loads b vars cells)
only_loads t vars cells = grind arith

-- so it is with arguments
pub only_all_loads : (ts : List Term) (vars : List ℕ) (cells : List (List ℕ))
    → OnlyLoads (all_loads ts vars cells)
only_all_loads [] vars cells = tt
only_all_loads (t ∷ ts) vars cells = grind (arith, loads_both, only_loads, only_all_loads ts vars cells)

-- loads leave everything as it was, but for the acts
pub loads_leave : (o : Outside) (acts : List Act) → OnlyLoads acts → after_acts o acts ≡ with_more o acts
loads_leave o (loads a i ∷ acts) h =
    grind (arith, append_assoc, o.acts, loads_leave (after_act o (loads a i)) acts h.1)
loads_leave o acts h = grind (arith, append-nil)

-- evaluation leaves what its loads leave
pub value_tells : (t : Term) (s : ProcState) → Tells s.out (value_of t s).1.out
value_tells t s = record {
  more = loads_of t s.vars s.out.cells;
  after = sym (loads_leave s.out _ (only_loads t s.vars s.out.cells));
}

-- so with arguments
pub values_tell : (ts : List Term) (s : ProcState) → Tells s.out (values_of ts s).1.out
values_tell ts s = record {
  more = all_loads ts s.vars s.out.cells;
  after = sym (grind (arith, loads_leave, only_all_loads, s.vars));
}

pub act_tells : (o : Outside) (a : Act) → Tells o (after_act o a)
act_tells o a = record { more = a ∷ []; after = refl }

-- so with an action
pub done_tells : (a : Action) (s : ProcState) → Tells s.out (done a s).out
done_tells (Assign x t) s = value_tells t s
done_tells (Store a t u) s =
    let i = value_of t s in let v = value_of u i.1 in
    tells_then s.out v.1.out _ (tells_then s.out i.1.out v.1.out (value_tells t s) (value_tells u i.1))
    (act_tells v.1.out (stores a i.0 v.0))
done_tells (Print t) s = let v = value_of t s in tells_then s.out v.1.out _ (value_tells t s)
    (act_tells v.1.out (prints v.0))
done_tells (Read x) s = act_tells s.out reads
done_tells (Give p x) s = act_tells s.out (gives p)
done_tells (Take p t) s = let v = value_of t s in tells_then s.out v.1.out _ (value_tells t s)
    (act_tells v.1.out (takes p v.0))

-- what is outside after a part, from this
abbrev pub OutcomeTells : Outside → PartEnd → Type 0
OutcomeTells o (Ended s k) = Tells o s.out
OutcomeTells o (Out p) = Tells o p

-- so a call
abbrev pub CallTells : Outside → CallEnd → Type 0
CallTells o (Returned v p k) = Tells o p
CallTells o (Stopped p) = Tells o p

-- so all calls
abbrev pub CallsTell : Calls → Type 0
CallsTell calls = (f : ℕ) (args : List ℕ) (o : Outside) (k : ℕ) → CallTells o (calls f args o k)

outcome_from : (o p : Outside) (x : PartEnd) → Tells o p → OutcomeTells p x → OutcomeTells o x
outcome_from o p x h i = grind (arith, tells_then)

call_from : (o p : Outside) (e : CallEnd) → Tells o p → CallTells p e → CallTells o e
call_from o p e h i = grind (arith, tells_then)

then_tells : (o : Outside) (x : PartEnd) (go : ProcState → ℕ → PartEnd) → OutcomeTells o x
    → ((s : ProcState) (k : ℕ) → OutcomeTells s.out (go s k)) → OutcomeTells o (and_then x go)
then_tells o x go h f = grind (arith, outcome_from)

turn_tells : (k : ℕ) (s : ProcState) (go : ℕ → PartEnd) → ((j : ℕ) → OutcomeTells s.out (go j))
    → OutcomeTells s.out (turn k s go)
turn_tells k s go f = grind (arith, tells_none)

if_tells : (o : Outside) (b : Bool) (x y : PartEnd) → OutcomeTells o x → OutcomeTells o y
    → OutcomeTells o (if b then x else y)
if_tells o b x y h i = grind arith

back_tells : (o : Outside) (vars : List ℕ) (x : Option ℕ) (e : CallEnd) → CallTells o e
    → OutcomeTells o (back_in vars x e)
back_tells o vars x e h = grind arith

-- so a loop
pub loop_tells : (fuel : ℕ) (t : Term) (body : ProcState → ℕ → PartEnd)
    → ((s : ProcState) (k : ℕ) → OutcomeTells s.out (body s k)) → (s : ProcState) (k : ℕ)
    → OutcomeTells s.out (loop fuel (value_of t) body s k)
loop_tells zero t body f s k = tells_none s.out
loop_tells (suc fuel) t body f s k =
    let v = value_of t s in
    turn_tells k s _
    (λ j. outcome_from s.out v.1.out (if v.0 == 0 then Ended v.1 j else and_then (body v.1 j)
    (loop fuel (value_of t) body)) (value_tells t s)
    (if_tells v.1.out (v.0 == 0) (Ended v.1 j) _ (tells_none v.1.out)
    (then_tells v.1.out (body v.1 j) (loop fuel (value_of t) body) (f v.1 j) (loop_tells fuel t body f))))

mutual
  -- so a step
  pub one_tells : (calls : Calls) → CallsTell calls → (st : Step) (s : ProcState) (k : ℕ)
      → OutcomeTells s.out (run_one calls st s k)
  one_tells calls c (Do a) s k = turn_tells k s _ (λ j. done_tells a s)
  one_tells calls c (Call x f ts) s k =
      let vs = values_of ts s in
      turn_tells k s _ (λ j. outcome_from s.out vs.1.out (back_in vs.1.vars x (calls f vs.0 vs.1.out j))
      (values_tell ts s) (back_tells vs.1.out vs.1.vars x _ (c f vs.0 vs.1.out j)))
  one_tells calls c (If t a b) s k =
      let v = value_of t s in
      turn_tells k s _ (λ j. outcome_from s.out v.1.out (if v.0 == 0 then run_all calls b v.1 j
      else run_all calls a v.1 j) (value_tells t s)
      (if_tells v.1.out (v.0 == 0) _ _ (all_tells calls c b v.1 j) (all_tells calls c a v.1 j)))
  one_tells calls c (While t body) s k = loop_tells (suc k) t (run_all calls body) (all_tells calls c body) s
      k

  -- so steps
  pub all_tells : (calls : Calls) → CallsTell calls → (st : Steps) (s : ProcState) (k : ℕ)
      → OutcomeTells s.out (run_all calls st s k)
  all_tells calls c Nothing s k = tells_none s.out
  all_tells calls c (Then st rest) s k = then_tells s.out (run_one calls st s k) (run_all calls rest)
      (one_tells calls c st s k) (all_tells calls c rest)

-- so the result of a procedure
pub finish_tells : (r : Option Term) (s : ProcState) (k : ℕ) → CallTells s.out (finish r s k)
finish_tells r s k = grind (arith, tells_none, value_tells)

pub ending_tells : (o : Outside) (x : PartEnd) (r : Option Term) → OutcomeTells o x
    → CallTells o (ending x (finish r))
ending_tells o x r h = grind (arith, call_from, finish_tells)

proc_tells : (calls : Calls) → CallsTell calls → (p : Proc) (args : List ℕ) (o : Outside) (k : ℕ)
    → CallTells o (run_proc calls p args o k)
proc_tells calls c p args o k =
    ending_tells o _ p.result (all_tells calls c p.body (record { vars = args ++ zeros p.locals; out = o }) k)

if_call_tells : (o : Outside) (b : Bool) (x y : CallEnd) → CallTells o x → CallTells o y
    → CallTells o (if b then x else y)
if_call_tells o b x y h i = grind arith

-- what is outside after a call is what its acts leave
pub calls_tell : (n : ℕ) (procs : List Proc) → CallsTell (calls_below n procs)
calls_tell zero procs f args o k = tells_none o
calls_tell (suc n) procs f args o k =
    grind (arith, if_call_tells, proc_tells, calls_tell n procs, calls_tell n procs f args o k)

-- so it is after a run
pub run_tells : (main : ℕ) (program : ResolvedProgram) (world : World) (k : ℕ)
    → CallTells (opening_out (empty_cells program.lengths) world) (run_at main program world k)
run_tells main program world k = proc_tells (calls_below main program.procs) (calls_tell main program.procs)
    (nth_proc program.procs main) [] (opening_out (empty_cells program.lengths) world) k
