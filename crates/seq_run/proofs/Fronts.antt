-- A part of a run that is given more turns does the same, and then more.
use Rattle.std.proofs.Common.{ℕ, zero, suc, ◌≡◌, ◌+◌, ◌<◌, ◌≤◌, ◌==◌, Bool, List, [], ◌++◌}
use Rattle.std.proofs.Common.{Option, if◌then◌else◌, refl, sym, subst, arith}
use Rattle.ws_words.specs.Outside.{Act, Outside, ProcState, zeros, World, opening_out}
use Rattle.src_ast.specs.Turns.{PartEnd, Ended, Out, and_then, turn, CallEnd, Returned, Stopped, back_in}
use Rattle.src_ast.specs.Turns.{ending, loop}
use Rattle.src_ast.specs.Meaning.{Calls, empty_cells}
use Rattle.src_ast.specs.Runs.{outside_of}
use Rattle.cfg_core.specs.Graph.{Term}
use Rattle.cfg_core.specs.Walk.{value_of, values_of}
use Rattle.seq_run.specs.Resolved.{Step, Do, Call, If, While, Steps, Nothing, Then, Proc, ResolvedProgram}
use Rattle.seq_run.specs.Resolved.{run_one, run_all, finish, run_proc, calls_below, nth_proc, run_at}
use Rattle.ws_words.specs.Past.{ActsBegin}
use Rattle.seq_run.specs.Seen.{seen}
use Rattle.seq_run.specs.TurnsLeft.{AtMost}
use Rattle.seq_run.proofs.TurnsLeft.{one_most, all_most, calls_most, CallsAtMost}
use Rattle.ws_words.proofs.Acts.{begins_all, begins_then, acts_of as acts_after}
use Rattle.seq_run.proofs.Grows.{Tells, OutcomeTells, CallTells, CallsTell, loop_tells, one_tells, all_tells}
use Rattle.seq_run.proofs.Grows.{finish_tells, calls_tell}

-- acts are never taken back
pub tells_begins : (o p : Outside) → Tells o p → ActsBegin o.acts p.acts
tells_begins o p h = (grind (arith, acts_after))

-- the acts at the end of a part, or where it wants a turn
abbrev pub acts_of : PartEnd → List Act
acts_of x = (seen x).0

-- a part keeps the acts before it
pub outcome_begins : (o : Outside) (x : PartEnd) → OutcomeTells o x → ActsBegin o.acts (acts_of x)
outcome_begins o x h = grind (arith, tells_begins)

-- with j turns more: the same with j more left, or what begins with the same acts
abbrev pub Longer : ℕ → PartEnd → PartEnd → Type 0
Longer j (Ended s k) x = x ≡ Ended s (k + j)
Longer j (Out p) x = ActsBegin p.acts (acts_of x)

-- so a call
abbrev pub CallLonger : ℕ → CallEnd → CallEnd → Type 0
CallLonger j (Returned v p k) e = e ≡ Returned v p (k + j)
CallLonger j (Stopped p) e = ActsBegin p.acts (outside_of e).acts

abbrev pub CallsLonger : Calls → Type 0
CallsLonger calls = (f : ℕ) (args : List ℕ) (o : Outside) (k j : ℕ)
    → CallLonger j (calls f args o k) (calls f args o (k + j))

-- what a part does first stays first
pub then_begins : (acts : List Act) (y : PartEnd) (go : ProcState → ℕ → PartEnd) → ActsBegin acts (acts_of y)
    → ((s : ProcState) (k : ℕ) → OutcomeTells s.out (go s k)) → ActsBegin acts (acts_of (and_then y go))
then_begins acts (Ended s k) go h f = begins_then acts s.out.acts _ h (outcome_begins s.out (go s k) (f s k))
then_begins acts (Out p) go h f = h

turn_longer : (j k : ℕ) (s : ProcState) (go went : ℕ → PartEnd) → ((i : ℕ) → Longer j (go i) (went (i + j)))
    → ((i : ℕ) → OutcomeTells s.out (turn i s went)) → Longer j (turn k s go) (turn (k + j) s went)
turn_longer j k s go went f g = grind (arith, outcome_begins)

then_longer : (j b : ℕ) (x y : PartEnd) (go went : ProcState → ℕ → PartEnd) → AtMost b x → Longer j x y
    → ((s : ProcState) (i : ℕ) → i ≤ b → Longer j (go s i) (went s (i + j)))
    → ((s : ProcState) (i : ℕ) → OutcomeTells s.out (went s i)) → Longer j (and_then x go) (and_then y went)
then_longer j b x y go went le h f g = grind (arith, then_begins)

if_longer : (j : ℕ) (b : Bool) (x y z w : PartEnd) → Longer j x y → Longer j z w
    → Longer j (if b then x else z) (if b then y else w)
if_longer j b x y z w h i = grind arith

-- back in the caller no act is taken back
pub back_begins : (acts : List Act) (vars : List ℕ) (x : Option ℕ) (e : CallEnd)
    → ActsBegin acts (outside_of e).acts → ActsBegin acts (acts_of (back_in vars x e))
back_begins acts vars x e h = grind arith

back_longer : (j : ℕ) (vars : List ℕ) (x : Option ℕ) (e f : CallEnd) → CallLonger j e f
    → Longer j (back_in vars x e) (back_in vars x f)
back_longer j vars x e f h = grind (arith, back_begins)

module _ (t : Term) (body : ProcState → ℕ → PartEnd) (most : (s : ProcState) (k : ℕ) → AtMost k (body s k))
    (tells : (s : ProcState) (k : ℕ) → OutcomeTells s.out (body s k)) (longer : (s : ProcState) (k j : ℕ)
    → Longer j (body s k) (body s (k + j))) where
  loop_longer : (f g : ℕ) (s : ProcState) (k j : ℕ) → k < f → k + j < g
      → Longer j (loop f (value_of t) body s k) (loop g (value_of t) body s (k + j))
  loop_longer zero g s k j lf lg = absurd (omega arith)
  loop_longer (suc f) zero s k j lf lg = absurd (omega arith)
  loop_longer (suc f) (suc g) s zero j lf lg =
      outcome_begins s.out _ (loop_tells (suc g) t body tells s (0 + j))
  loop_longer (suc f) (suc g) s (suc k) j lf lg =
      let v = value_of t s in
      let e : suc k + j ≡ suc (k + j) = omega arith in
      subst (λ (n : ℕ). Longer j (loop (suc f) (value_of t) body s (suc k))
      (loop (suc g) (value_of t) body s n)) (sym e)
      (if_longer j (v.0 == 0) (Ended v.1 k) (Ended v.1 (k + j))
      (and_then (body v.1 k) (loop f (value_of t) body))
      (and_then (body v.1 (k + j)) (loop g (value_of t) body)) refl
      (then_longer j k (body v.1 k) (body v.1 (k + j)) (loop f (value_of t) body) (loop g (value_of t) body)
      (most v.1 k) (longer v.1 k j)
      (λ u i le. loop_longer f g u i j (omega arith) (omega arith)) (loop_tells g t body tells)))

module _ (calls : Calls) (most : CallsAtMost calls) (tell : CallsTell calls)
    (longer : CallsLonger calls) where
  mutual
    pub one_longer : (st : Step) (s : ProcState) (k j : ℕ) → Longer j (run_one calls st s k)
        (run_one calls st s (k + j))
    one_longer (Do a) s k j = turn_longer j k s _ _ (λ i. refl) (λ i. one_tells calls tell (Do a) s i)
    one_longer (Call x f ts) s k j =
        let vs = values_of ts s in
        turn_longer j k s _ _ (λ i. back_longer j vs.1.vars x (calls f vs.0 vs.1.out i)
        (calls f vs.0 vs.1.out (i + j)) (longer f vs.0 vs.1.out i j))
        (λ i. one_tells calls tell (Call x f ts) s i)
    one_longer (If t a b) s k j =
        let v = value_of t s in
        turn_longer j k s _ _ (λ i. if_longer j (v.0 == 0) (run_all calls b v.1 i)
        (run_all calls b v.1 (i + j)) (run_all calls a v.1 i) (run_all calls a v.1 (i + j))
        (all_longer b v.1 i j) (all_longer a v.1 i j)) (λ i. one_tells calls tell (If t a b) s i)
    one_longer (While t body) s k j =
        loop_longer t (run_all calls body) (all_most calls most body) (all_tells calls tell body)
        (all_longer body) (suc k) (suc (k + j)) s k j (omega arith) (omega arith)

    pub all_longer : (st : Steps) (s : ProcState) (k j : ℕ) → Longer j (run_all calls st s k)
        (run_all calls st s (k + j))
    all_longer Nothing s k j = refl
    all_longer (Then st rest) s k j =
        then_longer j k (run_one calls st s k) (run_one calls st s (k + j)) (run_all calls rest)
        (run_all calls rest) (one_most calls most st s k) (one_longer st s k j)
        (λ u i le. all_longer rest u i j) (all_tells calls tell rest)

-- a call keeps the acts before it
pub call_begins : (o : Outside) (e : CallEnd) → CallTells o e → ActsBegin o.acts (outside_of e).acts
call_begins o e h = grind (arith, tells_begins)

finish_longer : (r : Option Term) (s : ProcState) (k j : ℕ) → CallLonger j (finish r s k) (finish r s (k + j))
finish_longer r s k j = grind (arith, call_begins, finish_tells)

-- so does the end of a procedure
pub ending_begins : (acts : List Act) (y : PartEnd) (r : Option Term) → ActsBegin acts (acts_of y)
    → ActsBegin acts (outside_of (ending y (finish r))).acts
ending_begins acts (Ended s k) r h =
    begins_then acts s.out.acts _ h (call_begins s.out (finish r s k) (finish_tells r s k))
ending_begins acts (Out p) r h = h

ending_longer : (j : ℕ) (x y : PartEnd) (r : Option Term) → Longer j x y
    → CallLonger j (ending x (finish r)) (ending y (finish r))
ending_longer j x y r h = grind (arith, finish_longer, ending_begins)

proc_longer : (calls : Calls) → CallsAtMost calls → CallsTell calls → CallsLonger calls
    → (p : Proc) (args : List ℕ) (o : Outside) (k j : ℕ) → CallLonger j (run_proc calls p args o k)
    (run_proc calls p args o (k + j))
proc_longer calls m t l p args o k j =
    let s : ProcState = record { vars = args ++ zeros p.locals; out = o } in
    ending_longer j (run_all calls p.body s k) (run_all calls p.body s (k + j)) p.result
    (all_longer calls m t l p.body s k j)

if_call_longer : (j : ℕ) (b : Bool) (x y z w : CallEnd) → CallLonger j x y → CallLonger j z w
    → CallLonger j (if b then x else z) (if b then y else w)
if_call_longer j b x y z w h i = grind arith

pub calls_longer : (n : ℕ) (procs : List Proc) → CallsLonger (calls_below n procs)
calls_longer zero procs f args o k j = begins_all o.acts
calls_longer (suc n) procs f args o k j =
    if_call_longer j (f == n) _ _ _ _ (proc_longer (calls_below n procs) (calls_most n procs)
    (calls_tell n procs) (calls_longer n procs) (nth_proc procs n) args o k j)
    (calls_longer n procs f args o k j)

-- so it is with a run
pub run_longer : (main : ℕ) (program : ResolvedProgram) (world : World) (k j : ℕ)
    → CallLonger j (run_at main program world k) (run_at main program world (k + j))
run_longer main program world k j =
    proc_longer (calls_below main program.procs) (calls_most main program.procs)
    (calls_tell main program.procs) (calls_longer main program.procs) (nth_proc program.procs main) []
    (opening_out (empty_cells program.lengths) world) k j
