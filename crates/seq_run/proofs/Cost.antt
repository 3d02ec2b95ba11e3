-- A run that ended with turns left ends with each other number of turns left, if it has as many more or
-- fewer.
use Rattle.std.proofs.Common.{ℕ, zero, suc, ◌+◌, ◌-◌, ◌≡◌, ◌<◌, ◌≤◌, ◌==◌, Bool, true, false, List, [], ◌++◌}
use Rattle.std.proofs.Common.{length, Option, if◌then◌else◌, refl, ap, ◌∙◌, arith}
use Rattle.ws_words.specs.Outside.{Outside, ProcState, zeros, World, opening_out}
use Rattle.src_ast.specs.Turns.{PartEnd, Ended, Out, and_then, turn, CallEnd, Returned, Stopped}
use Rattle.src_ast.specs.Turns.{back_in, ending, loop}
use Rattle.src_ast.specs.Meaning.{Calls, empty_cells}
use Rattle.cfg_core.specs.Graph.{Term}
use Rattle.cfg_core.specs.Walk.{value_of, values_of}
use Rattle.seq_run.specs.Resolved.{Step, Do, Call, If, While, Steps, Nothing, Then, Proc, ResolvedProgram}
use Rattle.seq_run.specs.Resolved.{run_one, run_all, finish, run_proc, calls_below, nth_proc, run, run_at}
use Rattle.seq_run.specs.TurnsLeft.{AtMost}
use Rattle.seq_run.proofs.TurnsLeft.{all_most, calls_most, CallsAtMost}

-- a part that ended with j of k turns left takes this many, whatever is left
pub record Cost (h : ℕ → PartEnd) (u : ProcState) (j k : ℕ) : Type 0 where
  pub cost : ℕ
  pub sum : k ≡ j + cost
  pub again : (i : ℕ) → h (i + cost) ≡ Ended u i

pub record CallCost (h : ℕ → CallEnd) (v : ℕ) (o : Outside) (j k : ℕ) : Type 0 where
  pub cost : ℕ
  pub sum : k ≡ j + cost
  pub again : (i : ℕ) → h (i + cost) ≡ Returned v o i

-- so does a call
abbrev pub CallsCost : Calls → Type 0
CallsCost calls = (f : ℕ) (args : List ℕ) (o : Outside) (k v : ℕ) (p : Outside) (j : ℕ)
    → calls f args o k ≡ Returned v p j → CallCost (calls f args o) v p j k

no_cost : (s u : ProcState) (j k : ℕ) → Ended s k ≡ Ended u j → Cost (λ i. Ended s i) u j k
no_cost s u j k e = grind arith

turn_cost : (s : ProcState) (go : ℕ → PartEnd) (u : ProcState) (j k : ℕ)
    → ((i : ℕ) → go i ≡ Ended u j → Cost go u j i) → turn k s go ≡ Ended u j → Cost (λ i. turn i s go) u j k
turn_cost s go u j zero f e = absurd (cc)
turn_cost s go u j (suc k) f e = let r = f k e in record {
  cost = suc r.cost;
  sum = omega (arith, r.sum);
  again = λ i. let z : i + suc r.cost ≡ suc (i + r.cost) = omega arith in ap (λ n. turn n s go) z ∙ r.again i;
}

then_cost : (h : ℕ → PartEnd) (go : ProcState → ℕ → PartEnd) (u : ProcState) (j k : ℕ)
    → ((s : ProcState) (i : ℕ) → h k ≡ Ended s i → Cost h s i k)
    → ((s : ProcState) (i : ℕ) → go s i ≡ Ended u j → Cost (go s) u j i) → (o : PartEnd) → h k ≡ o
    → and_then o go ≡ Ended u j → Cost (λ i. and_then (h i) go) u j k
then_cost h go u j k f g (Ended s i) e d = let r = f s i e in let q = g s i d in record {
  cost = q.cost + r.cost;
  sum = omega (arith, r.sum, q.sum);
  again = λ n. let z : n + (q.cost + r.cost) ≡ (n + q.cost) + r.cost = omega arith in
      ap (λ m. and_then (h m) go) z ∙ ap (λ (x : PartEnd). and_then x go) (r.again (n + q.cost)) ∙ q.again n;
}
then_cost h go u j k f g (Out o) e d = absurd (cc)

if_cost : (b : Bool) (h g : ℕ → PartEnd) (u : ProcState) (j k : ℕ) → (h k ≡ Ended u j → Cost h u j k)
    → (g k ≡ Ended u j → Cost g u j k) → (if b then h k else g k) ≡ Ended u j
    → Cost (λ i. if b then h i else g i) u j k
if_cost b h g u j k f i e = grind arith

back_cost : (h : ℕ → CallEnd) (vars : List ℕ) (x : Option ℕ) (u : ProcState) (j k : ℕ)
    → ((v : ℕ) (p : Outside) (i : ℕ) → h k ≡ Returned v p i → CallCost h v p i k) → (e : CallEnd) → h k ≡ e
    → back_in vars x e ≡ Ended u j → Cost (λ i. back_in vars x (h i)) u j k
back_cost h vars x u j k f (Returned v p i) e d = let r = f v p i e in grind (arith, r.again)
back_cost h vars x u j k f (Stopped o) e d = absurd (cc)

record LoopCost (test : ProcState → ℕ × ProcState) (body : ProcState → ℕ → PartEnd) (s u : ProcState)
    (j k : ℕ) : Type 0 where
  cost : ℕ
  sum : k ≡ j + cost
  again : (i f : ℕ) → i + cost < f → loop f test body s (i + cost) ≡ Ended u i

module _ (test : ProcState → ℕ × ProcState) (body : ProcState → ℕ → PartEnd) (most : (s : ProcState) (k : ℕ)
    → AtMost k (body s k)) (costs : (s : ProcState) (k : ℕ) (u : ProcState) (j : ℕ) → body s k ≡ Ended u j
    → Cost (body s) u j k) where
  loop_cost : (fuel : ℕ) (s : ProcState) (k : ℕ) (u : ProcState) (j : ℕ) → k < fuel
      → loop fuel test body s k ≡ Ended u j → LoopCost test body s u j k
  loop_cost (suc fuel) s (suc k) u j lt e = by_test ((test s).0 == 0) refl (body (test s).1 k) refl
      (most (test s).1 k) e (λ t i le d. loop_cost fuel t i u j (omega arith) d)
    where
      by_test : (b : Bool) → ((test s).0 == 0) ≡ b → (o : PartEnd) → body (test s).1 k ≡ o → AtMost k o
          → (if b then Ended (test s).1 k else and_then o (loop fuel test body)) ≡ Ended u j
          → ((t : ProcState) (i : ℕ) → i ≤ k → loop fuel test body t i ≡ Ended u j
          → LoopCost test body t u j i) → LoopCost test body s u j (suc k)
      by_test true eb o eo le d f =
          let z : k ≡ j = cc in
          let w : (test s).1 ≡ u = cc in
          record { cost = 1; sum = omega (arith, z); again = λ i g lg. one_turn i g lg w }
        where
          one_turn : (i g : ℕ) → i + 1 < g → (test s).1 ≡ u → loop g test body s (i + 1) ≡ Ended u i
          one_turn i g lg w = grind arith
      by_test false eb (Out o) eo le d f = absurd (cc)
      by_test false eb (Ended t i) eo le d f =
          let r = costs (test s).1 k t i eo in
          let q = f t i le d in
          record {
            cost = suc (q.cost + r.cost);
            sum = omega (arith, r.sum, q.sum);
            again = λ n g lg. turn_more n g r q lg;
          }
        where
          turn_more : (n g : ℕ) → (r : Cost (body (test s).1) t i k) → (q : LoopCost test body t u j i)
              → n + suc (q.cost + r.cost) < g → loop g test body s (n + suc (q.cost + r.cost)) ≡ Ended u n
          turn_more n zero r q lg = absurd (omega arith)
          turn_more n (suc g) r q lg =
              let y : n + suc (q.cost + r.cost) ≡ suc ((n + q.cost) + r.cost) = omega arith in
              ap (λ m. loop (suc g) test body s m) y
              ∙ ap (λ (v : Bool). if v then Ended (test s).1 ((n + q.cost) + r.cost)
              else and_then (body (test s).1 ((n + q.cost) + r.cost)) (loop g test body)) eb
              ∙ ap (λ (o : PartEnd). and_then o (loop g test body)) (r.again (n + q.cost))
              ∙ q.again n g (omega arith)
  loop_cost fuel s k u j lt e = grind arith

module _ (calls : Calls) (cm : CallsAtMost calls) (cc_ : CallsCost calls) where
  leaf : (s v : ProcState) (u : ProcState) (j k : ℕ) → turn k s (λ i. Ended v i) ≡ Ended u j
      → Cost (λ i. turn i s (λ n. Ended v n)) u j k
  leaf s v u j k e = turn_cost s (λ i. Ended v i) u j k (λ i d. no_cost v u j i d) e

  mutual
    -- so does a step
    pub one_cost : (st : Step) (s : ProcState) (k : ℕ) (u : ProcState) (j : ℕ)
        → run_one calls st s k ≡ Ended u j → Cost (run_one calls st s) u j k
    one_cost (Do a) s k u j e = leaf s _ u j k e
    one_cost (Call x f ts) s k u j e =
        let vs = values_of ts s in
        turn_cost s (λ i. back_in vs.1.vars x (calls f vs.0 vs.1.out i)) u j k
        (λ i d. back_cost (calls f vs.0 vs.1.out) vs.1.vars x u j i (λ v p n z. cc_ f vs.0 vs.1.out i v p n z)
        (calls f vs.0 vs.1.out i) refl d) e
    one_cost (If t a b) s k u j e =
        let v = value_of t s in
        turn_cost s (λ i. if v.0 == 0 then run_all calls b v.1 i else run_all calls a v.1 i) u j k
        (λ i d. if_cost (v.0 == 0) (run_all calls b v.1) (run_all calls a v.1) u j i (all_cost b v.1 i u j)
        (all_cost a v.1 i u j) d) e
    one_cost (While t body) s k u j e =
        let r = loop_cost (value_of t) (run_all calls body) (all_most calls cm body) (all_cost body) (suc k) s
        k u j (omega arith) e in
        record { cost = r.cost; sum = r.sum; again = λ i. r.again i (suc (i + r.cost)) (omega arith) }

    -- so do steps
    pub all_cost : (st : Steps) (s : ProcState) (k : ℕ) (u : ProcState) (j : ℕ)
        → run_all calls st s k ≡ Ended u j → Cost (run_all calls st s) u j k
    all_cost Nothing s k u j e = no_cost s u j k e
    all_cost (Then st rest) s k u j e = then_cost (run_one calls st s) (run_all calls rest) u j k
        (λ t i d. one_cost st s k t i d) (λ t i d. all_cost rest t i u j d) (run_one calls st s k) refl e

finish_cost : (r : Option Term) (s : ProcState) (k v : ℕ) (o : Outside) (j : ℕ)
    → finish r s k ≡ Returned v o j → CallCost (finish r s) v o j k
finish_cost r s k v o j e = grind (arith, value_of)

ending_cost : (h : ℕ → PartEnd) (r : Option Term) (v : ℕ) (p : Outside) (j k : ℕ)
    → ((s : ProcState) (i : ℕ) → h k ≡ Ended s i → Cost h s i k) → (o : PartEnd) → h k ≡ o
    → ending o (finish r) ≡ Returned v p j → CallCost (λ i. ending (h i) (finish r)) v p j k
ending_cost h r v p j k f (Ended s i) e d = let a = f s i e in let b = finish_cost r s i v p j d in record {
  cost = b.cost + a.cost;
  sum = omega (arith, a.sum, b.sum);
  again = λ n. let z : n + (b.cost + a.cost) ≡ (n + b.cost) + a.cost = omega arith in
      ap (λ m. ending (h m) (finish r)) z ∙ ap (λ (x : PartEnd). ending x (finish r)) (a.again (n + b.cost))
      ∙ b.again n;
}
ending_cost h r v p j k f (Out o) e d = absurd (cc)

proc_cost : (calls : Calls) → CallsAtMost calls → CallsCost calls → (q : Proc) (args : List ℕ) (o : Outside)
    (k v : ℕ) (p : Outside) (j : ℕ) → run_proc calls q args o k ≡ Returned v p j
    → CallCost (run_proc calls q args o) v p j k
proc_cost calls cm cs q args o k v p j e =
    let s : ProcState = record { vars = args ++ zeros q.locals; out = o } in
    ending_cost (run_all calls q.body s) q.result v p j k (λ t i d. all_cost calls cm cs q.body s k t i d)
    (run_all calls q.body s k) refl e

if_call_cost : (b : Bool) (h g : ℕ → CallEnd) (v : ℕ) (p : Outside) (j k : ℕ)
    → (h k ≡ Returned v p j → CallCost h v p j k) → (g k ≡ Returned v p j → CallCost g v p j k)
    → (if b then h k else g k) ≡ Returned v p j → CallCost (λ i. if b then h i else g i) v p j k
if_call_cost b h g v p j k f i e = grind arith

-- so do the calls of a program
pub calls_cost : (n : ℕ) (procs : List Proc) → CallsCost (calls_below n procs)
calls_cost zero procs f args o k v p j e = absurd (cc)
calls_cost (suc n) procs f args o k v p j e =
    if_call_cost (f == n) (run_proc (calls_below n procs) (nth_proc procs n) args o)
    (calls_below n procs f args o) v p j k
    (grind (arith, proc_cost, calls_most, calls_cost n procs))
    (calls_cost n procs f args o k v p j) e

at_cost : (main : ℕ) (program : ResolvedProgram) (world : World) (k v : ℕ) (o : Outside) (j : ℕ)
    → run_at main program world k ≡ Returned v o j → CallCost (run_at main program world) v o j k
at_cost main program world k v o j e = proc_cost (calls_below main program.procs)
    (calls_most main program.procs) (calls_cost main program.procs) (nth_proc program.procs main) []
    (opening_out (empty_cells program.lengths) world) k v o j e

-- a run that ended with turns left ends with none left if it has so many fewer
pub exactly : (program : ResolvedProgram) (world : World) (k v : ℕ) (o : Outside) (j : ℕ)
    → run program world k ≡ Returned v o j → (n : ℕ) × (k ≡ j + n) × (run program world n ≡ Returned v o 0)
exactly program world k v o j e =
    let r = at_cost (length program.procs - 1) program world k v o j e in
    let z : 0 + r.cost ≡ r.cost = omega arith in grind (arith, r.again)

-- a run that ended with none left ends with so many left if it has so many more
pub more_turns : (program : ResolvedProgram) (world : World) (k v : ℕ) (o : Outside) (i : ℕ)
    → run program world k ≡ Returned v o 0 → run program world (i + k) ≡ Returned v o i
more_turns program world k v o i e =
    let r = at_cost (length program.procs - 1) program world k v o 0 e in grind (arith, r.again)
