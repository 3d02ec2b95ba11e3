-- What the code does at each step is what the run does.
use mathlib.Core.Path.{fun_ext}
use Rattle.std.proofs.Common.{rules, ◌≡◌, ℕ, zero, suc, ◌+◌, ◌-◌, ◌<◌, ◌≤◌, ◌==◌, Bool, true, false, List, []}
use Rattle.std.proofs.Common.{◌∷◌, ◌++◌, Option, Some, None, length, map, take, drop, if◌then◌else◌}
use Rattle.std.proofs.Common.{slice_index_or, refl, sym, ap, ◌∙◌, subst, append_assoc, arith}
use Rattle.std.proofs.lemmas.List.{append-nil}
use Rattle.std.proofs.lemmas.Bool.Decides.{nat_tests}
use Rattle.std.specs.Prelude.{Vec}
use Rattle.std.specs.declared.alloc.Global.{Global}
use Rattle.ws_words.specs.Memory.{lengths_of}
use Rattle.ws_words.specs.Outside.{Act, Outside, ProcState, zeros}
use Rattle.ws_words.specs.Past.{ActsBegin}
use Rattle.ws_words.specs.declared.memory.Memory.{Memory}
use Rattle.src_ast.specs.Turns.{PartEnd, Ended, Out, and_then, CallEnd, Stopped, with_result}
use Rattle.src_ast.specs.Turns.{back_in, ending, loop}
use Rattle.src_ast.specs.Meaning.{Calls}
use Rattle.src_ast.specs.Runs.{outside_of}
use Rattle.cfg_core.specs.Graph.{Term}
use Rattle.cfg_core.specs.Walk.{value, values, loads_of, all_loads, value_of, values_of}
use Rattle.cfg_core.specs.View as graph
use Rattle.cfg_core.specs.declared.blocks.Term.{Term as CodeTerm}
use Rattle.seq_run.specs.Resolved as resolved
use Rattle.seq_run.specs.Resolved.{Steps, Then, Proc, run_one, run_all, run_proc, finish}
use Rattle.seq_run.specs.Resolved.{calls_below, nth_proc}
use Rattle.seq_run.specs.Firsts.{first_past}
use Rattle.seq_run.specs.Seen.{seen, call_seen}
use Rattle.seq_run.specs.Shows.{ShowsMemory, Holds, Stops, Faulted, PartEnded, PartOut, FlowIs, CallReturned}
use Rattle.seq_run.specs.Shows.{CallOut, ReplyIs, Upto, stop_flag}
use Rattle.seq_run.specs.TurnsLeft.{AtMost}
use Rattle.seq_run.specs.View as view
use Rattle.seq_run.specs.View.{row_list}
use Rattle.seq_run.specs.Weight.{weight, heft, weight_below}
use Rattle.seq_run.specs.declared.tree.Step.TheVariants as code
use Rattle.seq_run.specs.declared.tree.Step.TheFolds.{the_lemmas}
use Rattle.seq_run.specs.declared.tree.Step.{Step}
use Rattle.seq_run.specs.declared.tree.Proc.{Proc as CodeProc}
use Rattle.seq_run.specs.declared.flow.Flow.{Flow}
use Rattle.seq_run.specs.declared.flow.Flow.TheVariants as flows
use Rattle.seq_run.specs.declared.flow.Reply.{Reply}
use Rattle.seq_run.specs.declared.flow.Reply.TheVariants as replies
use Rattle.seq_run.proofs.TurnsLeft.{calls_most, CallsAtMost}
use Rattle.seq_run.proofs.Cost.{Cost, one_cost, all_cost, calls_cost, CallsCost}
use Rattle.seq_run.proofs.Grows.{OutcomeTells, CallsTell, all_tells, finish_tells, loop_tells}
use Rattle.ws_words.proofs.Acts.{begins_all}
use Rattle.seq_run.proofs.Fronts.{outcome_begins, call_begins, then_begins, back_begins}
use Rattle.seq_run.proofs.Effects.{value_is, values_are, value_holds, value_stops, values_stop, stops_more}
use Rattle.ws_words.proofs.Bools.{by_bool}

-- the same where a turn is wanted, and else acts that begin with the same
abbrev Extends : List Act × Bool → List Act × Bool → Type 0
Extends x y = (x.1 ≡ true → y ≡ x) × ActsBegin x.0 y.0

extends_same : (x y : List Act × Bool) → y ≡ x → Extends x y
extends_same x y e = (λ h. e, subst (λ (z : List Act × Bool). ActsBegin x.0 z.0) (sym e) (begins_all x.0))

-- a fault in a part is one in what goes on as the part does, some turns later
shifted : (start : Outside) (p q : ℕ → List Act × Bool) (cost turns k c : ℕ) (m : Memory) (left : ℕ)
    → turns ≡ k + cost → ((n : ℕ) → Extends (p n) (q (n + cost))) → Faulted start p k c m left
    → Faulted start q turns c m left
shifted start p q cost turns k c m left e x f = record {
  earlier = f.earlier + cost;
  sum = omega (arith, e, f.sum);
  stops =
      let z : suc f.earlier + cost ≡ suc (f.earlier + cost) = omega arith in
      subst (λ (n : ℕ). Stops start (q n).0 c m) z
      (stops_more start (p (suc f.earlier)).0 (q (suc f.earlier + cost)).0 c m (x (suc f.earlier)).1
      f.stops);
  wants = grind arith;
  within = grind arith;
}

-- a part that goes on as another does, some turns later
pub flow_shift : (start : Outside) (p q : ℕ → PartEnd) (cost turns k : ℕ) (f : Flow) (m : Memory)
    (vars : List ℕ) (left : ℕ) → turns ≡ k + cost → ((n : ℕ) → q (n + cost) ≡ p n)
    → FlowIs start p k f m vars left → FlowIs start q turns f m vars left
flow_shift start p q cost turns k f m vars left e x h = grind (arith, shifted, seen, extends_same)

-- so with a call
pub reply_shift : (start : Outside) (p q : ℕ → CallEnd) (cost turns k : ℕ) (r : Reply) (m : Memory) (left : ℕ)
    → turns ≡ k + cost → ((n : ℕ) → q (n + cost) ≡ p n) → ReplyIs start p k r m left
    → ReplyIs start q turns r m left
reply_shift start p q cost turns k r m left e x h = grind (arith, shifted, call_seen, extends_same)

-- after one turn
pub after_turn : (start : Outside) (p q : ℕ → PartEnd) (turns : ℕ) (f : Flow) (m : Memory) (vars : List ℕ)
    (left : ℕ) → 0 < turns → ((n : ℕ) → q (suc n) ≡ p n) → FlowIs start p (turns - 1) f m vars left
    → FlowIs start q turns f m vars left
after_turn start p q turns f m vars left lt x h = grind (arith, flow_shift)

-- what stops first stops the whole
pub then_stops : (start : Outside) (p : ℕ → PartEnd) (go : ℕ → ProcState → ℕ → PartEnd) (turns : ℕ) (f : Flow)
    (m : Memory) (vars now : List ℕ) (left : ℕ) → stop_flag f ≡ true
    → ((n : ℕ) (s : ProcState) (k : ℕ) → OutcomeTells s.out (go n s k)) → FlowIs start p turns f m vars left
    → FlowIs start (λ n. and_then (p n) (go n)) turns f m now left
then_stops start p go turns flows.Ended m vars now left e t h = absurd (cc)
then_stops start p go turns flows.Out m vars now left e t h = at (p turns) h
  where
    at : (o : PartEnd) → PartOut start o m → PartOut start (and_then o (go turns)) m
    at o h = grind arith
then_stops start p go turns (flows.Fault c) m vars now left e t h =
    shifted start (λ n. seen (p n)) (λ n. seen (and_then (p n) (go n))) 0 turns turns c m left (omega arith)
    (λ n. let z : n + 0 ≡ n = omega arith in
    subst (λ (k : ℕ). Extends (seen (p n)) (seen (and_then (p k) (go k)))) (sym z) (at n (p n))) h
  where
    at : (n : ℕ) (o : PartEnd) → Extends (seen o) (seen (and_then o (go n)))
    at n (Ended s k) = grind (arith, outcome_begins)
    at n (Out o) = (λ h. refl, begins_all o.acts)

-- before its first turn a part wants it; with one it stops
pub stops_at_once : (start : Outside) (part : ℕ → PartEnd) (s : ProcState) (turns c : ℕ) (m held : Memory)
    (vars : List ℕ) → 0 < turns → part 0 ≡ Out s.out → Holds start s held vars
    → Stops start (seen (part 1)).0 c m → Faulted start (λ n. seen (part n)) turns c m (turns - 1)
stops_at_once start part s turns c m held vars lt e h st = grind (arith, seen)

-- the value of one term more
pub values_more : (ts : List CodeTerm) (vars : List ℕ) (cells : List (List ℕ)) (i : ℕ) (t : CodeTerm)
    (words : List ℕ) → i < length ts → t ≡ slice_index_or ts i t → words ≡ values (map graph.term (take i ts))
    vars cells → words ++ value (graph.term t) vars cells ∷ [] ≡ values (map graph.term (take (i + 1) ts))
    vars cells
values_more ts vars cells i t words lt e w =
    let z : i + 1 ≡ suc i = omega arith in
    ap (λ (ws : List ℕ). ws ++ value (graph.term t) vars cells ∷ []) w ∙ at ts i lt e
    ∙ ap (λ (n : ℕ). values (map graph.term (take n ts)) vars cells) (sym z)
  where
    at : (ts : List CodeTerm) (i : ℕ) → i < length ts → t ≡ slice_index_or ts i t
        → values (map graph.term (take i ts)) vars cells ++ value (graph.term t) vars cells ∷ []
        ≡ values (map graph.term (take (suc i) ts)) vars cells
    at [] i lt e = absurd (omega arith)
    at (x ∷ ts) zero lt e = ap (λ (y : CodeTerm). value (graph.term y) vars cells ∷ []) e
    at (x ∷ ts) (suc i) lt e = ap (λ (ws : List ℕ). value (graph.term x) vars cells ∷ ws)
        (at ts i (omega arith) e)

-- the loads of one term more
pub loads_more : (ts : List CodeTerm) (vars : List ℕ) (cells : List (List ℕ)) (i : ℕ) (t : CodeTerm)
    → i < length ts → t ≡ slice_index_or ts i t → all_loads (map graph.term (take (i + 1) ts)) vars cells
    ≡ all_loads (map graph.term (take i ts)) vars cells ++ loads_of (graph.term t) vars cells
loads_more ts vars cells i t lt e = ap (λ (n : ℕ). all_loads (map graph.term (take n ts)) vars cells)
    (let z : i + 1 ≡ suc i = omega arith in z) ∙ at ts i lt e
  where
    at : (ts : List CodeTerm) (i : ℕ) → i < length ts → t ≡ slice_index_or ts i t
        → all_loads (map graph.term (take (suc i) ts)) vars cells ≡ all_loads (map graph.term (take i ts))
        vars cells ++ loads_of (graph.term t) vars cells
    at (x ∷ ts) (suc i) lt e = ap (λ (acts : List Act). loads_of (graph.term x) vars cells ++ acts)
        (at ts i (omega arith) e) ∙ sym (append_assoc (loads_of (graph.term x) vars cells) _ _)
    at ts i lt e = grind (arith, append-nil)

-- a choice
module _ (calls : Calls) (tell : CallsTell calls) (start : Outside) (s : ProcState) (m : Memory)
    (vars : List ℕ) (h : Holds start s m vars) (turns : ℕ) (lt : 0 < turns) (t : Term) (a b : Steps) where
  second_arm : (b0 : Bool) (n : ℕ) → b0 ≡ true
      → (if b0 then run_all calls b (value_of t s).1 n else run_all calls a (value_of t s).1 n)
      ≡ run_all calls b (value_of t s).1 n
  second_arm b0 n e = ap (λ (v : Bool). if v then run_all calls b (value_of t s).1 n
      else run_all calls a (value_of t s).1 n) e

  first_arm : (b0 : Bool) (n : ℕ) → b0 ≡ false
      → (if b0 then run_all calls b (value_of t s).1 n else run_all calls a (value_of t s).1 n)
      ≡ run_all calls a (value_of t s).1 n
  first_arm b0 n e = ap (λ (v : Bool). if v then run_all calls b (value_of t s).1 n
      else run_all calls a (value_of t s).1 n) e

  flag_is : (f : Bool) → (value t vars m.cells == 0) ≡ f → ((value_of t s).0 == 0) ≡ f
  flag_is f e = ap (λ (v : ℕ). v == 0) (sym (value_is start s m vars h t)) ∙ e

  -- the second arm
  pub if_zero : (f : Flow) (n : Memory) (now : List ℕ) (k : ℕ) → (value t vars m.cells == 0) ≡ true
      → FlowIs start (run_all calls b (value_of t s).1) (turns - 1) f n now k
      → FlowIs start (run_one calls (resolved.If t a b) s) turns f n now k
  if_zero f n now k e g = grind (arith, after_turn, value_of, second_arm, flag_is)

  -- the first arm
  pub if_other : (f : Flow) (n : Memory) (now : List ℕ) (k : ℕ) → (value t vars m.cells == 0) ≡ false
      → FlowIs start (run_all calls a (value_of t s).1) (turns - 1) f n now k
      → FlowIs start (run_one calls (resolved.If t a b) s) turns f n now k
  if_other f n now k e g = grind (arith, after_turn, value_of, first_arm, flag_is)

  -- the test has a load that is past
  pub if_stops : (c : ℕ) (now : List ℕ) → first_past (lengths_of m.cells) (loads_of t vars m.cells) ≡ Some c
      → FlowIs start (run_one calls (resolved.If t a b) s) turns (flows.Fault c) m now (turns - 1)
  if_stops c now e = grind (arith, stops_at_once, value_stops, value_of, outcome_begins, all_tells)

-- a step among the steps that are left
next_steps : (ss : List Step) (i : ℕ) (x : Step) → i < length ss → x ≡ slice_index_or ss i x
    → view.steps (drop i ss) ≡ Then (view.step x) (view.steps (drop (suc i) ss))
next_steps (y ∷ ss) (suc i) x lt e = next_steps ss i x (omega arith) e
next_steps ss i x lt e = grind arith

pub heft_some : (st : Steps) → 0 < heft st
heft_some st = grind arith

-- a step weighs less than the steps that it is among
pub weight_lt : (ss : List Step) (i : ℕ) (x : Step) → i < length ss → x ≡ slice_index_or ss i x
    → suc (weight (view.step x)) < heft (view.steps ss)
weight_lt (y ∷ ss) (suc i) x lt e = let h = weight_lt ss i x (omega arith) e in omega arith
weight_lt ss i x lt e = grind (arith, heft_some)

-- what is left goes as the whole does
pub upto_is : (start : Outside) (now : ProcState → ℕ → PartEnd) (whole : ℕ → PartEnd) (turns left k : ℕ)
    (m n : Memory) (vars later : List ℕ) (f : Flow) → (u : Upto start now whole turns m vars left)
    → FlowIs start (now u.at) left f n later k → FlowIs start whole turns f n later k
upto_is start now whole turns left k m n vars later f u g = grind (arith, flow_shift, u.same)

-- the state at the end of a part, and what the part took
record Ends (start : Outside) (p : ℕ → PartEnd) (k : ℕ) (m : Memory) (vars : List ℕ) (left : ℕ) : Type 0 where
  at : ProcState
  holds : Holds start at m vars
  cost : ℕ
  sum : k ≡ left + cost
  again : (i : ℕ) → p (i + cost) ≡ Ended at i

ends : (start : Outside) (p : ℕ → PartEnd) (k : ℕ) (m : Memory) (vars : List ℕ) (left : ℕ)
    → ((s : ProcState) (i : ℕ) → p k ≡ Ended s i → Cost p s i k) → FlowIs start p k flows.Ended m vars left
    → Ends start p k m vars left
ends start p k m vars left f h = at (p k) refl h
  where
    at : (o : PartEnd) → p k ≡ o → PartEnded start o m vars left → Ends start p k m vars left
    at (Ended s i) e g = let r = f s i e in grind arith
    at (Out o) e g = absurd g

-- among steps
module _ (calls : Calls) (most : CallsAtMost calls) (costs : CallsCost calls) (tell : CallsTell calls)
    (start : Outside) (ss : List Step) (i : ℕ) (x : Step) (whole : ℕ → PartEnd) (turns left : ℕ) (m : Memory)
    (vars : List ℕ) (lt : i < length ss) (is : x ≡ slice_index_or ss i x)
    (u : Upto start (run_all calls (view.steps (drop i ss))) whole turns m vars left) where
  here : (k : ℕ) → whole (k + u.spent) ≡ and_then (run_one calls (view.step x) u.at k)
      (run_all calls (view.steps (drop (suc i) ss)))
  here k = u.same k ∙ ap (λ (st : Steps). run_all calls st u.at k) (next_steps ss i x lt is)

  -- one more step
  pub stepped : (n : Memory) (now : List ℕ) (k next : ℕ) → next ≡ suc i
      → FlowIs start (run_one calls (view.step x) u.at) left flows.Ended n now k
      → Upto start (run_all calls (view.steps (drop next ss))) whole turns n now k
  stepped n now k next en h =
      let e = ends start (run_one calls (view.step x) u.at) left n now k
      (grind (arith, one_cost, u.at)) h in
      subst (λ (j : ℕ). Upto start (run_all calls (view.steps (drop j ss))) whole turns n now k) (sym en)
      (record {
        at = e.at;
        holds = e.holds;
        spent = e.cost + u.spent;
        sum = omega (arith, e.sum, u.sum);
        same = λ j.
            let z : j + (e.cost + u.spent) ≡ (j + e.cost) + u.spent = omega arith in
            ap whole z ∙ here (j + e.cost)
            ∙ ap (λ (o : PartEnd). and_then o (run_all calls (view.steps (drop (suc i) ss)))) (e.again j);
      })

  -- a step stops the steps
  pub stopped_at : (n : Memory) (now : List ℕ) (k : ℕ) (f : Flow) → stop_flag f ≡ true
      → FlowIs start (run_one calls (view.step x) u.at) left f n now k → FlowIs start whole turns f n now k
  stopped_at n now k f e h =
      flow_shift start (λ j. and_then (run_one calls (view.step x) u.at j)
      (run_all calls (view.steps (drop (suc i) ss)))) whole u.spent turns left f n now k u.sum here
      (then_stops start (run_one calls (view.step x) u.at) (λ j. run_all calls (view.steps (drop (suc i) ss)))
      left f n now now k e (λ j. all_tells calls tell (view.steps (drop (suc i) ss))) h)

-- what has not stopped has ended
pub is_ended : (start : Outside) (p : ℕ → PartEnd) (turns : ℕ) (f : Flow) (m : Memory) (vars : List ℕ) (k : ℕ)
    → stop_flag f ≡ false → FlowIs start p turns f m vars k → FlowIs start p turns flows.Ended m vars k
is_ended start p turns f m vars k e h = grind arith

-- calls
module _ (calls : Calls) (tell : CallsTell calls) (start : Outside) (s : ProcState) (m : Memory)
    (vars : List ℕ) (h : Holds start s m vars) (turns : ℕ) (lt : 0 < turns) (x : Option ℕ) (f : ℕ)
    (ts : List Term) where
  back_seen : (e : CallEnd) → seen (back_in s.vars x e) ≡ call_seen e
  back_seen e = grind arith

  module _ (words : List ℕ) (ew : words ≡ values ts vars m.cells) where
    called : (j : ℕ) → run_one calls (resolved.Call x f ts) s (suc j) ≡ back_in s.vars x
        (calls f words (values_of ts s).1.out j)
    called j = ap (λ (ws : List ℕ). back_in s.vars x (calls f ws (values_of ts s).1.out j))
        (sym (ew ∙ values_are start s m vars h ts))

    back_is : (e : CallEnd) (n : Memory) (v k : ℕ) (now : List ℕ) → CallReturned start e v n k
        → now ≡ with_result x v vars → PartEnded start (back_in s.vars x e) n now k
    back_is e n v k now g en = grind arith

    back_out : (e : CallEnd) (n : Memory) → CallOut start e n → PartOut start (back_in s.vars x e) n
    back_out e n g = grind arith

    -- the call gave a word
    pub call_is : (n : Memory) (v k : ℕ) (now : List ℕ) → ReplyIs start (calls f words (values_of ts s).1.out)
        (turns - 1) (replies.Value v) n k → now ≡ with_result x v vars
        → FlowIs start (run_one calls (resolved.Call x f ts) s) turns flows.Ended n now k
    call_is n v k now g en = grind (arith, after_turn, s.vars, values_of, called, back_is)

    -- it wants a turn
    pub call_out : (n : Memory) (k : ℕ) (now : List ℕ) → ReplyIs start (calls f words (values_of ts s).1.out)
        (turns - 1) replies.Out n k → FlowIs start (run_one calls (resolved.Call x f ts) s) turns flows.Out n
        now k
    call_out n k now g = grind (arith, after_turn, s.vars, values_of, called, back_out)

    -- it stopped
    pub call_faulted : (n : Memory) (c k : ℕ) (now : List ℕ)
        → ReplyIs start (calls f words (values_of ts s).1.out) (turns - 1) (replies.Fault c) n k
        → FlowIs start (run_one calls (resolved.Call x f ts) s) turns (flows.Fault c) n now k
    call_faulted n c k now g =
        after_turn start (λ j. back_in s.vars x (calls f words (values_of ts s).1.out j))
        (run_one calls (resolved.Call x f ts) s) turns (flows.Fault c) n now k lt called
        (subst (λ (p : ℕ → List Act × Bool). Faulted start p (turns - 1) c n k)
        (fun_ext (λ j. sym (back_seen (calls f words (values_of ts s).1.out j)))) g)

  -- an argument has a load that is past
  pub arguments_stop : (c : ℕ) (now : List ℕ) → first_past (lengths_of m.cells) (all_loads ts vars m.cells)
      ≡ Some c → FlowIs start (run_one calls (resolved.Call x f ts) s) turns (flows.Fault c) m now (turns - 1)
  arguments_stop c now e =
      grind (arith, stops_at_once, values_stop, values_of, back_begins, s.vars, call_begins)

-- a loop's fuel, of which there is enough, makes no difference
loop_fuel : (test : ProcState → ℕ × ProcState) (body : ProcState → ℕ → PartEnd)
    → ((s : ProcState) (k : ℕ) → AtMost k (body s k)) → (f g : ℕ) (s : ProcState) (k : ℕ) → k < f → k < g
    → loop f test body s k ≡ loop g test body s k
loop_fuel test body most (suc f) (suc g) s (suc j) lf lg =
    ap (λ (o : PartEnd). if (test s).0 == 0 then Ended (test s).1 j else o)
    (after (body (test s).1 j) (loop f test body) (loop g test body) (most (test s).1 j)
    (λ u i le. loop_fuel test body most f g u i (omega arith) (omega arith)))
  where
    after : (o : PartEnd) (go went : ProcState → ℕ → PartEnd) → AtMost j o
        → ((u : ProcState) (i : ℕ) → i ≤ j → go u i ≡ went u i) → and_then o go ≡ and_then o went
    after o go went le h = grind arith
loop_fuel test body most f g s k lf lg = grind arith

-- a loop, some of whose turns are spent
module _ (t : Term) (body : ProcState → ℕ → PartEnd) (most : (s : ProcState) (k : ℕ) → AtMost k (body s k))
    (tells : (s : ProcState) (k : ℕ) → OutcomeTells s.out (body s k))
    (costs : (s : ProcState) (k : ℕ) (u : ProcState) (j : ℕ) → body s k ≡ Ended u j
    → Cost (body s) u j k) where
  -- the loop with fuel enough
  abbrev pub looped : ProcState → ℕ → PartEnd
  looped s k = loop (suc k) (value_of t) body s k

  module _ (start : Outside) (whole : ℕ → PartEnd) (turns left : ℕ) (m : Memory) (vars : List ℕ)
      (u : Upto start looped whole turns m vars left) where
    -- the test has a load that is past
    pub test_stops : (c : ℕ) → 0 < left → first_past (lengths_of m.cells) (loads_of t vars m.cells) ≡ Some c
        → FlowIs start whole turns (flows.Fault c) m vars (left - 1)
    test_stops c lt e =
        upto_is start looped whole turns left (left - 1) m m vars vars (flows.Fault c) u
        (stops_at_once start (looped u.at) u.at left c m m vars lt refl u.holds
        (value_stops start u.at m vars u.holds t c _ e (arm ((value_of t u.at).0 == 0))))
      where
        arm : (f : Bool) → ActsBegin (value_of t u.at).1.out.acts
            (seen (if f then Ended (value_of t u.at).1 0 else and_then (body (value_of t u.at).1 0)
            (loop 1 (value_of t) body))).0
        arm true = begins_all _
        arm false = then_begins (value_of t u.at).1.out.acts (body (value_of t u.at).1 0)
            (loop 1 (value_of t) body) (outcome_begins (value_of t u.at).1.out _
            (tells (value_of t u.at).1 0)) (loop_tells 1 t body tells)

    flag_at : (f : Bool) → (value t vars m.cells == 0) ≡ f → ((value_of t u.at).0 == 0) ≡ f
    flag_at f e = ap (λ (v : ℕ). v == 0) (sym (value_is start u.at m vars u.holds t)) ∙ e

    -- the test is 0
    pub loop_zero : 0 < left → first_past (lengths_of m.cells) (loads_of t vars m.cells) ≡ None
        → (value t vars m.cells == 0) ≡ true → FlowIs start whole turns flows.Ended m vars (left - 1)
    loop_zero lt none e = grind (arith, upto_is, after_turn, value_of, flag_at, value_holds, u.at)

    again_at : (value t vars m.cells == 0) ≡ false → (k : ℕ) → looped u.at (suc k) ≡ and_then
        (body (value_of t u.at).1 k) (loop (suc k) (value_of t) body)
    again_at e k = ap (λ (f : Bool). if f then Ended (value_of t u.at).1 k
        else and_then (body (value_of t u.at).1 k) (loop (suc k) (value_of t) body)) (flag_at false e)

    -- the body was run once more
    pub loop_next : (n : Memory) (now : List ℕ) (k : ℕ) → 0 < left → (value t vars m.cells == 0) ≡ false
        → FlowIs start (body (value_of t u.at).1) (left - 1) flows.Ended n now k
        → Upto start looped whole turns n now k
    loop_next n now k lt e h =
        let r = ends start (body (value_of t u.at).1) (left - 1) n now k
        (λ s j d. costs (value_of t u.at).1 (left - 1) s j d) h in
        record {
          at = r.at;
          holds = r.holds;
          spent = suc (r.cost + u.spent);
          sum = omega (arith, r.sum, u.sum, lt);
          same = λ j.
              let z : j + suc (r.cost + u.spent) ≡ suc (j + r.cost) + u.spent = omega arith in
              ap whole z ∙ u.same (suc (j + r.cost)) ∙ again_at e (j + r.cost)
              ∙ ap (λ (o : PartEnd). and_then o (loop (suc (j + r.cost)) (value_of t) body)) (r.again j)
              ∙ loop_fuel (value_of t) body most (suc (j + r.cost)) (suc j) r.at j (omega arith)
              (omega arith);
        }

    -- the body stopped
    pub loop_stopped : (n : Memory) (now : List ℕ) (k : ℕ) (f : Flow) → 0 < left
        → (value t vars m.cells == 0) ≡ false → stop_flag f ≡ true → FlowIs start (body (value_of t u.at).1)
        (left - 1) f n now k → FlowIs start whole turns f n now k
    loop_stopped n now k f lt e st h =
        upto_is start looped whole turns left k m n vars now f u
        (after_turn start (λ j. and_then (body (value_of t u.at).1 j) (loop (suc j) (value_of t) body))
        (looped u.at) left f n now k lt (again_at e)
        (then_stops start (body (value_of t u.at).1) (λ j. loop (suc j) (value_of t) body) (left - 1) f n now
        now k st (λ j. loop_tells (suc j) t body tells) h))

-- procedures by number
if_true : (b : Bool) (e u : CallEnd) → b ≡ true → (if b then e else u) ≡ e
if_true b e u h = ap (λ (v : Bool). if v then e else u) h

if_false : (b : Bool) (e u : CallEnd) → b ≡ false → (if b then e else u) ≡ u
if_false b e u h = ap (λ (v : Bool). if v then e else u) h

-- a call of a procedure by its number
pub calls_at : (n f : ℕ) (procs : List Proc) → f < n → (args : List ℕ) (o : Outside) (k : ℕ)
    → calls_below n procs f args o k ≡ run_proc (calls_below f procs) (nth_proc procs f) args o k
calls_at zero f procs lt args o k = absurd (omega arith)
calls_at (suc n) f procs lt args o k =
    by_bool (f == n) (calls_below (suc n) procs f args o k ≡ run_proc (calls_below f procs) (nth_proc procs f)
    args o k)
    (grind (arith, if_true))
    (λ e. if_false (f == n) _ _ e ∙ calls_at n f procs (grind (arith, nat_tests)) args o k)

-- there is no procedure with a larger number
pub calls_past : (n f : ℕ) (procs : List Proc) → n ≤ f → (args : List ℕ) (o : Outside) (k : ℕ)
    → calls_below n procs f args o k ≡ Stopped o
calls_past zero f procs le args o k = refl
calls_past (suc n) f procs le args o k =
    let e : (f == n) ≡ false = grind (arith, nat_tests) in
    ap (λ (b : Bool). if b then run_proc (calls_below n procs) (nth_proc procs n) args o k
    else calls_below n procs f args o k) e ∙ calls_past n f procs (omega arith) args o k

nth_procs : (ps : List CodeProc) (f : ℕ) (p : CodeProc) → f < length ps → p ≡ slice_index_or ps f p
    → nth_proc (view.procs ps) f ≡ view.proc p
nth_procs (x ∷ ps) (suc f) p lt e = nth_procs ps f p (omega arith) e
nth_procs ps f p lt e = grind arith

pub weight_call : (n f : ℕ) (procs : List Proc) → f < n → weight_below f procs + heft (nth_proc procs f).body
    < weight_below n procs
weight_call zero f procs lt = absurd (omega arith)
weight_call (suc n) f procs lt =
    by_bool (f == n) (weight_below f procs + heft (nth_proc procs f).body < weight_below (suc n) procs)
    (grind arith)
    (λ e. let h = weight_call n f procs (grind (arith, nat_tests)) in omega arith)

-- the result of a procedure
pub result_is : (start : Outside) (t : Term) (s : ProcState) (m : Memory) (vars : List ℕ) (v j : ℕ)
    → Holds start s m vars → 0 < j → first_past (lengths_of m.cells) (loads_of t vars m.cells) ≡ None
    → v ≡ value t vars m.cells → ReplyIs start (finish (Some t) s) j (replies.Value v) m (j - 1)
result_is start t s m vars v j h lt none ev = grind (arith, value_holds, value_is)

-- it has a load that is past
pub result_stops : (start : Outside) (t : Term) (s : ProcState) (m : Memory) (vars : List ℕ) (c j : ℕ)
    → Holds start s m vars → 0 < j → first_past (lengths_of m.cells) (loads_of t vars m.cells) ≡ Some c
    → ReplyIs start (finish (Some t) s) j (replies.Fault c) m (j - 1)
result_stops start t s m vars c j h lt e = grind (arith, value_stops, begins_all)

-- the callee, and what its steps did
module _ (below f : ℕ) (ps : List CodeProc) (p : CodeProc) (lt : f < below) (in_ps : f < length ps)
    (is : p ≡ slice_index_or ps f p) (start : Outside) (args : List ℕ) (m : Memory) (turns : ℕ) where
  callee : (o : Outside) (k : ℕ) → calls_below below (view.procs ps) f args o k ≡ run_proc
      (calls_below f (view.procs ps)) (view.proc p) args o k
  callee o k = grind (arith, calls_at, nth_procs)

  module _ (vars : List ℕ) (starts : vars ≡ args ++ zeros p.locals) (o : Outside)
      (sh : ShowsMemory start o m) where
    abbrev first : ProcState
    first = record { vars = args ++ zeros p.locals; out = o }

    first_holds : Holds start first m vars
    first_holds = record { out = sh; same_vars = sym starts }

    abbrev steps : ℕ → PartEnd
    steps k = run_all (calls_below f (view.procs ps)) (view.steps p.body.items) first k

    as_call : (r : Reply) (n : Memory) (k : ℕ)
        → ReplyIs start (λ j. ending (steps j) (finish (view.result p.result))) turns r n k
        → ReplyIs start (calls_below below (view.procs ps) f args o) turns r n k
    as_call r n k h = grind (arith, reply_shift, callee)

    -- they ended, and then the result was made
    pub call_ended : (n e : Memory) (now : List ℕ) (r : Reply) (j k : ℕ)
        → ((s : ProcState) → Holds start s m vars
        → FlowIs start (run_all (calls_below f (view.procs ps)) (view.steps p.body.items) s) turns flows.Ended
        n now j) → ((s : ProcState) → Holds start s n now → ReplyIs start (finish (view.result p.result) s) j
        r e k) → ReplyIs start (calls_below below (view.procs ps) f args o) turns r e k
    call_ended n e now r j k h g =
        let u = ends start steps turns n now j (λ s i d. all_cost (calls_below f (view.procs ps))
        (calls_most f (view.procs ps)) (calls_cost f (view.procs ps)) (view.steps p.body.items) first
        turns s i d) (h first first_holds) in
        as_call r e k (reply_shift start (finish (view.result p.result) u.at)
        (λ i. ending (steps i) (finish (view.result p.result))) u.cost turns j r e k u.sum
        (λ i. ap (λ (x : PartEnd). ending x (finish (view.result p.result))) (u.again i))
        (g u.at u.holds))

    -- they want a turn
    pub call_wants : (n : Memory) (now : List ℕ) (k : ℕ)
        → ((s : ProcState) → Holds start s m vars
        → FlowIs start (run_all (calls_below f (view.procs ps)) (view.steps p.body.items) s) turns flows.Out n
        now k) → ReplyIs start (calls_below below (view.procs ps) f args o) turns replies.Out n k
    call_wants n now k h = as_call replies.Out n k (at (steps turns) (h first first_holds))
      where
        at : (x : PartEnd) → PartOut start x n → CallOut start (ending x (finish (view.result p.result))) n
        at x g = grind arith

    -- they stopped
    pub call_stops : (n : Memory) (now : List ℕ) (c k : ℕ)
        → ((s : ProcState) → Holds start s m vars
        → FlowIs start (run_all (calls_below f (view.procs ps)) (view.steps p.body.items) s) turns
        (flows.Fault c) n now k) → ReplyIs start (calls_below below (view.procs ps) f args o) turns
        (replies.Fault c) n k
    call_stops n now c k h = as_call (replies.Fault c) n k
        (shifted start (λ j. seen (steps j))
        (λ j. call_seen (ending (steps j) (finish (view.result p.result)))) 0 turns turns c n k
        (omega arith)
        (λ j. let z : j + 0 ≡ j = omega arith in
        subst (λ (i : ℕ). Extends (seen (steps j))
        (call_seen (ending (steps i) (finish (view.result p.result))))) (sym z) (at (steps j)))
        (h first first_holds))
      where
        same_acts : (acts : List Act) (e : CallEnd) → ActsBegin acts (outside_of e).acts
            → ActsBegin acts (call_seen e).0
        same_acts acts e b = grind arith

        at : (x : PartEnd) → Extends (seen x) (call_seen (ending x (finish (view.result p.result))))
        at (Ended s j) = (
          λ e. absurd (cc),
          same_acts s.out.acts (finish (view.result p.result) s j)
              (call_begins s.out (finish (view.result p.result) s j)
              (finish_tells (view.result p.result) s j)),
        )
        at (Out q) = (λ e. refl, begins_all q.acts)

-- what a choice of the code stands for
pub if_view : (t : CodeTerm) (a b : Vec Step Global) → view.step (code.If t a b) ≡ resolved.If (graph.term t)
    (view.steps a.items) (view.steps b.items)
if_view t a b = search (rules, the_lemmas, row_list)

-- what a loop of the code stands for
pub while_view : (t : CodeTerm) (a : Vec Step Global) → view.step (code.While t a) ≡ resolved.While
    (graph.term t) (view.steps a.items)
while_view t a = search (rules, the_lemmas, row_list)

-- steps of the code as steps of the run
pub from_step : (calls : Calls) (start : Outside) (a b : Step) (s : ProcState) (turns : ℕ) (f : Flow)
    (m : Memory) (vars : List ℕ) (k : ℕ) → b ≡ a → FlowIs start (run_one calls (view.step a) s) turns f m vars
    k → FlowIs start (run_one calls (view.step b) s) turns f m vars k
from_step calls start a b s turns f m vars k e h = grind arith

-- a reply that is known
pub as_reply : (start : Outside) (p : ℕ → CallEnd) (turns : ℕ) (r q : Reply) (m : Memory) (k : ℕ) → r ≡ q
    → ReplyIs start p turns r m k → ReplyIs start p turns q m k
as_reply start p turns r q m k e h = subst (λ (x : Reply). ReplyIs start p turns x m k) e h

-- a flow that is known
pub as_flow : (start : Outside) (p : ℕ → PartEnd) (turns : ℕ) (f g : Flow) (m : Memory) (vars : List ℕ)
    (k : ℕ) → f ≡ g → FlowIs start p turns f m vars k → FlowIs start p turns g m vars k
as_flow start p turns f g m vars k e h = subst (λ (x : Flow). FlowIs start p turns x m vars k) e h

-- a result that is known
pub as_result : (start : Outside) (r q : Option CodeTerm) (s : ProcState) (j : ℕ) (reply : Reply) (m : Memory)
    (k : ℕ) → r ≡ q → ReplyIs start (finish (view.result q) s) j reply m k
    → ReplyIs start (finish (view.result r) s) j reply m k
as_result start r q s j reply m k e h = grind arith

-- steps that are known
pub as_steps : (calls : Calls) (start : Outside) (x y : List Step) (u : ProcState) (k : ℕ) (f : Flow)
    (m : Memory) (vars : List ℕ) (j : ℕ) → x ≡ y → FlowIs start (run_all calls (view.steps x) u) k f m vars j
    → FlowIs start (run_all calls (view.steps y) u) k f m vars j
as_steps calls start x y u k f m vars j e h = grind arith

-- a choice of the code
pub if_step : (calls : Calls) (start : Outside) (s : ProcState) (turns : ℕ) (t : CodeTerm)
    (a b : Vec Step Global) (st : Step) (xs ys : List Step) → st ≡ code.If t a b → xs ≡ a.items → ys ≡ b.items
    → (f : Flow) (n : Memory) (now : List ℕ) (k : ℕ)
    → FlowIs start (run_one calls (resolved.If (graph.term t) (view.steps xs) (view.steps ys)) s) turns f n
    now k → FlowIs start (run_one calls (view.step st) s) turns f n now k
if_step calls start s turns t a b st xs ys is ea eb f n now k h = grind (arith, if_view)

-- a call of the code
pub call_step : (calls : Calls) (start : Outside) (s : ProcState) (turns : ℕ) (x : Option ℕ) (c : ℕ)
    (a : Vec CodeTerm Global) (st : Step) (ts : List CodeTerm) → st ≡ code.Call x c a → ts ≡ a.items
    → (f : Flow) (n : Memory) (now : List ℕ) (k : ℕ)
    → FlowIs start (run_one calls (resolved.Call x c (map graph.term ts)) s) turns f n now k
    → FlowIs start (run_one calls (view.step st) s) turns f n now k
call_step calls start s turns x c a st ts is e f n now k h = grind arith

-- a loop of the code
pub while_step : (calls : Calls) (start : Outside) (s : ProcState) (turns : ℕ) (t : CodeTerm)
    (a : Vec Step Global) (st : Step) (ss : List Step) → st ≡ code.While t a → ss ≡ a.items
    → (f : Flow) (n : Memory) (now : List ℕ) (k : ℕ)
    → FlowIs start (run_one calls (resolved.While (graph.term t) (view.steps ss)) s) turns f n now k
    → FlowIs start (run_one calls (view.step st) s) turns f n now k
while_step calls start s turns t a st ss is e f n now k h = grind (arith, while_view)

-- what a choice weighs
pub if_weight : (t : CodeTerm) (a b : Vec Step Global) (st : Step) → st ≡ code.If t a b
    → weight (view.step st) ≡ suc (suc (heft (view.steps a.items) + heft (view.steps b.items)))
if_weight t a b st is = ap (λ (x : Step). weight (view.step x)) is ∙ ap weight (if_view t a b)

-- what a loop weighs
pub while_weight : (t : CodeTerm) (a : Vec Step Global) (st : Step) → st ≡ code.While t a
    → weight (view.step st) ≡ suc (suc (suc (heft (view.steps a.items))))
while_weight t a st is = ap (λ (x : Step). weight (view.step x)) is ∙ ap weight (while_view t a)

-- what steps weigh
pub heft_of : (x y : List Step) → x ≡ y → heft (view.steps x) ≡ heft (view.steps y)
heft_of x y e = ap (λ (ss : List Step). heft (view.steps ss)) e

-- a procedure weighs less than the calls of later ones
pub call_weight : (ps : List CodeProc) (n f : ℕ) (p : CodeProc) → f < n → f < length ps
    → p ≡ slice_index_or ps f p → weight_below f (view.procs ps) + heft (view.steps p.body.items)
    < weight_below n (view.procs ps)
call_weight ps n f p lt inside is =
    subst (λ (q : Proc). weight_below f (view.procs ps) + heft q.body < weight_below n (view.procs ps))
    (nth_procs ps f p inside is) (weight_call n f (view.procs ps) lt)
