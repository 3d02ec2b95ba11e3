-- What the code does at each operation is what the walk does.
use Rattle.std.proofs.Common.{ℕ, suc, ◌-◌, ◌≡◌, ◌<◌, ◌≤◌, ◌==◌, Bool, true, false, List, [], ◌∷◌, drop}
use Rattle.std.proofs.Common.{map, if◌then◌else◌, slice_set, refl, sym, ap, ◌∙◌, subst, arith}
use Rattle.std.proofs.lemmas.Bool.Decides.{nat_tests}
use Rattle.ws_words.specs.Outside.{Outside, ProcState, write, with_out}
use Rattle.ws_words.specs.Memory.{OutIs}
use Rattle.ws_words.specs.declared.memory.Memory.{Memory}
use Rattle.ws_words.proofs.Held.{silently}
use Rattle.cfg_core.specs.Graph.{Term, Choose}
use Rattle.cfg_core.specs.Walk.{value, loads_of, value_of, values, values_of, all_loads, OpsOutcome, Done}
use Rattle.cfg_core.specs.Walk.{Out, and_then, spend, run_op, run_ops, Frame}
use Rattle.cfg_core.specs.View as view
use Rattle.cfg_core.specs.Shows.{Shows, PaceIs, out_flag}
use Rattle.cfg_core.specs.declared.blocks.GraphOp.{GraphOp}
use Rattle.cfg_core.specs.declared.walker.Walker.{Walker}
use Rattle.cfg_core.specs.declared.walker.Pace.{Pace}
use Rattle.cfg_core.specs.declared.walker.Pace.TheVariants as pace
use Rattle.cfg_core.proofs.Acts.{silent_loads, silent_all}

module _ (s : ProcState) (frames : List Frame) (k : ℕ) (w : Walker) (sh : Shows s frames k w) where
  -- the value of a term is the same on what the code holds
  pub value_is : (t : Term) → value t w.vars w.memory.cells ≡ (value_of t s).0
  value_is t = grind (arith, s.vars)

  -- so are the values of terms
  pub values_is : (ts : List Term) → values ts w.vars w.memory.cells ≡ (values_of ts s).0
  values_is ts = grind (arith, s.vars)

  -- loads leave what the code holds
  pub loaded : (t : Term) → Shows (value_of t s).1 frames k w
  loaded t = record {
    vars = sh.vars;
    outside = silently s.out w.memory sh.outside
        (loads_of t s.vars s.out.cells) (silent_loads t s.vars s.out.cells);
    waiting = sh.waiting;
    turns = sh.turns;
  }

  -- so do those of terms
  pub all_loaded : (ts : List Term) → Shows (values_of ts s).1 frames k w
  all_loaded ts =
      record {
        vars = sh.vars;
        outside = silently s.out w.memory sh.outside (all_loads ts s.vars s.out.cells)
            (silent_all ts s.vars s.out.cells);
        waiting = sh.waiting;
        turns = sh.turns;
      }

  -- a variable is written
  pub written_is : (x v : ℕ) (now : List ℕ) → now ≡ slice_set w.vars x v
      → Shows (write s x v) frames k (record w { vars = now })
  written_is x v now e = grind (arith, slice_set)

  -- an act is done, and the variables stay
  pub acted_is : (o : Outside) (m : Memory) → OutIs o m → Shows (with_out s o) frames k
      (record w { memory = m })
  acted_is o m h = record { vars = sh.vars; outside = h; waiting = sh.waiting; turns = sh.turns }

  -- an act gives a word to a variable
  pub got_is : (o : Outside) (m : Memory) (x v word : ℕ) (now : List ℕ) → OutIs o m → word ≡ v
      → now ≡ slice_set w.vars x word → Shows (record { vars = slice_set s.vars x v; out = o }) frames k
      (record w { vars = now; memory = m })
  got_is o m x v word now h ev e = grind (arith, slice_set, w.vars)

  -- turns are taken
  spend_enough : (n : ℕ) (t : ProcState) (k : ℕ) → n ≤ k → spend n t k ≡ Done t (k - n)
  spend_enough (suc n) t (suc k) le = let z : k - n ≡ suc k - suc n = omega arith in
      spend_enough n t k (omega arith) ∙ ap (λ j. Done t j) z
  spend_enough n t k le = grind arith

  spend_short : (n : ℕ) (t : ProcState) (k : ℕ) → k < n → spend n t k ≡ Out t.out
  spend_short (suc n) t (suc k) lt = spend_short n t k (omega arith)
  spend_short n t k lt = grind arith

  -- where there are enough turns, they are taken
  pub spent : (n : ℕ) → n ≤ w.turns → PaceIs (spend n s k) frames pace.Done (record w { turns = w.turns - n })
  spent n le = grind (arith, spend_enough)

  -- where there are too few, the walk is out of turns
  pub none_left : (n : ℕ) → w.turns < n → PaceIs (spend n s k) frames pace.Out w
  none_left n lt = grind (arith, spend_short)

-- an operation of the code is that of the graph
pub from_op : (x y : GraphOp) (s : ProcState) (frames : List Frame) (k : ℕ) (p : Pace) (w : Walker) → y ≡ x
    → PaceIs (run_op (view.op x) s k) frames p w → PaceIs (run_op (view.op y) s k) frames p w
from_op x y s frames k p w e h = subst (λ (z : GraphOp). PaceIs (run_op (view.op z) s k) frames p w) (sym e) h

-- a choice by a test that holds
pub if_true : (b : Bool) (o q : OpsOutcome) (frames : List Frame) (p : Pace) (w : Walker) → b ≡ true
    → PaceIs o frames p w → PaceIs (if b then o else q) frames p w
if_true b o q frames p w e h = subst (λ (v : Bool). PaceIs (if v then o else q) frames p w) (sym e) h

-- a choice by a test that does not
pub if_false : (b : Bool) (o q : OpsOutcome) (frames : List Frame) (p : Pace) (w : Walker) → b ≡ false
    → PaceIs q frames p w → PaceIs (if b then o else q) frames p w
if_false b o q frames p w e h = subst (λ (v : Bool). PaceIs (if v then o else q) frames p w) (sym e) h

module _ (s : ProcState) (frames : List Frame) (k : ℕ) (w : Walker) (sh : Shows s frames k w) where
  -- a choice between two values
  pub chosen_is : (x v : ℕ) (t a b : Term) (now : List ℕ)
      → v ≡ (if value t w.vars w.memory.cells == 0 then value b w.vars w.memory.cells
      else value a w.vars w.memory.cells) → now ≡ slice_set w.vars x v → PaceIs (run_op (Choose x t a b) s k)
      frames pace.Done (record w { vars = now })
  chosen_is x v t a b now ev en = by_test ((value_of t s).0 == 0) refl
    where
      same : (if value t w.vars w.memory.cells == 0 then value b w.vars w.memory.cells
          else value a w.vars w.memory.cells) ≡ (if (value_of t s).0 == 0 then value b w.vars w.memory.cells
          else value a w.vars w.memory.cells)
      same = ap (λ n. if n == 0 then value b w.vars w.memory.cells else value a w.vars w.memory.cells)
          (value_is s frames k w sh t)

      write_it : (u : Term) → v ≡ value u w.vars w.memory.cells
          → Shows (write (value_of u (value_of t s).1).1 x (value_of u s).0) frames k
          (record w { vars = now })
      write_it u e = written_is (value_of u (value_of t s).1).1 frames k w
          (loaded (value_of t s).1 frames k w (loaded s frames k w sh t) u) x (value_of u s).0 now
          (en ∙ ap (λ n. slice_set w.vars x n) (e ∙ value_is s frames k w sh u))

      by_test : (c : Bool) → ((value_of t s).0 == 0) ≡ c → PaceIs (run_op (Choose x t a b) s k) frames
          pace.Done (record w { vars = now })
      by_test true e = if_true ((value_of t s).0 == 0) _ _ frames pace.Done _ e
          (write_it b (ev ∙ same ∙ ap (λ (c : Bool). if c then value b w.vars w.memory.cells
          else value a w.vars w.memory.cells) e))
      by_test false e = if_false ((value_of t s).0 == 0) _ _ frames pace.Done _ e
          (write_it a (ev ∙ same ∙ ap (λ (c : Bool). if c then value b w.vars w.memory.cells
          else value a w.vars w.memory.cells) e))

-- a value of the code is 0 where that of the term is
pub zero_test : (n m : ℕ) → m ≡ n → m ≡ 0 → (n == 0) ≡ true
zero_test n m e z = grind (arith, nat_tests)

-- and is not 0 where that of the term is not
pub other_test : (n m : ℕ) → m ≡ n → (m ≡ 0 → ⊥) → (n == 0) ≡ false
other_test n m e z = grind (arith, nat_tests)

-- what is left of operations, from a state that the code holds, is all of them
pub record Upto (now : ProcState → ℕ → OpsOutcome) (whole : OpsOutcome) (frames : List Frame)
    (w : Walker) : Type 0 where
  pub state : ProcState
  pub left : ℕ
  pub shows : Shows state frames left w
  pub same : now state left ≡ whole

done_then : (o : OpsOutcome) (go : ProcState → ℕ → OpsOutcome) (frames : List Frame) (w : Walker)
    (whole : OpsOutcome) → PaceIs o frames pace.Done w → and_then o go ≡ whole → Upto go whole frames w
done_then o go frames w whole h e = grind arith

out_then : (o : OpsOutcome) (go : ProcState → ℕ → OpsOutcome) (frames : List Frame) (w : Walker)
    → PaceIs o frames pace.Out w → PaceIs (and_then o go) frames pace.Out w
out_then o go frames w h = grind arith

-- operations that are not out of turns are done
pub is_done : (o : OpsOutcome) (frames : List Frame) (p : Pace) (w : Walker) → out_flag p ≡ false
    → PaceIs o frames p w → PaceIs o frames pace.Done w
is_done o frames p w e h = grind arith

-- operations that are out of turns
pub is_out : (o : OpsOutcome) (frames : List Frame) (p : Pace) (w : Walker) → out_flag p ≡ true
    → PaceIs o frames p w → PaceIs o frames pace.Out w
is_out o frames p w e h = grind arith

-- the operations from one on
abbrev pub from : List GraphOp → ℕ → ProcState → ℕ → OpsOutcome
from ops i s k = run_ops (map view.op (drop i ops)) s k

next_ops : (ops : List GraphOp) (i j : ℕ) (x : GraphOp) → drop i ops ≡ x ∷ drop j ops
    → (s : ProcState) (k : ℕ) → from ops i s k ≡ and_then (run_op (view.op x) s k) (from ops j)
next_ops ops i j x e s k = ap (λ (os : List GraphOp). run_ops (map view.op os) s k) e

-- one operation more is done
pub one_more : (ops : List GraphOp) (i j : ℕ) (x : GraphOp) (frames : List Frame) (w n : Walker)
    (whole : OpsOutcome) → drop i ops ≡ x ∷ drop j ops → Upto (from ops i) whole frames w
    → ((s : ProcState) (k : ℕ) → Shows s frames k w → PaceIs (run_op (view.op x) s k) frames pace.Done n)
    → Upto (from ops j) whole frames n
one_more ops i j x frames w n whole e u f = grind (arith, done_then, u.left, next_ops)

-- an operation is out of turns
pub stopped_at : (ops : List GraphOp) (i j : ℕ) (x : GraphOp) (frames : List Frame) (w n : Walker)
    (whole : OpsOutcome) → drop i ops ≡ x ∷ drop j ops → Upto (from ops i) whole frames w
    → ((s : ProcState) (k : ℕ) → Shows s frames k w → PaceIs (run_op (view.op x) s k) frames pace.Out n)
    → PaceIs whole frames pace.Out n
stopped_at ops i j x frames w n whole e u f = grind (arith, next_ops, out_then, u.left)

-- no operation is left
pub no_more : (ops : List GraphOp) (i : ℕ) (frames : List Frame) (w : Walker) (whole : OpsOutcome)
    → drop i ops ≡ [] → Upto (from ops i) whole frames w → PaceIs whole frames pace.Done w
no_more ops i frames w whole e u = grind arith
