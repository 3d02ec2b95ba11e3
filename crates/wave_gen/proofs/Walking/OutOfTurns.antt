-- What a walk has done when it is out of turns is done first by the walk with more turns.
use Rattle.std.proofs.Common.{ℕ, suc, ◌+◌, ◌-◌, ◌≡◌, ◌≤◌, ◌==◌, Bool, true, false, if◌then◌else◌, List}
use Rattle.std.proofs.Common.{[], ◌∷◌, ◌++◌, refl, ap, ◌∙◌, arith}
use Rattle.ws_words.specs.Outside.{Act, Outside, ProcState}
use Rattle.ws_words.specs.Past.{ActsBegin}
use Rattle.cfg_core.specs.Graph.{Op, Assign, Store, Print, Read, Give, Take, Choose, Tick, TickBy, Exit, Goto}
use Rattle.cfg_core.specs.Graph.{Branch, Call, Return, Send, Stop, Graph}
use Rattle.cfg_core.specs.Walk.{value_of, values_of, OpsOutcome, Done, Out, and_then, spend, run_op, run_ops}
use Rattle.cfg_core.specs.Walk.{Config, At, Over, Going, Frame, leave}
use Rattle.wave_gen.proofs.Walking.Paced.{op_most, ops_most}

append_nil : (xs : List Act) → xs ≡ xs ++ []
append_nil [] = refl
append_nil (x ∷ xs) = ap (λ (r : List Act). x ∷ r) (append_nil xs)

-- acts, bracketed otherwise
pub append_assoc : (xs ys zs : List Act) → (xs ++ ys) ++ zs ≡ xs ++ (ys ++ zs)
append_assoc [] ys zs = refl
append_assoc (x ∷ xs) ys zs = ap (λ (r : List Act). x ∷ r) (append_assoc xs ys zs)

pub append_three : (xs ys zs us : List Act) → ((xs ++ ys) ++ zs) ++ us ≡ xs ++ (ys ++ (zs ++ us))
append_three xs ys zs us = append_assoc (xs ++ ys) zs us ∙ append_assoc xs ys (zs ++ us)

-- acts go on
abbrev pub Longer : Outside → Outside → Type 0
Longer o p = ActsBegin o.acts p.acts

pub longer_same : (o : Outside) → Longer o o
longer_same o = ([], append_nil o.acts)

longer_trans : (o p q : Outside) → Longer o p → Longer p q → Longer o q
longer_trans o p q a b = (grind (arith, append_assoc, o.acts))

loads_longer : (t : _) (s : ProcState) → Longer s.out (value_of t s).1.out
loads_longer t s = (_, refl)

all_longer : (ts : List _) (s : ProcState) → Longer s.out (values_of ts s).1.out
all_longer ts s = (_, refl)

-- an outcome with fewer turns is of this state
abbrev Agrees : ProcState → OpsOutcome → Type 0
Agrees u (Done t l) = t ≡ u
Agrees u (Out o) = o ≡ u.out

-- with n turns, of which it takes at most m, an operation is done
record Whole (s : ProcState) (m n : ℕ) (run : ℕ → OpsOutcome) : Type 0 where
  pub state : ProcState
  pub left : ℕ
  pub done : run n ≡ Done state left
  pub enough : n ≤ left + m
  pub longer : Longer s.out state.out
  pub same : (k : ℕ) → Agrees state (run k)

at_once : (s u : ProcState) (n : ℕ) → Longer s.out u.out → Whole s 0 n (λ k. Done u k)
at_once s u n l = record {
  state = u;
  left = n;
  done = refl;
  enough = omega arith;
  longer = l;
  same = λ k. refl;
}

spend_done : (m : ℕ) (s : ProcState) (n : ℕ) → m ≤ n → spend m s n ≡ Done s (n - m)
spend_done (suc m) s (suc n) l = grind (arith, spend_done m s n (omega (arith, l)))
spend_done m s n l = grind arith

spend_same : (m : ℕ) (s : ProcState) (k : ℕ) → Agrees s (spend m s k)
spend_same (suc m) s (suc k) = spend_same m s k
spend_same m s k = grind arith

spent : (s u : ProcState) (m most n : ℕ) → m ≤ most → most ≤ n → Longer s.out u.out
    → Whole s most n (spend m u)
spent s u m most n l h w = record {
  state = u;
  left = n - m;
  done = spend_done m u n (omega (arith, l, h));
  enough = omega (arith, l, h);
  longer = w;
  same = spend_same m u;
}

either_whole : (s : ProcState) (m n : ℕ) (v : Bool) (x y : ℕ → OpsOutcome) → Whole s m n x → Whole s m n y
    → Whole s m n (λ k. if v then x k else y k)
either_whole s m n true x y a b = record {
  state = a.state;
  left = a.left;
  done = a.done;
  enough = a.enough;
  longer = a.longer;
  same = a.same;
}
either_whole s m n false x y a b = record {
  state = b.state;
  left = b.left;
  done = b.done;
  enough = b.enough;
  longer = b.longer;
  same = b.same;
}

op_whole : (op : Op) (s : ProcState) (n : ℕ) → op_most op ≤ n → Whole s (op_most op) n (run_op op s)
op_whole (Assign x t) s n h = at_once s _ n (_, refl)
op_whole (Store a t u) s n h = at_once s _ n (_, append_three s.out.acts _ _ _)
op_whole (Print t) s n h = at_once s _ n (_, append_assoc s.out.acts _ _)
op_whole (Read x) s n h = at_once s _ n (_, refl)
op_whole (Give p x) s n h = at_once s _ n (_, refl)
op_whole (Take p t) s n h = at_once s _ n (_, append_assoc s.out.acts _ _)
op_whole (Choose x t a b) s n h = either_whole s 0 n ((value_of t s).0 == 0) _ _
    (at_once s _ n (_, append_assoc s.out.acts _ _)) (at_once s _ n (_, append_assoc s.out.acts _ _))
op_whole (Tick m) s n h = spent s s m m n (omega arith) h (longer_same s.out)
op_whole (TickBy t i j) s n h = either_whole s (i + j) n ((value_of t s).0 == 0) (spend j (value_of t s).1)
    (spend i (value_of t s).1)
    (spent s (value_of t s).1 j (i + j) n (omega arith) h (loads_longer t s))
    (spent s (value_of t s).1 i (i + j) n (omega arith) h (loads_longer t s))

-- operations with enough turns are done
pub record Ran (o : Outside) (r : OpsOutcome) : Type 0 where
  pub state : ProcState
  pub left : ℕ
  pub done : r ≡ Done state left
  pub longer : Longer o state.out

all_run : (ops : List Op) (s : ProcState) (n : ℕ) → ops_most ops ≤ n → Ran s.out (run_ops ops s n)
all_run [] s n h = grind (arith, longer_same)
all_run (op ∷ ops) s n h =
    let w = op_whole op s n (omega arith) in
    let e : n ≤ w.left + op_most op = w.enough in
    let r = all_run ops w.state w.left (omega arith) in
    record {
      state = r.state;
      left = r.left;
      done = ap (λ (x : OpsOutcome). and_then x (run_ops ops)) w.done
          ∙ r.done;
      longer = longer_trans s.out w.state.out r.state.out w.longer r.longer;
    }

-- operations that are out of turns have done what they do first with enough of them
pub front_run : (ops : List Op) (s : ProcState) (k n : ℕ) (o : Outside) → run_ops ops s k ≡ Out o
    → ops_most ops ≤ n → Ran o (run_ops ops s n)
front_run [] s k n o e h = absurd (let z : Done s k ≡ Out o = e in cc)
front_run (op ∷ ops) s k n o e h = go (run_op op s k) refl (w.same k) (λ t l f m i. front_run ops t l m o f i)
  where
    w : Whole s (op_most op) n (run_op op s)
    w = op_whole op s n (omega arith)

    first : run_ops (op ∷ ops) s n ≡ run_ops ops w.state w.left
    first = ap (λ (x : OpsOutcome). and_then x (run_ops ops)) w.done

    enough : ops_most ops ≤ w.left
    enough = let f : n ≤ w.left + op_most op = w.enough in omega arith

    go : (r : OpsOutcome) → run_op op s k ≡ r → Agrees w.state r
        → ((t : ProcState) (l : ℕ) → run_ops ops t l ≡ Out o → (m : ℕ) → ops_most ops ≤ m
        → Ran o (run_ops ops t m)) → Ran o (run_ops (op ∷ ops) s n)
    go r q a ih = grind (arith, w, enough, first, all_run)

-- what is outside in a configuration
abbrev pub outside : Config → Outside
outside (At b s frames k) = s.out
outside (Over o k) = o
outside (Going o) = o

-- an exit goes on
pub exit_longer : (g : Graph) (exit : Exit) (s : ProcState) (frames : List Frame) (k : ℕ)
    → (more : List Act) × ((outside (leave g exit s frames k)).acts ≡ s.out.acts ++ more)
exit_longer g (Goto b) s frames k = longer_same s.out
exit_longer g (Branch t a b) s frames k = go ((value_of t s).0 == 0)
  where
    go : (v : Bool)
        → Longer s.out
        (outside (if v then At b (value_of t s).1 frames k else At a (value_of t s).1 frames k))
    go true = loads_longer t s
    go false = loads_longer t s
exit_longer g (Call x f ts back) s frames k = all_longer ts s
exit_longer g (Return t) s [] k = loads_longer t s
exit_longer g (Return t) s (f ∷ frames) k = loads_longer t s
exit_longer g (Send t ts ls) s frames k = longer_trans s.out (value_of t s).1.out
    (values_of ts (value_of t s).1).1.out (loads_longer t s) (all_longer ts (value_of t s).1)
exit_longer g Stop s frames k = longer_same s.out
