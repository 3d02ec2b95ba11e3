-- How far the walk of a graph comes with turns that are just enough.
use Rattle.std.proofs.Common.{ℕ, zero, suc, ◌+◌, ◌≡◌, ◌⊎◌, ◌==◌, Bool, true, false, if◌then◌else◌, List, []}
use Rattle.std.proofs.Common.{◌∷◌, refl, sym, ap, ◌∙◌, inl, inr, arith, append_assoc}
use Rattle.ws_words.specs.Outside.{Act, Outside, ProcState, World}
use Rattle.cfg_core.specs.Graph.{Op, Assign, Store, Print, Read, Give, Take, Choose, Tick, TickBy, Exit, Goto}
use Rattle.cfg_core.specs.Graph.{Branch, Call, Return, Send, Stop, Graph, block_at}
use Rattle.cfg_core.specs.Rules.{IsGraph}
use Rattle.cfg_core.specs.Walk.{value_of, OpsOutcome, Done, Out, and_then, spend, run_op, run_ops, Config, At}
use Rattle.cfg_core.specs.Walk.{Over, Going, Frame, IsOver, returned, leave, passed, step, walk, opening}
use Rattle.cfg_core.specs.Walk.{starts, Ends, Goes}
use Rattle.cfg_core.proofs.Cost.{walk_over, fewer}
use Rattle.cfg_core.proofs.Paired.{walk_add}
use Rattle.ws_words.specs.Past.{ActsBegin}
use Rattle.ws_words.proofs.Acts.{begins_then}
use Rattle.wave_gen.proofs.Walking.OutOfTurns.{Longer, longer_same, append_three, outside, exit_longer}

-- this cost, and what is there after it
record Exact (run : ℕ → OpsOutcome) : Type 0 where
  cost : ℕ
  state : ProcState
  done : (k : ℕ) → run (k + cost) ≡ Done state k

at_once : (u : ProcState) → Exact (λ k. Done u k)
at_once u = record { cost = 0; state = u; done = λ k. let z : k + 0 ≡ k = omega arith in ap (Done u) z }

either_exact : (v : Bool) (x y : ℕ → OpsOutcome) → Exact x → Exact y → Exact (λ k. if v then x k else y k)
either_exact true x y a b = record { cost = a.cost; state = a.state; done = a.done }
either_exact false x y a b = record { cost = b.cost; state = b.state; done = b.done }

spend_all : (m : ℕ) (s : ProcState) (k : ℕ) → spend m s (k + m) ≡ Done s k
spend_all zero s k = let z : k + 0 ≡ k = omega arith in ap (Done s) z
spend_all (suc m) s k = let z : k + suc m ≡ suc (k + m) = omega arith in
    ap (spend (suc m) s) z ∙ spend_all m s k

spent : (m : ℕ) (s : ProcState) → Exact (spend m s)
spent m s = record { cost = m; state = s; done = spend_all m s }

op_exact : (op : Op) (s : ProcState) → Exact (run_op op s)
op_exact (Assign x t) s = at_once _
op_exact (Store a t u) s = at_once _
op_exact (Print t) s = at_once _
op_exact (Read x) s = at_once _
op_exact (Give p x) s = at_once _
op_exact (Take p t) s = at_once _
op_exact (Choose x t a b) s = either_exact ((value_of t s).0 == 0) _ _ (at_once _) (at_once _)
op_exact (Tick m) s = spent m s
op_exact (TickBy t i j) s = either_exact ((value_of t s).0 == 0) (spend j (value_of t s).1)
    (spend i (value_of t s).1) (spent j _) (spent i _)

ops_exact : (ops : List Op) (s : ProcState) → Exact (run_ops ops s)
ops_exact [] s = at_once s
ops_exact (op ∷ ops) s =
    let w = op_exact op s in
    let r = ops_exact ops w.state in
    record {
      cost = r.cost + w.cost;
      state = r.state;
      done = λ k. let z : k + (r.cost + w.cost) ≡ (k + r.cost) + w.cost = omega arith in
          ap (λ x. and_then (run_op op s x) (run_ops ops)) z
          ∙ ap (λ (x : OpsOutcome). and_then x (run_ops ops)) (w.done (k + r.cost))
          ∙ r.done k;
    }

-- what follows a block does so with any number of turns
data Next (h : ℕ → Config) : Type 0 where
  goes : (b : ℕ) (s : ProcState) (frames : List Frame) → ((k : ℕ) → h k ≡ At b s frames k) → Next h
  ends : (o : Outside) → ((k : ℕ) → h k ≡ Over o k) → Next h

if_next : (v : Bool) (x y : ℕ → Config) → Next x → Next y → Next (λ k. if v then x k else y k)
if_next true x y (goes b s fs e) q = goes b s fs e
if_next true x y (ends o e) q = ends o e
if_next false x y p (goes b s fs e) = goes b s fs e
if_next false x y p (ends o e) = ends o e

returned_next : (v : ℕ) (o : Outside) (frames : List Frame) → Next (returned v o frames)
returned_next v o [] = ends o (λ k. refl)
returned_next v o (f ∷ frames) = goes _ _ frames (λ k. refl)

leave_next : (g : Graph) (exit : Exit) (s : ProcState) (frames : List Frame) → Next (leave g exit s frames)
leave_next g (Goto b) s frames = goes b s frames (λ k. refl)
leave_next g (Branch t a b) s frames = if_next ((value_of t s).0 == 0) _ _ (goes b _ frames (λ k. refl))
    (goes a _ frames (λ k. refl))
leave_next g (Call x f ts back) s frames = goes _ _ _ (λ k. refl)
leave_next g (Return t) s frames = returned_next _ _ frames
leave_next g (Send t ts ls) s frames = goes _ _ frames (λ k. refl)
leave_next g Stop s frames = ends s.out (λ k. refl)

-- with turns that are just enough a walk is at a block after m blocks, or has ended
pub data Came (g : Graph) (m : ℕ) (h : ℕ → Config) : Type 0 where
  stands : (cost b : ℕ) (s : ProcState) (frames : List Frame)
      → ((k : ℕ) → walk g m (h (k + cost)) ≡ At b s frames k) → Came g m h
  over : (cost : ℕ) (o : Outside) → ((k : ℕ) → walk g m (h (k + cost)) ≡ Over o k) → Came g m h

module _ (g : Graph) where
  exit_came : (m : ℕ) → ((b : ℕ) (s : ProcState) (frames : List Frame) → Came g m (At b s frames))
      → (h : ℕ → Config) → Next h → Came g m h
  exit_came m all h (goes b s frames e) = go (all b s frames)
    where
      go : Came g m (At b s frames) → Came g m h
      go (stands cost c u fs d) = stands cost c u fs (λ k. ap (walk g m) (e (k + cost)) ∙ d k)
      go (over cost o d) = over cost o (λ k. ap (walk g m) (e (k + cost)) ∙ d k)
  exit_came m all h (ends o e) = over 0 o (λ k. let z : k + 0 ≡ k = omega arith in ap (walk g m) (e (k + 0))
      ∙ walk_over g m o (k + 0) ∙ ap (Over o) z)

  pub at_came : (m b : ℕ) (s : ProcState) (frames : List Frame) → Came g m (At b s frames)
  at_came zero b s frames = stands 0 b s frames (λ k. let z : k + 0 ≡ k = omega arith in ap (At b s frames) z)
  at_came (suc m) b s frames =
      go (exit_came m (at_came m) (leave g (block_at g b).exit w.state frames)
      (leave_next g (block_at g b).exit w.state frames))
    where
      w : Exact (run_ops (block_at g b).ops s)
      w = ops_exact (block_at g b).ops s

      first : (cost k : ℕ) → walk g (suc m) (At b s frames (k + (cost + w.cost))) ≡ walk g m
          (leave g (block_at g b).exit w.state frames (k + cost))
      first cost k =
          let z : k + (cost + w.cost) ≡ (k + cost) + w.cost = omega arith in
          ap (λ x. walk g m (passed g (run_ops (block_at g b).ops s x) (block_at g b).exit frames)) z
          ∙ ap (λ (x : OpsOutcome). walk g m (passed g x (block_at g b).exit frames)) (w.done (k + cost))

      go : Came g m (leave g (block_at g b).exit w.state frames) → Came g (suc m) (At b s frames)
      go (stands cost c u fs d) = stands (cost + w.cost) c u fs (λ k. first cost k ∙ d k)
      go (over cost o d) = over (cost + w.cost) o (λ k. first cost k ∙ d k)

abbrev out_of : OpsOutcome → Outside
out_of (Done s k) = s.out
out_of (Out o) = o

spend_longer : (m : ℕ) (o : Outside) (s : ProcState) (k : ℕ) → Longer o s.out
    → Longer o (out_of (spend m s k))
spend_longer zero o s k l = l
spend_longer (suc m) o s zero l = l
spend_longer (suc m) o s (suc k) l = spend_longer m o s k l

either_longer : (o : Outside) (v : Bool) (x y : OpsOutcome) → Longer o (out_of x) → Longer o (out_of y)
    → Longer o (out_of (if v then x else y))
either_longer o true x y a b = a
either_longer o false x y a b = b

op_longer : (op : Op) (s : ProcState) (k : ℕ) → Longer s.out (out_of (run_op op s k))
op_longer (Assign x t) s k = (_, refl)
op_longer (Store a t u) s k = (_, append_three s.out.acts _ _ _)
op_longer (Print t) s k = (_, append_assoc s.out.acts _ _)
op_longer (Read x) s k = (_, refl)
op_longer (Give p x) s k = (_, refl)
op_longer (Take p t) s k = (_, append_assoc s.out.acts _ _)
op_longer (Choose x t a b) s k = either_longer s.out ((value_of t s).0 == 0) _ _
    (_, append_assoc s.out.acts _ _) (_, append_assoc s.out.acts _ _)
op_longer (Tick m) s k = spend_longer m s.out s k (longer_same s.out)
op_longer (TickBy t i j) s k = either_longer s.out ((value_of t s).0 == 0) _ _
    (spend_longer j s.out _ k (_, refl)) (spend_longer i s.out _ k (_, refl))

ops_longer : (ops : List Op) (s : ProcState) (k : ℕ) → Longer s.out (out_of (run_ops ops s k))
ops_longer [] s k = longer_same s.out
ops_longer (op ∷ ops) s k = go (run_op op s k) (op_longer op s k) (λ u j. ops_longer ops u j)
  where
    go : (r : OpsOutcome) → Longer s.out (out_of r)
        → ((u : ProcState) (j : ℕ) → Longer u.out (out_of (run_ops ops u j)))
        → Longer s.out (out_of (and_then r (run_ops ops)))
    go (Done u j) l f = begins_then s.out.acts u.out.acts _ l (f u j)
    go (Out o) l f = l

module _ (g : Graph) where
  step_longer : (c : Config) → Longer (outside c) (outside (step g c))
  step_longer (At b s frames k) = go (run_ops (block_at g b).ops s k) (ops_longer (block_at g b).ops s k)
    where
      go : (r : OpsOutcome) → Longer s.out (out_of r)
          → Longer s.out (outside (passed g r (block_at g b).exit frames))
      go (Done u j) l = begins_then s.out.acts u.out.acts _ l (exit_longer g (block_at g b).exit u frames j)
      go (Out o) l = l
  step_longer (Over o k) = longer_same o
  step_longer (Going o) = longer_same o

  walk_longer : (m : ℕ) (c : Config) → Longer (outside c) (outside (walk g m c))
  walk_longer zero c = longer_same (outside c)
  walk_longer (suc m) c = begins_then (outside c).acts (outside (step g c)).acts _ (step_longer c)
      (walk_longer m (step g c))

-- a walk of any number of turns comes to an answer
abbrev pub WalksAnswer : Type 0
WalksAnswer = (graph : Graph) → IsGraph graph → (b : ℕ) (s : ProcState) (frames : List Frame) (turns : ℕ)
    → (n : ℕ) × IsOver (walk graph n (starts b s frames turns))

-- with some turns the walk ends or goes, and these acts are the first of what it does
pub record Reaches (g : Graph) (world : World) (acts : List Act) : Type 0 where
  pub turns : ℕ
  pub end : Outside
  pub is : Ends g world turns end ⊎ Goes g world turns end
  pub front : ActsBegin acts end.acts

pub reaches : WalksAnswer → (g : Graph) → IsGraph g → (world : World) (n m b : ℕ) (s : ProcState)
    (frames : List Frame) (k : ℕ) → walk g m (opening g world n) ≡ At b s frames k
    → Reaches g world s.out.acts
reaches answers g rules world n m b s frames k e = go (walk g a.0 (At b s frames k)) refl a.1
  where
    a : (d : ℕ) × IsOver (walk g d (At b s frames k))
    a = answers g rules b s frames k

    whole : walk g (m + a.0) (opening g world n) ≡ walk g a.0 (At b s frames k)
    whole = walk_add g m a.0 (opening g world n) ∙ ap (walk g a.0) e

    front : (c : Config) → walk g a.0 (At b s frames k) ≡ c → ActsBegin s.out.acts (outside c).acts
    front c f = let l = walk_longer g a.0 (At b s frames k) in
        (l.0, ap (λ (x : Config). (outside x).acts) (sym f) ∙ l.1)

    go : (c : Config) → walk g a.0 (At b s frames k) ≡ c → IsOver (walk g a.0 (At b s frames k))
        → Reaches g world s.out.acts
    go (At c u fs j) f h = absurd (let z : IsOver (At c u fs j) = rw f at h in z)
    go (Over o j) f h = let r = fewer g world n j o (m + a.0, whole ∙ f) in
        record { turns = r.0; end = o; is = inl r.2; front = front (Over o j) f }
    go (Going o) f h = record { turns = n; end = o; is = inr (m + a.0, whole ∙ f); front = front (Going o) f }
