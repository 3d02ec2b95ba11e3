-- What a block names and reads are variables of its procedure, and where its exit leads are blocks of it.
use Rattle.std.proofs.Common.{ℕ, ◌<◌, List, [], ◌∷◌, length, sym, subst, inl, inr, arith}
use Rattle.std.specs.List.{AllByRecursion}
use Rattle.cfg_core.specs.Graph.{Term, Number, Var, Cell, Flip, Not, Neg, Binary, Op, Assign, Store, Print}
use Rattle.cfg_core.specs.Graph.{Read, Give, Take, Choose, Tick, TickBy, Exit, Goto, Branch, Call, Return}
use Rattle.cfg_core.specs.Graph.{Send, Stop, Graph}
use Rattle.cfg_core.specs.Rules.{TermIn, OpIn, StaysIn, ExitIn}
use Rattle.live_vars.specs.Live.{Mentions, OneMentions, OpReads, ExitReads, Carries, ReadsFirst}

-- what is mentioned is a variable of the procedure
pub low : (g : Graph) (v : ℕ) (t : Term) (x : ℕ) → TermIn (length g.arrays) v t → Mentions t x → x < v
low g v (Number n) x i m = absurd m
low g v (Var y) x i m = omega (arith, i, m)
low g v (Cell a t) x i m = low g v t x i.1 m
low g v (Flip t) x i m = low g v t x i m
low g v (Not t) x i m = low g v t x i m
low g v (Neg t) x i m = low g v t x i m
low g v (Binary op a b) x i (inl m) = low g v a x i.0 m
low g v (Binary op a b) x i (inr m) = low g v b x i.1 m

pub all_low : (g : Graph) (v : ℕ) (ts : List Term) (x : ℕ) → AllByRecursion (TermIn (length g.arrays) v) ts
    → OneMentions ts x → x < v
all_low g v [] x i m = absurd m
all_low g v (t ∷ ts) x i (inl m) = low g v t x i.0 m
all_low g v (t ∷ ts) x i (inr m) = all_low g v ts x i.1 m

pub op_low : (g : Graph) (v : ℕ) (op : Op) (x : ℕ) → OpIn (length g.arrays) v op → OpReads op x → x < v
op_low g v (Assign y t) x i m = low g v t x i.1 m
op_low g v (Store a t u) x i (inl m) = low g v t x i.1 m
op_low g v (Store a t u) x i (inr m) = low g v u x i.2 m
op_low g v (Print t) x i m = low g v t x i m
op_low g v (Read y) x i m = absurd m
op_low g v (Give p y) x i m = absurd m
op_low g v (Take p t) x i m = low g v t x i.1 m
op_low g v (Choose y t a b) x i (inl m) = low g v t x i.1 m
op_low g v (Choose y t a b) x i (inr (inl m)) = low g v a x i.2 m
op_low g v (Choose y t a b) x i (inr (inr m)) = low g v b x i.3 m
op_low g v (Tick n) x i m = absurd m
op_low g v (TickBy t n m') x i m = low g v t x i m

pub exit_low : (g : Graph) (home n : ℕ) (exit : Exit) (y : ℕ) → ExitIn g home n exit → ExitReads exit y
    → y < n
exit_low g home n (Goto b) y h m = absurd m
exit_low g home n (Branch t a b) y h m = low g n t y h.0 m
exit_low g home n (Call r f ts back) y h m = all_low g n ts y h.3 m
exit_low g home n (Return t) y h m = low g n t y h m
exit_low g home n (Send t ts ls) y h (inl m) = low g n t y h.0 m
exit_low g home n (Send t ts ls) y h (inr m) = all_low g n ts y h.1 m
exit_low g home n Stop y h m = absurd m

pub reads_below : (g : Graph) (home n : ℕ) (ops : List Op) (exit : Exit) (y : ℕ)
    → AllByRecursion (OpIn (length g.arrays) n) ops → ExitIn g home n exit → ReadsFirst ops exit y → y < n
reads_below g home n [] exit y h e r = exit_low g home n exit y e r
reads_below g home n (op ∷ ops) exit y h e (inl r) = op_low g n op y h.0 r
reads_below g home n (op ∷ ops) exit y h e (inr r) = reads_below g home n ops exit y h.1 e r.1

-- an edge that keeps variables stays in its procedure
pub carries_stays : (q : Graph) (home vars : ℕ) (y : Exit) (c : ℕ) → ExitIn q home vars y → Carries y c
    → StaysIn q home c
carries_stays q home vars (Goto d) c i k = subst (StaysIn q home) (sym k) i
carries_stays q home vars (Branch t a d) c i (inl k) = subst (StaysIn q home) (sym k) i.1
carries_stays q home vars (Branch t a d) c i (inr k) = subst (StaysIn q home) (sym k) i.2
carries_stays q home vars (Call r f ts back) c i k = subst (StaysIn q home) (sym k) i.4
carries_stays q home vars (Return t) c i k = absurd k
carries_stays q home vars (Send t ts ls) c i k = absurd k
carries_stays q home vars Stop c i k = absurd k
