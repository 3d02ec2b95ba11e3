-- What is live at a block of the folded graph was live there: its terms mention no more variables, and it
-- writes what it wrote.
use Rattle.std.proofs.Common.{ℕ, ◌≡◌, ◌⊎◌, List, [], ◌∷◌, map, Option, Some, None, sym, subst, inl, inr}
use Rattle.std.proofs.Common.{arith}
use Rattle.ws_words.specs.declared.alu.Alu.{Alu}
use Rattle.cfg_core.specs.Graph.{Term, Number, Var, Cell, Flip, Not, Neg, Binary, Op, Assign, Store, Print}
use Rattle.cfg_core.specs.Graph.{Read, Give, Take, Choose, Tick, TickBy, Exit, Goto, Branch, Call, Return}
use Rattle.cfg_core.specs.Graph.{Send, Stop, Block, Graph, block_at}
use Rattle.live_vars.specs.Live.{Mentions, OneMentions, OpReads, OpWrites, ExitReads, ExitWrites, Carries}
use Rattle.live_vars.specs.Live.{WrittenIn, ReadsFirst, Live, reads, passes}
use Rattle.cfg_fold.specs.Known.{Fact, known}
use Rattle.cfg_fold.specs.Folded.{var_of, flip_of, not_of, neg_of, binary_of, folded, folded_op, after}
use Rattle.cfg_fold.specs.Folded.{folded_ops, after_all, folded_exit, folded_block, folded_graph}
use Rattle.live_vars.specs.Keeps.{NoMoreLive}
use Rattle.cfg_fold.proofs.Placing.{block_is}

var_mentions : (y x : ℕ) (k : Option ℕ) → Mentions (var_of y k) x → x ≡ y
var_mentions y x None m = m
var_mentions y x (Some n) m = absurd m

flip_mentions : (t : Term) (x : ℕ) → Mentions (flip_of t) x → Mentions t x
flip_mentions (Number n) x m = absurd m
flip_mentions (Var y) x m = m
flip_mentions (Cell a t) x m = m
flip_mentions (Flip t) x m = m
flip_mentions (Not t) x m = m
flip_mentions (Neg t) x m = m
flip_mentions (Binary op a b) x m = m

not_mentions : (t : Term) (x : ℕ) → Mentions (not_of t) x → Mentions t x
not_mentions (Number n) x m = absurd m
not_mentions (Var y) x m = m
not_mentions (Cell a t) x m = m
not_mentions (Flip t) x m = m
not_mentions (Not t) x m = m
not_mentions (Neg t) x m = m
not_mentions (Binary op a b) x m = m

neg_mentions : (t : Term) (x : ℕ) → Mentions (neg_of t) x → Mentions t x
neg_mentions (Number n) x m = absurd m
neg_mentions (Var y) x m = m
neg_mentions (Cell a t) x m = m
neg_mentions (Flip t) x m = m
neg_mentions (Not t) x m = m
neg_mentions (Neg t) x m = m
neg_mentions (Binary op a b) x m = m

-- an operator mentions what its operands do
binary_mentions : (op : Alu) (a b : Term) (x : ℕ) → Mentions (binary_of op a b) x
    → Mentions a x ⊎ Mentions b x
binary_mentions op a b x m = grind arith

-- a folded term mentions what the term mentions
folded_mentions : (facts : List Fact) (t : Term) (x : ℕ) → Mentions (folded facts t) x → Mentions t x
folded_mentions facts (Number n) x m = m
folded_mentions facts (Var y) x m = var_mentions y x (known facts y) m
folded_mentions facts (Cell a t) x m = folded_mentions facts t x m
folded_mentions facts (Flip t) x m = folded_mentions facts t x (flip_mentions (folded facts t) x m)
folded_mentions facts (Not t) x m = folded_mentions facts t x (not_mentions (folded facts t) x m)
folded_mentions facts (Neg t) x m = folded_mentions facts t x (neg_mentions (folded facts t) x m)
folded_mentions facts (Binary op a b) x m = elim (binary_mentions op (folded facts a) (folded facts b) x m) [
  | inl l ↦ inl (folded_mentions facts a x l)
  | inr r ↦ inr (folded_mentions facts b x r)
]

one_mentions : (facts : List Fact) (ts : List Term) (x : ℕ) → OneMentions (map (folded facts) ts) x
    → OneMentions ts x
one_mentions facts [] x m = m
one_mentions facts (t ∷ ts) x (inl m) = inl (folded_mentions facts t x m)
one_mentions facts (t ∷ ts) x (inr m) = inr (one_mentions facts ts x m)

op_reads : (facts : List Fact) (op : Op) (x : ℕ) → OpReads (folded_op facts op) x → OpReads op x
op_reads facts (Assign y t) x m = folded_mentions facts t x m
op_reads facts (Store a t u) x (inl m) = inl (folded_mentions facts t x m)
op_reads facts (Store a t u) x (inr m) = inr (folded_mentions facts u x m)
op_reads facts (Print t) x m = folded_mentions facts t x m
op_reads facts (Read y) x m = m
op_reads facts (Give p y) x m = m
op_reads facts (Take p t) x m = folded_mentions facts t x m
op_reads facts (Choose y t a b) x (inl m) = inl (folded_mentions facts t x m)
op_reads facts (Choose y t a b) x (inr (inl m)) = inr (inl (folded_mentions facts a x m))
op_reads facts (Choose y t a b) x (inr (inr m)) = inr (inr (folded_mentions facts b x m))
op_reads facts (Tick n) x m = m
op_reads facts (TickBy t n k) x m = folded_mentions facts t x m

op_writes : (facts : List Fact) (op : Op) (x : ℕ) → OpWrites op x → OpWrites (folded_op facts op) x
op_writes facts (Assign y t) x w = w
op_writes facts (Store a t u) x w = w
op_writes facts (Print t) x w = w
op_writes facts (Read y) x w = w
op_writes facts (Give p y) x w = w
op_writes facts (Take p t) x w = w
op_writes facts (Choose y t a b) x w = w
op_writes facts (Tick n) x w = w
op_writes facts (TickBy t n k) x w = w

exit_reads : (facts : List Fact) (e : Exit) (x : ℕ) → ExitReads (folded_exit facts e) x → ExitReads e x
exit_reads facts (Goto b) x m = m
exit_reads facts (Branch t a b) x m = folded_mentions facts t x m
exit_reads facts (Call r f ts back) x m = one_mentions facts ts x m
exit_reads facts (Return t) x m = folded_mentions facts t x m
exit_reads facts (Send t ts ls) x (inl m) = inl (folded_mentions facts t x m)
exit_reads facts (Send t ts ls) x (inr m) = inr (one_mentions facts ts x m)
exit_reads facts Stop x m = m

exit_writes : (facts : List Fact) (e : Exit) (x : ℕ) → ExitWrites e x → ExitWrites (folded_exit facts e) x
exit_writes facts (Goto b) x w = w
exit_writes facts (Branch t a b) x w = w
exit_writes facts (Call None f ts back) x w = w
exit_writes facts (Call (Some y) f ts back) x w = w
exit_writes facts (Return t) x w = w
exit_writes facts (Send t ts ls) x w = w
exit_writes facts Stop x w = w

exit_carries : (facts : List Fact) (e : Exit) (c : ℕ) → Carries (folded_exit facts e) c → Carries e c
exit_carries facts (Goto b) c k = k
exit_carries facts (Branch t a b) c k = k
exit_carries facts (Call r f ts back) c k = k
exit_carries facts (Return t) c k = k
exit_carries facts (Send t ts ls) c k = k
exit_carries facts Stop c k = k

all_written : (facts : List Fact) (ops : List Op) (x : ℕ) → WrittenIn ops x
    → WrittenIn (folded_ops facts ops) x
all_written facts [] x w = w
all_written facts (op ∷ ops) x (inl w) = inl (op_writes facts op x w)
all_written facts (op ∷ ops) x (inr w) = inr (all_written (after facts (folded_op facts op)) ops x w)

first_read : (facts : List Fact) (ops : List Op) (e f : Exit) (x : ℕ) → (ExitReads f x → ExitReads e x)
    → ReadsFirst (folded_ops facts ops) f x → ReadsFirst ops e x
first_read facts [] e f x exits r = exits r
first_read facts (op ∷ ops) e f x exits (inl r) = inl (op_reads facts op x r)
first_read facts (op ∷ ops) e f x exits (inr r) = inr (
  (λ w. r.0 (op_writes facts op x w)),
  first_read (after facts (folded_op facts op)) ops e f x exits r.1,
)

module _ (g : Graph) where
  abbrev h : Graph
  h = folded_graph g

  abbrev known_last : ℕ → List Fact
  known_last b = after_all [] (block_at g b).ops

  read_there : (b x : ℕ) → ReadsFirst (folded_block (block_at g b)).ops (folded_block (block_at g b)).exit x
      → Live g b x
  read_there b x r = reads b x (first_read [] (block_at g b).ops (block_at g b).exit
      (folded_exit (known_last b) (block_at g b).exit) x (exit_reads (known_last b) (block_at g b).exit x) r)

  abbrev PassesOn : ℕ → ℕ → ℕ → Block → Type 0
  PassesOn b c x y =
      (WrittenIn y.ops x → ⊥) → (ExitWrites y.exit x → ⊥) → Carries y.exit c → Live g c x → Live g b x

  passed_there : (b c x : ℕ) → PassesOn b c x (folded_block (block_at g b))
  passed_there b c x none new k l = passes b c x
      (λ w. none (all_written [] (block_at g b).ops x w))
      (λ w. new (exit_writes (known_last b) (block_at g b).exit x w))
      (exit_carries (known_last b) (block_at g b).exit c k) l

  -- no more is live
  pub no_more_live : NoMoreLive g h
  no_more_live b x (reads d y r) =
      read_there b x (subst (λ (z : Block). ReadsFirst z.ops z.exit x) (block_is g b) r)
  no_more_live b x (passes d c y none new k l) =
      subst (PassesOn b c x) (sym (block_is g b)) (passed_there b c x) none new k (no_more_live c x l)
