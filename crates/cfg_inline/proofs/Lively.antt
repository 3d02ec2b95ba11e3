-- What is live at a block of the inlined graph was live there: the variables of a callee get their values
-- before they are read, and the arguments are read as the call reads them.
use Rattle.std.proofs.Common.{ℕ, zero, suc, ◌+◌, ◌-◌, ◌≡◌, ◌<◌, ◌≤◌, ◌⊎◌, List, [], ◌∷◌, ◌++◌, length, map}
use Rattle.std.proofs.Common.{Option, Some, None, sym, ◌∙◌, subst, inl, inr, arith}
use Rattle.std.specs.List.{AllByRecursion}
use Rattle.std.proofs.lemmas.Bool.{cases_lt}
use Rattle.cfg_core.specs.Graph.{Term, Number, Var, Cell, Flip, Not, Neg, Binary, Op, Assign, Store, Print}
use Rattle.cfg_core.specs.Graph.{Read, Give, Take, Choose, Tick, TickBy, Exit, Goto, Call, Block, Graph}
use Rattle.cfg_core.specs.Graph.{spot_at, block_at, entry_of}
use Rattle.cfg_core.specs.Rules.{TermIn, OpIn, ExitIn, IsGraph}
use Rattle.cfg_core.proofs.Spots.{numbers_at}
use Rattle.live_vars.specs.Live.{Mentions, OneMentions, OpReads, ExitReads, ExitWrites, Carries}
use Rattle.live_vars.specs.Live.{WrittenIn, ReadsFirst, Live, reads, passes}
use Rattle.cfg_inline.specs.Inlined.{moved, moved_op, assigns, blanks, Plan, Site, target, site_ops, inlined}
use Rattle.cfg_inline.specs.Inlined.{most_blocks}
use Rattle.live_vars.specs.Keeps.{NoMoreLive}
use Rattle.live_vars.proofs.Needed.{first_exit}
use Rattle.live_vars.proofs.Written.{written_left, written_right}
use Rattle.cfg_core.proofs.Homes.{entry_there, params_at}
use Rattle.cfg_inline.proofs.Placing.{block_is}
use Rattle.cfg_inline.proofs.Straightened.{straight_in}
use Rattle.cfg_inline.proofs.Calling.{blanks_count}
use Rattle.cfg_inline.proofs.Alongside.{IsSite}
use Rattle.cfg_inline.proofs.Ruled.{by_call}

-- Operations after operations.

-- the first ones read a variable before they write it, or they don't write it and those after them read it
reads_either : (xs ys : List Op) (e : Exit) (x : ℕ) → ReadsFirst (xs ++ ys) e x
    → ((f : Exit) → ReadsFirst xs f x) ⊎ ((WrittenIn xs x → ⊥) × ReadsFirst ys e x)
reads_either [] ys e x r = inr ((λ w. w), r)
reads_either (op ∷ xs) ys e x (inl r) = inl (λ f. inl r)
reads_either (op ∷ xs) ys e x (inr r) = elim (reads_either xs ys e x r.1) [
  | inl i ↦ inl (λ f. inr (r.0, i f))
  | inr i ↦ inr ((λ w. elim w [ inl o ↦ r.0 o | inr o ↦ i.0 o ]), i.1)
]

-- Terms assigned in a row.

assigns_either : (v : ℕ) (ts : List Term) (ys : List Op) (e : Exit) (x : ℕ)
    → ReadsFirst (assigns v ts ++ ys) e x
    → OneMentions ts x ⊎ ((WrittenIn (assigns v ts) x → ⊥) × ReadsFirst ys e x)
assigns_either v [] ys e x r = inr ((λ w. w), r)
assigns_either v (t ∷ ts) ys e x (inl r) = inl (inl r)
assigns_either v (t ∷ ts) ys e x (inr r) = elim (assigns_either (suc v) ts ys e x r.1) [
  | inl i ↦ inl (inr i)
  | inr i ↦ inr ((λ w. elim w [ inl o ↦ r.0 o | inr o ↦ i.0 o ]), i.1)
]

assigns_write : (v : ℕ) (ts : List Term) (x : ℕ) → v ≤ x → x < v + length ts → WrittenIn (assigns v ts) x
assigns_write v [] x le lt = absurd (omega (arith, le, lt))
assigns_write v (t ∷ ts) x le lt = elim (cases_lt v x) [
  | inl more ↦ inr (assigns_write (suc v) ts x (omega (arith, more)) (omega (arith, lt)))
  | inr same ↦ inl (omega (arith, le, same))
]

blanks_mention : (ts : List Term) (n x : ℕ) → OneMentions (ts ++ blanks n) x → OneMentions ts x
blanks_mention [] zero x o = absurd o
blanks_mention [] (suc n) x (inl o) = absurd o
blanks_mention [] (suc n) x (inr o) = blanks_mention [] n x o
blanks_mention (t ∷ ts) n x (inl o) = inl o
blanks_mention (t ∷ ts) n x (inr o) = inr (blanks_mention ts n x o)

-- Moved operations read the variables that they were moved to.

module _ (arrays v n : ℕ) where
  abbrev Within : ℕ → Type 0
  Within x = (v ≤ x) × (x < v + n)

  moved_mentions : (t : Term) (x : ℕ) → TermIn arrays n t → Mentions (moved v t) x → Within x
  moved_mentions (Number m) x i o = absurd o
  moved_mentions (Var y) x i o = (omega (arith, o), omega (arith, o, i))
  moved_mentions (Cell a t) x i o = moved_mentions t x i.1 o
  moved_mentions (Flip t) x i o = moved_mentions t x i o
  moved_mentions (Not t) x i o = moved_mentions t x i o
  moved_mentions (Neg t) x i o = moved_mentions t x i o
  moved_mentions (Binary op a b) x i (inl o) = moved_mentions a x i.0 o
  moved_mentions (Binary op a b) x i (inr o) = moved_mentions b x i.1 o

  moved_reads : (op : Op) (x : ℕ) → OpIn arrays n op → OpReads (moved_op v op) x → Within x
  moved_reads (Assign y t) x i o = moved_mentions t x i.1 o
  moved_reads (Store a t u) x i (inl o) = moved_mentions t x i.1 o
  moved_reads (Store a t u) x i (inr o) = moved_mentions u x i.2 o
  moved_reads (Print t) x i o = moved_mentions t x i o
  moved_reads (Read y) x i o = absurd o
  moved_reads (Give p y) x i o = absurd o
  moved_reads (Take p t) x i o = moved_mentions t x i.1 o
  moved_reads (Choose y t a b) x i (inl o) = moved_mentions t x i.1 o
  moved_reads (Choose y t a b) x i (inr (inl o)) = moved_mentions a x i.2 o
  moved_reads (Choose y t a b) x i (inr (inr o)) = moved_mentions b x i.3 o
  moved_reads (Tick m) x i o = absurd o
  moved_reads (TickBy t m k) x i o = moved_mentions t x i o

  -- so do they with an assignment of a moved term after them
  code_reads : (ops : List Op) (y : ℕ) (t : Term) (back x : ℕ) → AllByRecursion (OpIn arrays n) ops
      → TermIn arrays n t → ReadsFirst (map (moved_op v) ops ++ Assign y (moved v t) ∷ []) (Goto back) x
      → Within x
  code_reads [] y t back x i j (inl o) = moved_mentions t x j o
  code_reads [] y t back x i j (inr o) = absurd o.1
  code_reads (op ∷ ops) y t back x i j (inl o) = moved_reads op x i.0 o
  code_reads (op ∷ ops) y t back x i j (inr o) = code_reads ops y t back x i.1 j o.1

-- What stands for a call.

-- it reads but the variables of the arguments
site_reads : (arrays v : ℕ) (s : Site) → length s.values ≡ s.params → s.params ≤ s.vars
    → AllByRecursion (OpIn arrays s.vars) s.body.ops → TermIn arrays s.vars s.body.result → (back x : ℕ)
    → ReadsFirst (site_ops v s) (Goto back) x → OneMentions s.values x
site_reads arrays v s as_many low body result back x r =
    let filled : List Term = s.values ++ blanks (s.vars - s.params) in
    let count = blanks_count s.values (s.vars - s.params) in
    elim (assigns_either v filled (map (moved_op v) s.body.ops
    ++ Assign (target (v + s.vars) s.result) (moved v s.body.result) ∷ []) (Goto back) x r) [
      | inl o ↦ blanks_mention s.values (s.vars - s.params) x o
      | inr o ↦
          let w = code_reads arrays v s.vars s.body.ops (target (v + s.vars) s.result) s.body.result back x
          body
          result o.1 in
          absurd (o.0 (assigns_write v filled x w.0 (omega (arith, w.1, count, as_many, low))))
    ]

target_written : (spare : ℕ) (r : Option ℕ) (f : ℕ) (ts : List Term) (back x : ℕ)
    → ExitWrites (Call r f ts back) x → x ≡ target spare r
target_written spare None f ts back x o = absurd o
target_written spare (Some y) f ts back x o = o

-- it writes the variable that takes the result
site_writes : (v : ℕ) (s : Site) (f back x : ℕ) → ExitWrites (Call s.result f s.values back) x
    → WrittenIn (site_ops v s) x
site_writes v s f back x o =
    written_right (assigns v (s.values ++ blanks (s.vars - s.params))) _ x
    (written_right (map (moved_op v) s.body.ops) _ x
    (inl (target_written (v + s.vars) s.result f s.values back x o)))

module _ (plan : Plan) (g : Graph) (rules : IsGraph g) where
  abbrev h : Graph
  h = inlined plan g

  abbrev A : ℕ
  A = length g.arrays

  abbrev V : ℕ → ℕ
  V b = (spot_at g b).vars

  call_reads : (b : ℕ) (s : Site) → IsSite plan g (block_at g b).exit s → (x : ℕ)
      → ReadsFirst (site_ops (V b) s) (Goto s.back) x → ExitReads (block_at g b).exit x
  call_reads b s i x r =
      let j = subst (ExitIn g (spot_at g b).home (V b)) i.call (numbers_at g rules b).exit in
      let e = entry_there g rules i.callee j.1 in
      let same : V (entry_of g i.callee) ≡ s.vars = e.1 ∙ sym i.vars in
      let code = straight_in g rules most_blocks (entry_of g i.callee) s.body e.0 i.code in
      let low = params_at g rules i.callee in
      subst (λ (y : Exit). ExitReads y x) (sym i.call)
      (site_reads A (V b) s (j.2 ∙ sym i.params) (omega (arith, low, i.params, i.vars))
      (subst (λ n. AllByRecursion (OpIn A n) s.body.ops) same code.0)
      (subst (λ n. TermIn A n s.body.result) same code.1) s.back x r)

  read_before : (b x : ℕ) (s : Site) → IsSite plan g (block_at g b).exit s
      → ReadsFirst ((block_at g b).ops ++ site_ops (V b) s) (Goto s.back) x → Live g b x
  read_before b x s i r = elim (reads_either (block_at g b).ops (site_ops (V b) s) (Goto s.back) x r) [
    | inl o ↦ reads b x (o (block_at g b).exit)
    | inr o ↦
        reads b x (first_exit (block_at g b).ops (block_at g b).exit x o.0 (call_reads b s i x o.1))
  ]

  passed_before : (b c x : ℕ) (s : Site) → IsSite plan g (block_at g b).exit s
      → (WrittenIn ((block_at g b).ops ++ site_ops (V b) s) x → ⊥) → Carries (Goto s.back) c → Live g c x
      → Live g b x
  passed_before b c x s i none k l =
      passes b c x (λ o. none (written_left (block_at g b).ops (site_ops (V b) s) x o))
      (λ o. none (written_right (block_at g b).ops (site_ops (V b) s) x
      (site_writes (V b) s i.callee s.back x (subst (λ (y : Exit). ExitWrites y x) i.call o))))
      (subst (λ (y : Exit). Carries y c) (sym i.call) k) l

  abbrev ReadThere : ℕ → ℕ → Block → Type 0
  ReadThere b x y = ReadsFirst y.ops y.exit x → Live g b x

  abbrev PassedThere : ℕ → ℕ → ℕ → Block → Type 0
  PassedThere b c x y =
      (WrittenIn y.ops x → ⊥) → (ExitWrites y.exit x → ⊥) → Carries y.exit c → Live g c x → Live g b x

  -- no more is live
  pub no_more_live : NoMoreLive g h
  no_more_live b x (reads d y r) =
      subst (ReadThere b x) (sym (block_is plan g b))
      (by_call plan g rules (ReadThere b x) b (λ q. reads b x q) (λ s i q. read_before b x s i q)) r
  no_more_live b x (passes d c y none new k l) =
      subst (PassedThere b c x) (sym (block_is plan g b))
      (by_call plan g rules (PassedThere b c x) b (λ o e j m. passes b c x o e j m)
      (λ s i o e j m. passed_before b c x s i o j m)) none new k (no_more_live c x l)
