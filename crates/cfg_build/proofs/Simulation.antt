-- The blocks of steps do what the steps do, turn by turn.
use Rattle.std.proofs.Common.{ℕ, zero, suc, ◌+◌, ◌≡◌, ◌<◌, ◌≤◌, ◌==◌, Bool, List, [], ◌∷◌, ◌++◌, Option}
use Rattle.std.proofs.Common.{if◌then◌else◌, refl, sym, subst, arith}
use Rattle.std.proofs.lemmas.List.{append-nil}
use Rattle.ws_words.specs.Outside.{Outside, ProcState}
use Rattle.src_ast.specs.Turns.{PartEnd, Ended, Out, and_then, turn, CallEnd, Returned, Stopped, back_in}
use Rattle.src_ast.specs.Turns.{ending, loop}
use Rattle.src_ast.specs.Meaning.{Calls}
use Rattle.seq_run.specs.Resolved.{Action, Do, Call, If, While, Steps, Nothing, Then, Proc, done, run_all}
use Rattle.seq_run.specs.Resolved.{finish}
use Rattle.seq_run.specs.InRange.{StepsIn}
use Rattle.seq_run.specs.TurnsLeft.{AtMost}
use Rattle.cfg_core.specs.Graph as graph
use Rattle.cfg_core.specs.Graph.{Term, Exit, Branch, Graph, Spot, proc_at, entry_of}
use Rattle.cfg_core.specs.Walk.{Frame, Config, At, Going, value_of, values_of, run_ops, entered, returned}
use Rattle.cfg_core.specs.Walk.{leave, passed, step, walk}
use Rattle.cfg_build.specs.Lowered.{BlockRest, Made, op, ticked, leaves, goes_to, last_part, begun, whole}
use Rattle.cfg_build.specs.Lowered.{made}
use Rattle.cfg_build.proofs.Values.{action_same, result_same}
use Rattle.cfg_build.proofs.Stand.{HasAt, front, next_at}

module _ (g : Graph) where
  abbrev pub Reaches : Config → Config → Type 0
  Reaches c d = (n : ℕ) × (walk g n c ≡ d)

  reaches_then : (n : ℕ) (c d e : Config) → walk g n c ≡ d → Reaches d e → Reaches c e
  reaches_then zero c d e p r = subst (λ (x : Config). Reaches x e) (sym p) r
  reaches_then (suc n) c d e p r = let t = reaches_then n (step g c) d e p r in (suc t.0, t.1)

  pub reaches_trans : (c d e : Config) → Reaches c d → Reaches d e → Reaches c e
  reaches_trans c d e p r = reaches_then p.0 c d e p.1 r

  -- the walk from what is left of a block
  abbrev pub from_part : BlockRest → ProcState → List Frame → ℕ → Config
  from_part p s fs k = passed g (run_ops p.ops s k) p.exit fs

  -- from c the walk comes to the place q as the outcome says
  abbrev pub Follows : PartEnd → Config → BlockRest → List Frame → Type 0
  Follows (Ended s k) c q fs = Reaches c (from_part q s fs k)
  Follows (Out o) c q fs = Reaches c (Going o)

  abbrev pub FollowsCall : CallEnd → Config → List Frame → Type 0
  FollowsCall (Returned v o k) c fs = Reaches c (returned v o fs k)
  FollowsCall (Stopped o) c fs = Reaches c (Going o)

  -- calls of the first n procedures
  abbrev pub CallsFollow : ℕ → Calls → Type 0
  CallsFollow n calls = (f : ℕ) → f < n → (args : List ℕ) (o : Outside) (k : ℕ) (fs : List Frame) →
      FollowsCall (calls f args o k)
      (At (entry_of g f) (record { vars = entered (proc_at g f) args; out = o }) fs k) fs

  after : (c d : Config) (o : PartEnd) (q : BlockRest) (fs : List Frame) → Reaches c d → Follows o d q fs
      → Follows o c q fs
  after c d (Ended s k) q fs r h = reaches_trans c d _ r h
  after c d (Out o) q fs r h = reaches_trans c d _ r h

  -- at the start of a block whose part is there
  pub at_whole : (home vars b : ℕ) (m : Made) → HasAt g home vars b (whole m)
      → (o : PartEnd) (s : ProcState) (k : ℕ) (q : BlockRest) (fs : List Frame)
      → Follows o (from_part m.front s fs k) q fs → Follows o (At b s fs k) q fs
  at_whole home vars b m at o s k q fs h = after (At b s fs k) (step g (At b s fs k)) o q fs (1, refl) (subst
      (λ (x : Spot). Follows o (passed g (run_ops x.block.ops s k) x.block.exit fs) q fs) (sym at.1) h)

  both : (o : PartEnd) (go : ProcState → ℕ → PartEnd) (c : Config) (b : ℕ) (q : BlockRest) (fs : List Frame)
      → Follows o c (goes_to b) fs → ((s : ProcState) (k : ℕ) → Follows (go s k) (At b s fs k) q fs)
      → Follows (and_then o go) c q fs
  both o go c b q fs h f = grind (arith, after)

  -- an action after its turn, then what is left
  acted : (a : Action) (r q : BlockRest) (next : ProcState → ℕ → PartEnd) (fs : List Frame) (s : ProcState)
      → ((j : ℕ) → Follows (next (done a s) j) (from_part r (done a s) fs j) q fs) → (k : ℕ)
      → Follows (and_then (turn k s (λ j. Ended (done a s) j)) next) (from_part (ticked (op a) r) s fs k) q fs
  acted a r q next fs s f k = grind (arith, action_same)

  -- an exit after its turn
  left : (exit : Exit) (q : BlockRest) (go : ℕ → PartEnd) (next : ProcState → ℕ → PartEnd) (fs : List Frame)
      (s : ProcState) → ((j : ℕ) → Follows (and_then (go j) next) (leave g exit s fs j) q fs) → (k : ℕ)
      → Follows (and_then (turn k s go) next) (from_part (leaves exit) s fs k) q fs
  left exit q go next fs s f k = grind arith

  choice : (v : Bool) (o u : PartEnd) (c d : Config) (q : BlockRest) (fs : List Frame) → Follows o c q fs
      → Follows u d q fs → Follows (if v then o else u) (if v then c else d) q fs
  choice v o u c d q fs h i = grind arith

  choice_then : (v : Bool) (o u : PartEnd) (next : ProcState → ℕ → PartEnd) (c d : Config) (q : BlockRest)
      (fs : List Frame) → Follows (and_then o next) c q fs → Follows (and_then u next) d q fs
      → Follows (and_then (if v then o else u) next) (if v then c else d) q fs
  choice_then v o u next c d q fs h i = grind arith

  -- a test has the value that it has in the run
  branched : (t : Term) (a b : ℕ) (s : ProcState) (k : ℕ) (o : PartEnd) (q : BlockRest) (fs : List Frame)
      → (let v = value_of t s in Follows o (if v.0 == 0 then At b v.1 fs k else At a v.1 fs k) q fs)
      → Follows o (leave g (Branch t a b) s fs k) q fs
  branched t a b s k o q fs h = h

  after_call : (e : CallEnd) (next : ProcState → ℕ → PartEnd) (c : Config) (vars : List ℕ) (x : Option ℕ)
      (back : ℕ) (q : BlockRest) (fs : List Frame)
      → FollowsCall e c (record { result = x; back = back; vars = vars } ∷ fs)
      → ((s : ProcState) (k : ℕ) → Follows (next s k) (At back s fs k) q fs)
      → Follows (and_then (back_in vars x e) next) c q fs
  after_call e next c vars x back q fs h f = grind (arith, after, result_same)

  -- a call, from its exit on
  called : (n : ℕ) (calls : Calls) → CallsFollow n calls → (x : Option ℕ) (f : ℕ) → f < n
      → (ts : List Term) (back : ℕ) (next : ProcState → ℕ → PartEnd) (q : BlockRest) (fs : List Frame)
      → ((s : ProcState) (k : ℕ) → Follows (next s k) (At back s fs k) q fs) → (s : ProcState) (j : ℕ) →
      let vs = values_of ts s in Follows (and_then (back_in vs.1.vars x (calls f vs.0 vs.1.out j)) next)
      (leave g (graph.Call x f ts back) s fs j) q fs
  called n calls cf x f lt ts back next q fs go s j =
      let vs = values_of ts s in
      after_call (calls f vs.0 vs.1.out j) next _ vs.1.vars x back q fs
      (cf f lt vs.0 vs.1.out j (record { result = x; back = back; vars = vs.1.vars } ∷ fs)) go

  -- what follows a body of a loop
  again : (o : PartEnd) (j : ℕ) (next : ProcState → ℕ → PartEnd) (c : Config) (head : ℕ) (q : BlockRest)
      (fs : List Frame) → AtMost j o → Follows o c (goes_to head) fs
      → ((u : ProcState) (i : ℕ) → i ≤ j → Follows (next u i) (At head u fs i) q fs)
      → Follows (and_then o next) c q fs
  again o j next c head q fs le h f = grind (arith, after)

  -- a loop, entered at its header
  looped : (t : Term) (body : ProcState → ℕ → PartEnd) (head inside next : ℕ) (fs : List Frame)
      → ((o : PartEnd) (s : ProcState) (k : ℕ) → Follows o (from_part (leaves (Branch t inside next)) s fs k)
      (goes_to next) fs → Follows o (At head s fs k) (goes_to next) fs)
      → ((s : ProcState) (k : ℕ) → AtMost k (body s k))
      → ((s : ProcState) (k : ℕ) → Follows (body s k) (At inside s fs k) (goes_to head) fs)
      → (fuel : ℕ) (s : ProcState) (k : ℕ) → k < fuel → Follows (loop fuel (value_of t) body s k)
      (At head s fs k) (goes_to next) fs
  looped t body head inside next fs e most f zero s k lt = absurd (omega arith)
  looped t body head inside next fs e most f (suc fuel) s zero lt = e (Out s.out) s 0 (0, refl)
  looped t body head inside next fs e most f (suc fuel) s (suc j) lt =
      let v = value_of t s in
      e (loop (suc fuel) (value_of t) body s (suc j)) s (suc j)
      (branched t inside next s j _ (goes_to next) fs
      (choice (v.0 == 0) (Ended v.1 j) (and_then (body v.1 j) (loop fuel (value_of t) body))
      (At next v.1 fs j) (At inside v.1 fs j) (goes_to next) fs
      (0, refl)
      (again (body v.1 j) j (loop fuel (value_of t) body) (At inside v.1 fs j) head (goes_to next) fs
      (most v.1 j) (f v.1 j)
      (λ u i le. looped t body head inside next fs e most f fuel u i (omega arith)))))

  module _ (arrays : ℕ) (procs : List Proc) (home vars : ℕ) (calls : Calls) (cf : CallsFollow home calls)
      (most : (st : Steps) (s : ProcState) (k : ℕ) → AtMost k (run_all calls st s k)) where
    -- steps from the block that begins with them, where they are followed from what is left of it
    from_block : (st : Steps) (b : ℕ) (rest : BlockRest) → HasAt g home vars b (whole (made st b rest))
        → ((s : ProcState) (k : ℕ) (fs : List Frame) → Follows (run_all calls st s k)
        (from_part (made st b rest).front s fs k) rest fs)
        → (s : ProcState) (k : ℕ) (fs : List Frame) → Follows (run_all calls st s k) (At b s fs k) rest fs
    from_block st b rest at f s k fs = grind (arith, at_whole)

    -- steps that begin with the front of what is made of them
    pub follow : (st : Steps) (c : ℕ) (rest : BlockRest) → StepsIn arrays procs home vars st
        → HasAt g home vars (suc c) (made st c rest).blocks
        → (s : ProcState) (k : ℕ) (fs : List Frame) → Follows (run_all calls st s k)
        (from_part (made st c rest).front s fs k) rest fs
    follow Nothing c rest fit at s k fs = (0, refl)
    follow (Then (Do a) more) c rest fit at s k fs = acted a (made more c rest).front rest
        (run_all calls more) fs s (λ j. follow more c rest fit.1 at (done a s) j fs) k
    follow (Then (Call x f ts) more) c rest fit at s k fs = left (graph.Call x f ts (suc c)) rest _ (run_all
        calls more) fs s (called home calls cf x f fit.0.1 ts (suc c) (run_all calls more) rest fs (λ u i.
        from_block more (suc c) rest at (follow more (suc c) rest fit.1 at.2) u i fs) s) k
    follow (Then (If t a b) more) c rest fit at s k fs =
        let second = suc (suc c + begun a) in let join = suc (second + begun b) in
        let wa = whole (made a (suc c) (goes_to join)) in let wb = whole (made b second (goes_to join)) in
        let wm = whole (made more join rest) in
        let ha : HasAt g home vars (suc c) wa = front g home vars (suc c) wa (wb ++ wm) at in
        let hbm : HasAt g home vars second (wb ++ wm) = next_at g home vars a (suc c) (goes_to join)
        (wb ++ wm) at in
        let hb : HasAt g home vars second wb = front g home vars second wb wm hbm in
        let hm : HasAt g home vars join wm = next_at g home vars b second (goes_to join) wm hbm in
        let v = value_of t s in
        let go : (u : ProcState) (i : ℕ) → Follows (run_all calls more u i) (At join u fs i) rest fs =
        λ u i. from_block more join rest hm (follow more join rest fit.1 hm.2) u i fs in
        left (Branch t (suc c) second) rest _ (run_all calls more) fs s
        (λ j. branched t (suc c) second s j _ rest fs
        (choice_then (v.0 == 0) (run_all calls b v.1 j) (run_all calls a v.1 j) (run_all calls more)
        (At second v.1 fs j) (At (suc c) v.1 fs j) rest fs
        (both (run_all calls b v.1 j) (run_all calls more) (At second v.1 fs j) join rest fs
        (from_block b second (goes_to join) hb (follow b second (goes_to join) fit.0.2 hb.2) v.1 j fs) go)
        (both (run_all calls a v.1 j) (run_all calls more) (At (suc c) v.1 fs j) join rest fs
        (from_block a (suc c) (goes_to join) ha (follow a (suc c) (goes_to join) fit.0.1 ha.2) v.1 j fs)
        go))) k
    follow (Then (While t body) more) c rest fit at s k fs =
        let inside = suc (suc c) in let next = suc (inside + begun body) in
        let wb = whole (made body inside (goes_to (suc c))) in let wm = whole (made more next rest) in
        let hb : HasAt g home vars inside wb = front g home vars inside wb wm at.2 in
        let hm : HasAt g home vars next wm = next_at g home vars body inside (goes_to (suc c)) wm at.2 in
        both (loop (suc k) (value_of t) (run_all calls body) s k) (run_all calls more) (At (suc c) s fs k)
        next rest fs
        (looped t (run_all calls body) (suc c) inside next fs
        (λ o u i. at_whole home vars (suc c) (record { front = leaves (Branch t inside next); blocks = [] })
        (at.0, at.1, tt) o u i (goes_to next) fs)
        (most body)
        (λ u i. from_block body inside (goes_to (suc c)) hb
        (follow body inside (goes_to (suc c)) fit.0.1 hb.2) u i fs)
        (suc k) s k (omega arith))
        (λ u i. from_block more next rest hm (follow more next rest fit.1 hm.2) u i fs)

  -- the result of a procedure
  pub finished : (o : PartEnd) (r : Option Term) (c : Config) (fs : List Frame) → Follows o c (last_part r) fs
      → FollowsCall (ending o (finish r)) c fs
  finished o r c fs h = grind (arith, left, append-nil)
