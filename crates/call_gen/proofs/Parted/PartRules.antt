-- A closed part of a graph keeps the six rules, and the order of blocks and edges.
use Rattle.std.proofs.Common.{ℕ, ◌≡◌, ◌<◌, ◌≤◌, Bool, true, List, [], ◌∷◌, length, refl, sym, ap, ◌∙◌, subst}
use Rattle.std.proofs.Common.{inl, inr, Option, arith}
use Rattle.std.specs.List.{AllByRecursion}
use Rattle.std.proofs.lemmas.Bool.{cases_lt}
use Rattle.cfg_core.specs.Graph.{Term, Number, Var, Cell, Flip, Not, Neg, Binary, Op, Exit, Goto, Branch}
use Rattle.cfg_core.specs.Graph.{Call, Return, GraphProc, Graph, Spot, spots, no_spot, spot_at, block_at}
use Rattle.cfg_core.specs.Graph.{entry_of}
use Rattle.cfg_core.specs.Rules.{TermIn, OpIn, StaysIn, ExitIn, Leads, BlockNumbers, Lands, CallsEarlier}
use Rattle.cfg_core.specs.Rules.{calls, has_tick, has_turn, ChoosesBare, Quiet, one, more, IsGraph}
use Rattle.cfg_core.specs.Edges.{Edge, IsHeader}
use Rattle.cfg_core.specs.Shape.{is_branch, TestsInATurn, OnlyFrom, BranchesApart, IsShaped, ArmsAlone}
use Rattle.call_gen.specs.Keeps.{NoSend, HasNoSend}
use Rattle.call_gen.specs.Part.{before, keeps, number, name, part}
use Rattle.call_gen.proofs.Parted.PartPlaces.{before_less, before_apart, before_order, part_spot, part_from}
use Rattle.call_gen.proofs.Parted.PartPlaces.{procs_numbered}
use Rattle.call_gen.proofs.Parted.PartWalk.{Closed, spot_from, exit_in, earlier_at}
use Rattle.call_gen.proofs.Parted.PartWalk as walks
use Rattle.cfg_core.proofs.Spots.{past, each_at, numbers_at}
use Rattle.ws_words.proofs.Places.{nth_short, all_of}

-- what names something names it where there are as many arrays
module _ (g h : Graph) (same : g.arrays ≡ h.arrays) where
  term_in : (v : ℕ) (t : Term) → TermIn (length g.arrays) v t → TermIn (length h.arrays) v t
  term_in v (Number n) i = tt
  term_in v (Var x) i = i
  term_in v (Cell a t) i = ((i.0.0, omega (arith, i.0.1, ap length same)), term_in v t i.1)
  term_in v (Flip t) i = term_in v t i
  term_in v (Not t) i = term_in v t i
  term_in v (Neg t) i = term_in v t i
  term_in v (Binary op a b) i = (term_in v a i.0, term_in v b i.1)

  op_in : (v : ℕ) (op : Op) → OpIn (length g.arrays) v op → OpIn (length h.arrays) v op
  op_in v op i = grind (arith, term_in)

  all_terms_in : (v : ℕ) (ts : List Term) → AllByRecursion (TermIn (length g.arrays) v) ts
      → AllByRecursion (TermIn (length h.arrays) v) ts
  all_terms_in v [] i = tt
  all_terms_in v (t ∷ ts) i = (term_in v t i.0, all_terms_in v ts i.1)

  all_ops_in : (v : ℕ) (ops : List Op) → AllByRecursion (OpIn (length g.arrays) v) ops
      → AllByRecursion (OpIn (length h.arrays) v) ops
  all_ops_in v [] i = tt
  all_ops_in v (op ∷ ops) i = (op_in v op i.0, all_ops_in v ops i.1)

pub none_past : (h : Graph) (k : ℕ) → length (spots h) ≤ k → spot_at h k ≡ no_spot
unfolding spot_at
none_past h k le = past (spots h) k le

module _ (g : Graph) (keep : ℕ → Bool) (rules : IsGraph g) (C : Closed g keep) (no_send : HasNoSend g) where
  abbrev h : Graph
  h = part g keep

  abbrev place : ℕ → ℕ
  place = before keep

  abbrev named : Exit → Exit
  named = name g keep

  abbrev moved : Spot → Spot
  moved s = part_spot keep named (number g keep) s

  same_arrays : g.arrays ≡ h.arrays
  unfolding part
  same_arrays = refl

  -- a block of the part is one that is kept
  pub record Kept (k : ℕ) : Type 0 where
    pub block : ℕ
    pub kept : keep block ≡ true
    pub place : k ≡ before keep block

  pub kept_at : (k : ℕ) → k < length (spots h) → Kept k
  kept_at k lt =
      let f = part_from keep named (number g keep) 0 (spots g) k (grind (arith, walks.spots_are)) in
      grind arith

  block_is : (b : ℕ) → keep b ≡ true → spot_at h (place b) ≡ moved (spot_at g b)
  block_is = walks.block_is g keep rules C

  -- so what holds of each that is kept holds of all
  pub every : (P : Spot → Type 0) → ((b : ℕ) → keep b ≡ true → P (moved (spot_at g b)))
      → AllByRecursion P (spots h)
  every P each = all_of P (spots h) (λ k s e. let f = kept_at k (nth_short (spots h) k s e) in let same :
      moved (spot_at g f.block) ≡ s = sym (block_is f.block f.kept) ∙ ap (spot_at h) (sym f.place) ∙ spot_from
      h k s e in grind arith)

  edge_kept : (b : ℕ) (x : Exit) (c : ℕ) → keep b ≡ true → (block_at g b).exit ≡ x → Leads x c → keep c ≡ true
  edge_kept b x c k e l = C.edge b c k (rw e l)

  callee_kept : (b : ℕ) (r : Option ℕ) (f : ℕ) (ts : List Term) (back : ℕ) → keep b ≡ true
      → (block_at g b).exit ≡ Call r f ts back → keep (entry_of g f) ≡ true
  callee_kept b r f ts back k e = C.call b (entry_of g f) k (grind arith)

  number_less : (e f : ℕ) → keeps g keep e ≡ true → e < f → number g keep e < number g keep f
  number_less e f k lt = before_less (keeps g keep) e f k lt

  stays : (home c : ℕ) → keep c ≡ true → StaysIn g home c → StaysIn h (number g keep home) (place c)
  stays home c k i = grind (arith, walks.block_there, block_is)

  exit_numbers : (b : ℕ) → keep b ≡ true → (x : Exit) → (block_at g b).exit ≡ x
      → ExitIn h (number g keep (spot_at g b).home) (spot_at g b).vars (named x)
  exit_numbers b k (Goto c) e = stays (spot_at g b).home c (edge_kept b (Goto c) c k e refl)
      (exit_in g rules b (Goto c) e)
  exit_numbers b k (Branch t c d) e =
      let i = exit_in g rules b (Branch t c d) e in (
        term_in g h same_arrays (spot_at g b).vars t i.0,
        stays (spot_at g b).home c (edge_kept b (Branch t c d) c k e (inl refl)) i.1,
        stays (spot_at g b).home d (edge_kept b (Branch t c d) d k e (inr refl)) i.2,
      )
  exit_numbers b k (Call r f ts back) e =
      let i = exit_in g rules b (Call r f ts back) e in
      let entry = callee_kept b r f ts back k e in (
        i.0,
        omega (arith, number_less f (length g.procs) entry i.1, walks.procs_are g keep rules C),
        i.2 ∙ sym (ap (λ (p : GraphProc). p.params) (walks.proc_is g keep rules C f i.1 entry)),
        all_terms_in g h same_arrays (spot_at g b).vars ts i.3,
        stays (spot_at g b).home back (edge_kept b (Call r f ts back) back k e refl) i.4,
      )
  exit_numbers b k (Return t) e = term_in g h same_arrays (spot_at g b).vars t
      (exit_in g rules b (Return t) e)
  exit_numbers b k x e = tt

  numbers : (b : ℕ) → keep b ≡ true → BlockNumbers h (moved (spot_at g b))
  numbers b k =
      let n = numbers_at g rules b in
      record {
        ops = all_ops_in g h same_arrays (spot_at g b).vars (block_at g b).ops n.ops;
        exit = exit_numbers b k (block_at g b).exit refl;
        named = n.named;
        once = n.once;
      }

  lands : (x : Exit) → Lands h (named x)
  lands x = grind arith

  earlier : (b : ℕ) → keep b ≡ true → (x : Exit) → (block_at g b).exit ≡ x
      → CallsEarlier (number g keep (spot_at g b).home) (named x)
  earlier b k (Call r f ts back) e = number_less f (spot_at g b).home (callee_kept b r f ts back k e)
      (subst (λ (y : Exit). CallsEarlier (spot_at g b).home y) e (earlier_at g rules b))
  earlier b k x e = tt

  calls_same : (x : Exit) → calls (named x) ≡ calls x
  calls_same x = grind arith

  ticks_at : (b : ℕ) → calls (block_at g b).exit ≡ true → has_tick (block_at g b).ops ≡ true
  unfolding spot_at no_spot
  ticks_at b = grind (arith, each_at)

  bare_at : (b : ℕ) → AllByRecursion ChoosesBare (block_at g b).ops
  unfolding spot_at no_spot
  bare_at b = each_at (λ (s : Spot). AllByRecursion ChoosesBare s.block.ops) (spots g) no_spot rules.bare tt b

  -- Edges.

  leads_named : (x : Exit) (d : ℕ) → Leads (named x) d → (c : ℕ) × (d ≡ place c) × Leads x c
  leads_named x d l = grind arith

  -- an edge of the part is one of the graph
  pub record Came (k d : ℕ) : Type 0 where
    pub from : ℕ
    pub to : ℕ
    pub kept_from : keep from ≡ true
    pub kept_to : keep to ≡ true
    pub place_from : k ≡ before keep from
    pub place_to : d ≡ before keep to
    pub edge : Edge g from to

  no_edge : (d : ℕ) → Leads no_spot.block.exit d → ⊥
  unfolding no_spot
  no_edge d l = l

  pub came : (k d : ℕ) → Edge h k d → Came k d
  came k d l = elim (cases_lt k (length (spots h))) [
    | inr ge ↦ grind (arith, no_edge, none_past)
    | inl lt ↦
        let f = kept_at k lt in
        let is : spot_at h k ≡ moved (spot_at g f.block) = ap (spot_at h) f.place ∙ block_is f.block f.kept in
        let r = leads_named (block_at g f.block).exit d (grind arith) in
        grind arith
  ]

  same_place : (b c : ℕ) → keep b ≡ true → keep c ≡ true → place b ≡ place c → b ≡ c
  same_place b c kb kc e = before_apart keep b c kb kc e

  same_ops : (k b : ℕ) → keep b ≡ true → k ≡ place b → (block_at h k).ops ≡ (block_at g b).ops
  same_ops k b kb e = ap (λ n. (block_at h n).ops) e ∙ ap (λ (s : Spot). s.block.ops) (block_is b kb)

  -- a quiet path of the part is one of the graph
  pub record Led (k d : ℕ) : Type 0 where
    pub from : ℕ
    pub to : ℕ
    pub kept_from : keep from ≡ true
    pub kept_to : keep to ≡ true
    pub place_from : k ≡ before keep from
    pub place_to : d ≡ before keep to
    pub path : Quiet g from to

  led : (k d : ℕ) → Quiet h k d → Led k d
  led k d (one _ _ q l) =
      let r = came k d l in
      record {
        from = r.from;
        to = r.to;
        kept_from = r.kept_from;
        kept_to = r.kept_to;
        place_from = r.place_from;
        place_to = r.place_to;
        path = one r.from r.to (ap has_turn (sym (same_ops k r.from r.kept_from r.place_from)) ∙ q) r.edge;
      }
  led k d (more _ c _ path q l) =
      let p = led k c path in
      let r = came c d l in
      let same : r.from ≡ p.to = grind (arith, same_place) in
      record {
        from = p.from;
        to = r.to;
        kept_from = p.kept_from;
        kept_to = r.kept_to;
        place_from = p.place_from;
        place_to = r.place_to;
        path = more p.from p.to r.to p.path (grind (arith, same_ops)) (subst (λ n. Edge g n r.to) same
            r.edge);
      }

  no_cycle : (k : ℕ) → Quiet h k k → ⊥
  no_cycle k path = grind (arith, led k k path, same_place)

  some_proc : 1 ≤ length h.procs
  some_proc = grind (arith, walks.procs_are g keep rules C, number_less, walks.main_there g keep rules C)

  pub is_graph : IsGraph h
  unfolding part
  is_graph = record {
    numbers = record {
      some_proc = some_proc;
      procs = procs_numbered keep named (keeps g keep) 0 0 g.procs rules.numbers.procs;
      blocks = every (BlockNumbers h) numbers;
    };
    landings = every (λ s. Lands h s.block.exit) (λ b k. lands (block_at g b).exit);
    earlier = every (λ s. CallsEarlier s.home s.block.exit) (λ b k. earlier b k (block_at g b).exit refl);
    call_ticks = every (λ s. calls s.block.exit ≡ true → has_tick s.block.ops ≡ true)
        (λ b k e. ticks_at b (sym (calls_same (block_at g b).exit) ∙ e));
    cycles = no_cycle;
    bare = every (λ s. AllByRecursion ChoosesBare s.block.ops) (λ b k. bare_at b);
  }

  no_send_named : (x : Exit) → NoSend (named x)
  no_send_named x = grind arith

  pub sends_nothing : HasNoSend h
  unfolding spot_at no_spot
  sends_nothing k = each_at (λ (s : Spot). NoSend s.block.exit) (spots h) no_spot
      (every (λ s. NoSend s.block.exit) (λ b kb. no_send_named (block_at g b).exit)) tt k

  -- The order of blocks and edges.

  branch_same : (x : Exit) → is_branch (named x) ≡ is_branch x
  branch_same x = grind arith

  -- a branch of the part is one of the graph
  named_branch : (x : Exit) (t : Term) (b c : ℕ) → named x ≡ Branch t b c
      → (d : ℕ) × (e : ℕ) × (x ≡ Branch t d e) × (b ≡ place d) × (c ≡ place e)
  named_branch x t b c h = grind arith

  only_from : (a b d : ℕ) → keep a ≡ true → keep d ≡ true → b ≡ place d → OnlyFrom g a d
      → OnlyFrom h (place a) b
  only_from a b d ka kd e only other l = let r = came other b l in grind (arith, same_place)

  -- a branch of the part at the places of one of the graph
  pub record Parted (a : ℕ) (t : Term) (b c : ℕ) : Type 0 where
    pub from : ℕ
    pub first : ℕ
    pub second : ℕ
    pub exit : (block_at g from).exit ≡ Branch t first second
    pub kept : keep from ≡ true
    pub kept_first : keep first ≡ true
    pub kept_second : keep second ≡ true
    pub is : a ≡ place from
    pub is_first : b ≡ place first
    pub is_second : c ≡ place second

  parted : (a : ℕ) (t : Term) (b c : ℕ) → (block_at h a).exit ≡ Branch t b c → Parted a t b c
  parted a t b c e =
      let r = came a b (grind arith) in
      let is : spot_at h a ≡ moved (spot_at g r.from) = grind (arith, block_is) in
      let f = named_branch (block_at g r.from).exit t b c (grind arith) in
      record {
        from = r.from;
        first = f.0;
        second = f.1;
        exit = f.2;
        kept = r.kept_from;
        kept_first = edge_kept r.from (Branch t f.0 f.1) f.0 r.kept_from f.2 (inl refl);
        kept_second = edge_kept r.from (Branch t f.0 f.1) f.1 r.kept_from f.2 (inr refl);
        is = r.place_from;
        is_first = f.3;
        is_second = f.4;
      }

  apart_still : (a : ℕ) (t : Term) (b c : ℕ) (p : Parted a t b c) → BranchesApart g p.from p.first p.second
      → BranchesApart h a b c
  apart_still a t b c p apart = grind (arith, same_place, h, only_from)

  -- branches still lead forward, each to blocks of its own
  pub arms_alone : ArmsAlone g → ArmsAlone h
  arms_alone alone = record {
    apart = λ a t b c e. let p = parted a t b c e in
        apart_still a t b c p (alone.apart p.from t p.first p.second p.exit);
    ahead = λ a t b c e.
        let p = parted a t b c e in
        let up = alone.ahead p.from t p.first p.second p.exit in grind (arith, before_less);
  }

  module _ (shape : IsShaped g) where
    headers : (c : ℕ) → IsHeader h c → TestsInATurn h c
    headers c (b, le, l) =
        let r = came b c l in
        let up : r.to ≤ r.from = grind (arith, before_order) in
        let t = shape.headers r.to (r.from, up, r.edge) in
        grind (arith, block_is, branch_same)

    backward : (b c : ℕ) → Edge h b c → c ≤ b → (block_at h b).exit ≡ Goto c
    backward b c l le = let r = came b c l in grind (arith, before_order, block_is)

    branches : (a : ℕ) (t : Term) (b c : ℕ) → (block_at h a).exit ≡ Branch t b c → BranchesApart h a b c
    branches a t b c e = let p = parted a t b c e in
        apart_still a t b c p (shape.branches p.from t p.first p.second p.exit)

    pub is_shaped : IsShaped h
    is_shaped = record { headers = headers; backward = backward; branches = branches }
