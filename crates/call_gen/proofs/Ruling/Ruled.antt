-- The spelled graph keeps the rules of graphs; it has no call, and what is live where a Send lands is what
-- the Send brings.
use Rattle.std.proofs.Common.{ℕ, suc, ◌+◌, ◌≡◌, ◌<◌, ◌≤◌, min, Bool, true, false, if◌then◌else◌, List, []}
use Rattle.std.proofs.Common.{◌∷◌, ◌++◌, length, map, refl, sym, ap, ◌∙◌, subst, inl, inr, Option, arith}
use Rattle.std.specs.List.{AllByRecursion, filter}
use Rattle.std.proofs.lemmas.Bool.{cases_lt}
use Rattle.std.proofs.lemmas.List.{length-append, length-replicate, length_push}
use Rattle.cfg_core.specs.Graph.{Term, Number, Var, Cell, Flip, Not, Neg, Binary, Op, Exit, Goto, Branch}
use Rattle.cfg_core.specs.Graph.{Call, Return, Send, GraphProc, Graph, Spot, spots, no_spot, no_proc, spot_at}
use Rattle.cfg_core.specs.Graph.{block_at, proc_at, entry_of}
use Rattle.cfg_core.specs.Rules.{IsArray, TermIn, OpIn, StaysIn, TargetIn, ExitIn, BlockNumbers, ProcNumbers}
use Rattle.cfg_core.specs.Rules.{Lands, CallsEarlier, calls, has_tick, ChoosesBare, IsGraph}
use Rattle.call_gen.specs.Spelled.{is_called, moved, door, landings, address, cell, array_of, cells_in_all}
use Rattle.call_gen.specs.Spelled.{hidden_arrays, below, saved, save, load, saves, left, clear, is_unset}
use Rattle.call_gen.specs.Spelled.{spelled_procs, spelled}
use Rattle.call_gen.specs.Keeps.{NoCall, HasNoCall}
use Rattle.call_gen.proofs.Spelled.Facts.{Given, Placed, Celled}
use Rattle.call_gen.proofs.Spelled.Slots.{below_all, below_apart, apart_push, below_count}
use Rattle.call_gen.proofs.Along.Standing.{exit_in}
use Rattle.call_gen.proofs.Along.Leaves.{kept_low}
use Rattle.call_gen.proofs.Along.Calling.{unset_low}
use Rattle.call_gen.proofs.Spelled.Places.{all_placed, all_celled}
use Rattle.call_gen.proofs.Ruling.Cycles.{Sort, is_door, is_plain, is_point, is_none, every_spot, lands_at}
use Rattle.call_gen.proofs.Ruling.Cycles.{no_cycle}
use Rattle.ws_words.proofs.Lists.{all_append as all_both, all_have}
use Rattle.cfg_core.proofs.Spots.{all_from as all_in, past, each_at, numbers_at}
use Rattle.ws_words.specs.Items.{nth, or_else, In, Distinct}

map_all : {A B : Type 0} (P : B → Type 0) (f : A → B) (xs : List A) → ((x : A) → P (f x))
    → AllByRecursion P (map f xs)
map_all P f [] h = tt
map_all P f (x ∷ xs) h = (h x, map_all P f xs h)

map_in : (P : Op → Type 0) (f : ℕ → Op) (xs : List ℕ) → ((x : ℕ) → In x xs → P (f x))
    → AllByRecursion P (map f xs)
map_in P f [] h = tt
map_in P f (x ∷ xs) h = (h x (inl refl), map_in P f xs (λ y i. h y (inr i)))

-- a block with a variable is there
spot_there : (h : Graph) (k : ℕ) → 1 ≤ (spot_at h k).vars → k < length (spots h)
unfolding spot_at no_spot
spot_there h k le = grind (arith, cases_lt, past)

module _ (g : Graph) (live : List (List ℕ)) (G : Given g live) where
  abbrev pub F : Placed g live
  F = all_placed g live G.rules

  C : Celled g
  C = all_celled g live G.rules

  abbrev h : Graph
  h = spelled g live

  pub arrays_more : length h.arrays ≡ length g.arrays + min 192 (cells_in_all g)
  unfolding hidden_arrays
  arrays_more = grind (arith, length-append, length-replicate)

  -- numbers that name something still do
  term_in : (v : ℕ) (t : Term) → TermIn (length g.arrays) v t → TermIn (length h.arrays) (suc v) t
  term_in v (Number n) i = tt
  term_in v (Var x) i = omega arith
  term_in v (Cell a t) i = ((i.0.0, omega (arith, i.0.1, arrays_more)), term_in v t i.1)
  term_in v (Flip t) i = term_in v t i
  term_in v (Not t) i = term_in v t i
  term_in v (Neg t) i = term_in v t i
  term_in v (Binary op a b) i = (term_in v a i.0, term_in v b i.1)

  op_in : (v : ℕ) (op : Op) → OpIn (length g.arrays) v op → OpIn (length h.arrays) (suc v) op
  op_in v op i = grind (arith, term_in, arrays_more)

  cell_there : (k : ℕ) → k < cells_in_all g → IsArray (length h.arrays) (array_of g k)
  cell_there k lt = (omega arith, omega (arith, arrays_more, lt))

  -- places of blocks
  there_moved : (c : ℕ) → c < length (spots g) → StaysIn h (spot_at g c).home (moved g c)
  there_moved c lt = (
    spot_there h (moved g c) (omega (arith, ap (λ (s : Spot). s.vars) (F.plain c lt))),
    ap (λ (s : Spot). s.home) (F.plain c lt),
  )

  stays : (home c : ℕ) → StaysIn g home c → StaysIn h home (moved g c)
  stays home c i = let t = there_moved c i.0 in (t.0, t.1 ∙ i.1)

  there_door : (f : ℕ) → f < length g.procs → door g f < length (spots h)
  there_door f lt = spot_there h (door g f) (omega (arith, ap (λ (s : Spot). s.vars) (F.entry f lt)))

  there_landing : (f d : ℕ) → In d (landings g f) → d < length (spots h)
  there_landing f d i =
      let l = lands_at g live G F f d i in
      subst (λ m. m < length (spots h)) (sym l.place)
      (spot_there h (suc (moved g l.block))
      (omega (arith, ap (λ (s : Spot). s.vars) (F.point l.block l.result f l.terms l.back l.there l.exit))))

  few_params : (f : ℕ) → f < length g.procs → (proc_at g f).params ≤ (proc_at g f).vars
  unfolding proc_at
  few_params f lt = each g.procs f G.rules.numbers.procs lt
    where
      each : (ps : List GraphProc) (f : ℕ) → AllByRecursion ProcNumbers ps → f < length ps
          → (or_else (nth ps f) no_proc).params ≤ (or_else (nth ps f) no_proc).vars
      each (p ∷ ps) (suc f) h lt = each ps f h.1 (omega arith)
      each ps f h lt = grind arith

  module _ (b : ℕ) (there : b < length (spots g)) where
    abbrev home : ℕ
    home = (spot_at g b).home

    abbrev v : ℕ
    v = (spot_at g b).vars

    cell_in : (r : Option ℕ) (f : ℕ) (ts : List Term) (back x : ℕ) → (block_at g b).exit ≡ Call r f ts back
        → In x (saved g live home v r back) → (x ≤ v) × IsArray (length h.arrays) (array_of g (cell g home x))
    cell_in r f ts back x e i =
        let le = kept_low g live G F C b there r back x i in (
          le,
          cell_there (cell g home x) (C.there home x (F.home b there).0 (F.called b r f ts back there e).1
              (omega (arith, le, (F.home b there).1))),
        )

    saves_in : (x : Exit) → (block_at g b).exit ≡ x → AllByRecursion (OpIn (length h.arrays) (suc v))
        (saves g live home v x)
    saves_in (Call r f ts back) e = map_in (OpIn (length h.arrays) (suc v)) (save g home)
        (saved g live home v r back) (λ x i. let c = cell_in r f ts back x e i in
        (c.1, tt, omega arith))
    saves_in x e = tt

    left_in : (x : Exit) → (block_at g b).exit ≡ x → ExitIn h home (suc v) (left g home v b x)
    left_in (Goto c) e = stays home c (exit_in g live G F b (Goto c) e)
    left_in (Branch t c d) e = let i = exit_in g live G F b (Branch t c d) e in
        (term_in v t i.0, stays home c i.1, stays home d i.2)
    left_in (Call r f ts back) e =
        let i = exit_in g live G F b (Call r f ts back) e in (
          tt,
          all_both (TermIn (length h.arrays) (suc v)) ts (Number (address g f b) ∷ []) (all_have (TermIn
              (length g.arrays) v) (TermIn (length h.arrays) (suc v)) ts (term_in v) i.3) (tt, tt),
          (there_door f i.1, tt),
        )
    left_in (Return t) e = by_called (is_called g home)
      where
        by_called : (c : Bool) → ExitIn h home (suc v) (if c then Send (Var v) (t ∷ []) (landings g home)
            else Return t)
        by_called true = (
          omega arith,
          (term_in v t (exit_in g live G F b (Return t) e), tt),
          all_in (λ l. l < length (spots h)) (landings g home) (there_landing home),
        )
        by_called false = term_in v t (exit_in g live G F b (Return t) e)
    left_in x e = tt

    place_low : (r : Option ℕ) → TargetIn v r → or_else r v < suc v
    place_low r i = grind arith

  numbers : (s : Spot) → Sort g live G F s → BlockNumbers h s
  unfolding no_spot
  numbers _ (is_door f lt) = record {
    ops = map_in (OpIn (length h.arrays) (suc (proc_at g f).vars)) clear
        (filter (is_unset g live f (proc_at g f).params) (below (proc_at g f).vars))
        (λ x i. (let l = unset_low g live G F f lt x i in omega arith, tt));
    exit = stays f (entry_of g f) ((F.first f lt).0, (F.first f lt).1);
    named = by_called (is_called g f);
    once = once (is_called g f);
  }
    where
      by_called : (c : Bool) → AllByRecursion (λ x. x < suc (proc_at g f).vars)
          (if c then below (proc_at g f).params ++ (proc_at g f).vars ∷ [] else [])
      by_called c = grind (arith, all_both, all_in, below_all, few_params)

      once : (c : Bool) → Distinct (if c then below (proc_at g f).params ++ (proc_at g f).vars ∷ [] else [])
      once c = grind (arith, apart_push, below_apart, below_all, few_params)
  numbers _ (is_plain b lt) = record {
    ops = all_both (OpIn (length h.arrays) (suc (spot_at g b).vars)) (block_at g b).ops (saves g live (spot_at
        g b).home (spot_at g b).vars (block_at g b).exit) (grind (arith, all_have, op_in, numbers_at))
        (grind (arith, saves_in));
    exit = grind (arith, left_in);
    named = tt;
    once = tt;
  }
  numbers _ (is_point b r f ts back lt e) = record {
    ops = map_in (OpIn (length h.arrays) (suc (spot_at g b).vars)) (load g (spot_at g b).home)
        (saved g live (spot_at g b).home (spot_at g b).vars r back)
        (λ x i. let c = cell_in b lt r f ts back x e i in (omega arith, (c.1, tt)));
    exit = stays (spot_at g b).home back (exit_in g live G F b (Call r f ts back) e).4;
    named = (place_low b lt r (exit_in g live G F b (Call r f ts back) e).0, tt);
    once = (λ z. z, tt);
  }
  numbers _ is_none = record { ops = tt; exit = tt; named = tt; once = tt }

  -- landings
  some_landing : (f : ℕ) → is_called g f ≡ true → 1 ≤ length (landings g f)
  unfolding is_called landings
  some_landing f c =
      let r = Rattle.call_gen.proofs.Spelled.Placing.in_some (λ s. Rattle.call_gen.specs.Spelled.callee_is
      s.block.exit f) (spots g) c in
      let l = Rattle.call_gen.proofs.Spelled.Placing.landing_in f 0 0 (spots g) r.0 r.1 r.2 r.3 in
      omega arith

  lands_door : (b : ℕ) (r : Option ℕ) (f : ℕ) (ts : List Term) (back : ℕ) → b < length (spots g)
      → (block_at g b).exit ≡ Call r f ts back → length (block_at h (door g f)).named
      ≡ length (ts ++ Number (address g f b) ∷ [])
  lands_door b r f ts back lt e = let i = exit_in g live G F b (Call r f ts back) e in
      ap (λ (s : Spot). length s.block.named) (F.entry f i.1) ∙ ap (λ (c : Bool). length (if c then below
      (proc_at g f).params ++ (proc_at g f).vars ∷ [] else [])) (F.called b r f ts back lt e).0 ∙
      (grind (arith, length_push, below_count))

  lands_point : (f d : ℕ) → In d (landings g f) → length (block_at h d).named ≡ 1
  lands_point f d i =
      let l = lands_at g live G F f d i in
      ap (λ m. length (block_at h m).named) l.place ∙ ap (λ (s : Spot). length s.block.named)
      (F.point l.block l.result f l.terms l.back l.there l.exit)

  landing_rule : (b : ℕ) (x : Exit) → b < length (spots g) → (block_at g b).exit ≡ x
      → Lands h (left g (spot_at g b).home (spot_at g b).vars b x)
  landing_rule b x lt e = grind (arith, lands_door, some_landing, all_in, lands_point)

  lands : (s : Spot) → Sort g live G F s → Lands h s.block.exit
  unfolding no_spot
  lands s x = grind (arith, landing_rule)

  -- no call
  left_no_call : (home v b : ℕ) (x : Exit) → NoCall (left g home v b x)
  left_no_call home v b x = grind arith

  pub no_call : (s : Spot) → Sort g live G F s → NoCall s.block.exit
  unfolding no_spot
  no_call s x = grind (arith, left_no_call)

  earlier : (home : ℕ) (x : Exit) → NoCall x → CallsEarlier home x
  earlier home x n = grind arith

  ticks : (x : Exit) (ops : List Op) → NoCall x → calls x ≡ true → has_tick ops ≡ true
  ticks x ops n e = grind arith

  bare_at : (b : ℕ) → AllByRecursion ChoosesBare (block_at g b).ops
  unfolding spot_at no_spot
  bare_at b = grind (arith, each_at)

  saves_bare : (home v : ℕ) (x : Exit) → AllByRecursion ChoosesBare (saves g live home v x)
  saves_bare home v (Call r f ts back) = map_all ChoosesBare (save g home) (saved g live home v r back)
      (λ x. tt)
  saves_bare home v x = tt

  bare : (s : Spot) → Sort g live G F s → AllByRecursion ChoosesBare s.block.ops
  unfolding no_spot
  bare _ (is_door f lt) = map_all ChoosesBare clear (filter (is_unset g live f (proc_at g f).params) (below
      (proc_at g f).vars)) (λ x. tt)
  bare _ (is_plain b lt) = grind (arith, all_both, bare_at, saves_bare)
  bare _ (is_point b r f ts back lt e) = map_all ChoosesBare (load g (spot_at g b).home)
      (saved g live (spot_at g b).home (spot_at g b).vars r back) (λ x. tt)
  bare _ is_none = tt

  procs_numbered : (f b : ℕ) (ps : List GraphProc) → AllByRecursion ProcNumbers ps
      → AllByRecursion ProcNumbers (spelled_procs g live f b ps)
  procs_numbered f b [] h = tt
  procs_numbered f b (p ∷ ps) h = grind (arith, procs_numbered (suc f) (b + length p.blocks) ps h.1)

  every : AllByRecursion (Sort g live G F) (spots h)
  every = every_spot g live G F

  pub is_graph : IsGraph h
  is_graph = record {
    numbers = record {
      some_proc = omega (arith, F.count, G.rules.numbers.some_proc);
      procs = procs_numbered 0 0 g.procs G.rules.numbers.procs;
      blocks = all_have (Sort g live G F) (BlockNumbers h) (spots h) numbers every;
    };
    landings = all_have (Sort g live G F) (λ s. Lands h s.block.exit) (spots h) lands every;
    earlier = all_have (Sort g live G F) (λ s. CallsEarlier s.home s.block.exit) (spots h)
        (λ s k. earlier s.home s.block.exit (no_call s k)) every;
    call_ticks = all_have (Sort g live G F) (λ s. calls s.block.exit ≡ true → has_tick s.block.ops ≡ true)
        (spots h) (λ s k. ticks s.block.exit s.block.ops (no_call s k)) every;
    cycles = no_cycle g live G F;
    bare = all_have (Sort g live G F) (λ s. AllByRecursion ChoosesBare s.block.ops) (spots h) bare every;
  }

  pub has_no_call : HasNoCall h
  unfolding spot_at
  has_no_call b = grind (arith, each_at, h, all_have, Sort, no_call, every, is_none)
