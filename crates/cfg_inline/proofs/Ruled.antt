-- The inlined graph keeps the six rules of graphs.
use Rattle.std.proofs.Common.{ℕ, suc, ◌+◌, ◌≡◌, ◌<◌, true, false, List, [], ◌∷◌, ◌++◌}
use Rattle.std.proofs.Common.{length, Option, Some, None, refl, sym, ap, ◌∙◌, subst, arith}
use Rattle.std.specs.List.{AllByRecursion}
use Rattle.cfg_core.specs.Graph.{Exit, Goto, Branch, Call, Return, Send, Stop, Block, GraphProc}
use Rattle.cfg_core.specs.Graph.{Graph, Spot, spots, no_spot, spot_at, block_at, entry_of}
use Rattle.cfg_core.specs.Rules.{TermIn, OpIn, ExitIn, BlockNumbers, ProcNumbers, Lands, CallsEarlier}
use Rattle.cfg_core.specs.Rules.{calls, has_tick, has_turn, Leads, Quiet, one, more, ChoosesBare}
use Rattle.cfg_core.specs.Rules.{IsGraph}
use Rattle.cfg_core.proofs.Spots.{each_at, numbers_at}
use Rattle.cfg_core.proofs.Total.{lands_at}
use Rattle.ws_words.proofs.Lists.{all_append, all_mapped, all_with, length_map as map_count}
use Rattle.ws_words.specs.Items.{nth, or_else}
use Rattle.cfg_inline.specs.Inlined.{Plan, Site, site, site_ops, most_blocks, inlined_if, inlined_proc}
use Rattle.cfg_inline.specs.Inlined.{inlined}
use Rattle.cfg_inline.proofs.Placing.{inlined_spot, spots_are, block_is}
use Rattle.cfg_core.proofs.Quiet.{quiet_left}
use Rattle.cfg_core.proofs.Homes.{entry_there, params_at}
use Rattle.cfg_inline.proofs.Straightened.{straight_in, straight_bare}
use Rattle.cfg_inline.proofs.Numbered.{op_more, exit_more, site_in, site_bare, stays_too}
use Rattle.cfg_inline.proofs.Alongside.{IsSite, site_is, named_is}

-- what holds at each place of a list holds of all its items
all_at : {A : Type 0} (P : A → Type 0) (xs : List A) (none : A)
    → ((k : ℕ) → k < length xs → P (or_else (nth xs k) none)) → AllByRecursion P xs
all_at P [] none h = tt
all_at P (x ∷ xs) none h = (h 0 (omega arith), all_at P xs none (λ k lt. h (suc k) (omega arith)))

module _ (plan : Plan) (g : Graph) (rules : IsGraph g) where
  abbrev h : Graph
  h = inlined plan g

  abbrev V : ℕ → ℕ
  V b = (spot_at g b).vars

  -- the block itself, or with what stands for its call and a Goto to where the call goes on
  pub by_call : (P : Block → Type 0) (b : ℕ) → P (block_at g b)
      → ((s : Site) → IsSite plan g (block_at g b).exit s → P (record {
        named = (block_at g b).named;
        ops = (block_at g b).ops ++ site_ops (V b) s;
        exit = Goto s.back;
      })) → P (inlined_if (V b) (block_at g b) (site plan g (block_at g b).exit))
  by_call P b old new = by_found (site plan g (block_at g b).exit) refl
    where
      by_found : (found : Option Site) → site plan g (block_at g b).exit ≡ found
          → P (inlined_if (V b) (block_at g b) found)
      by_found None e = old
      by_found (Some s) e = new s (site_is plan g (block_at g b).exit s e)

  -- a path of the inlined graph that may take no turn is one of the given graph
  turn_before : (b : ℕ) → has_turn (block_at h b).ops ≡ false → has_turn (block_at g b).ops ≡ false
  turn_before b e = by_call (λ (x : Block). has_turn x.ops ≡ false → has_turn (block_at g b).ops ≡ false) b
      (λ d. d) (λ s i. quiet_left (block_at g b).ops (site_ops (V b) s))
      (subst (λ (x : Block). has_turn x.ops ≡ false) (block_is plan g b) e)

  pub leads_before : (b c : ℕ) → Leads (block_at h b).exit c → Leads (block_at g b).exit c
  leads_before b c l = by_call (λ (x : Block). Leads x.exit c → Leads (block_at g b).exit c) b (λ d. d)
      (λ s i d. subst (λ (x : Exit). Leads x c) (sym i.call) d)
      (subst (λ (x : Block). Leads x.exit c) (block_is plan g b) l)

  quiet_before : (b c : ℕ) → Quiet h b c → Quiet g b c
  quiet_before b c (one d e quiet leads) = one d e (turn_before d quiet) (leads_before d e leads)
  quiet_before b c (more d e f q quiet leads) = more d e f (quiet_before d e q) (turn_before e quiet)
      (leads_before e f leads)

  -- of all blocks of the inlined graph
  over_spots : (P : Spot → Type 0) → ((b : ℕ) → b < length (spots g) → P (inlined_spot plan g (spot_at g b)))
      → AllByRecursion P (spots h)
  unfolding spot_at
  over_spots P f = subst (AllByRecursion P) (sym (spots_are plan g))
      (all_mapped P (inlined_spot plan g) (spots g)
      (all_at (λ s. P (inlined_spot plan g s)) (spots g) no_spot f))

  abbrev A : ℕ
  A = length g.arrays

  abbrev W : ℕ → ℕ
  W b = V b + plan.room

  call_in : (b : ℕ) → b < length (spots g) → (s : Site) → IsSite plan g (block_at g b).exit s
      → AllByRecursion (OpIn A (W b)) (site_ops (V b) s)
  call_in b there s i =
      let x = subst (ExitIn g (spot_at g b).home (V b)) i.call (numbers_at g rules b).exit in
      let e = entry_there g rules i.callee x.1 in
      let same : V (entry_of g i.callee) ≡ s.vars = e.1 ∙ sym i.vars in
      let code = straight_in g rules most_blocks (entry_of g i.callee) s.body e.0 i.code in
      let low = params_at g rules i.callee in
      site_in A (V b) plan.room s x.3 (x.2 ∙ sym i.params) (omega (arith, low, i.params, i.vars))
      (subst (λ n. AllByRecursion (OpIn A n) s.body.ops) same code.0)
      (subst (λ n. TermIn A n s.body.result) same code.1) x.0 i.fits

  numbers_of : (b : ℕ) → b < length (spots g) → BlockNumbers h (inlined_spot plan g (spot_at g b))
  numbers_of b there =
      let n = numbers_at g rules b in
      let ops : AllByRecursion (OpIn A (W b)) (block_at g b).ops =
      all_with (OpIn A (V b)) (OpIn A (W b)) (op_more A (V b) (W b) (omega arith)) (block_at g b).ops n.ops in
      let named : AllByRecursion (λ y. y < W b) (block_at g b).named =
      all_with (λ y. y < V b) (λ y. y < W b) (λ y lt. omega (arith, lt)) (block_at g b).named n.named in
      by_call (λ (x : Block). BlockNumbers h (record { home = (spot_at g b).home; vars = W b; block = x })) b
      (record {
        ops = ops;
        exit = exit_more plan g (spot_at g b).home (V b) (W b) (omega arith) (block_at g b).exit n.exit;
        named = named;
        once = n.once;
      })
      (λ s i. record {
        ops = all_append (OpIn A (W b)) (block_at g b).ops (site_ops (V b) s) ops (call_in b there s i);
        exit = stays_too plan g (spot_at g b).home s.back
            (subst (ExitIn g (spot_at g b).home (V b)) i.call n.exit).4;
        named = named;
        once = n.once;
      })

  proc_numbers : (p : GraphProc) → ProcNumbers p → ProcNumbers (inlined_proc plan g p)
  proc_numbers p n = grind (arith, map_count)

  lands_too : (x : Exit) → Lands g x → Lands h x
  lands_too (Send t ts ls) l = (
    l.0,
    all_with (λ n. length (block_at g n).named ≡ length ts)
        (λ n. length (block_at h n).named ≡ length ts) (λ n e. ap length (named_is plan g rules n) ∙ e) ls
        l.1,
  )
  lands_too (Goto c) l = tt
  lands_too (Branch t c d) l = tt
  lands_too (Call r f ts back) l = tt
  lands_too (Return t) l = tt
  lands_too Stop l = tt

  of_spot : (P : Spot → Type 0) → AllByRecursion P (spots g) → P no_spot → (b : ℕ) → P (spot_at g b)
  unfolding spot_at
  of_spot P all none b = each_at P (spots g) no_spot all none b

  earlier_at : (b : ℕ) → CallsEarlier (spot_at g b).home (block_at g b).exit
  unfolding no_spot
  earlier_at b = of_spot (λ s. CallsEarlier s.home s.block.exit) rules.earlier tt b

  ticks_at : (b : ℕ) → calls (block_at g b).exit ≡ true → has_tick (block_at g b).ops ≡ true
  unfolding no_spot
  ticks_at b = of_spot (λ s. calls s.block.exit ≡ true → has_tick s.block.ops ≡ true) rules.call_ticks
      (λ e. absurd (cc)) b

  bare_at : (b : ℕ) → AllByRecursion ChoosesBare (block_at g b).ops
  unfolding no_spot
  bare_at b = of_spot (λ s. AllByRecursion ChoosesBare s.block.ops) rules.bare tt b

  -- all six
  pub keeps_rules : IsGraph h
  keeps_rules = record {
    numbers = record {
      some_proc = let some = rules.numbers.some_proc in
          let count = map_count (inlined_proc plan g) g.procs in omega (arith, some, count);
      procs = all_mapped ProcNumbers (inlined_proc plan g) g.procs
          (all_with ProcNumbers (λ p. ProcNumbers (inlined_proc plan g p)) proc_numbers g.procs
          rules.numbers.procs);
      blocks = over_spots (BlockNumbers h) numbers_of;
    };
    landings = over_spots (λ s. Lands h s.block.exit) (λ b lt. by_call (λ (x : Block). Lands h x.exit) b
        (lands_too (block_at g b).exit (lands_at g rules b)) (λ s i. tt));
    earlier = over_spots (λ s. CallsEarlier s.home s.block.exit)
        (λ b lt. by_call (λ (x : Block). CallsEarlier (spot_at g b).home x.exit) b (earlier_at b)
        (λ s i. tt));
    call_ticks = over_spots (λ s. calls s.block.exit ≡ true → has_tick s.block.ops ≡ true)
        (λ b lt. by_call (λ (x : Block). calls x.exit ≡ true → has_tick x.ops ≡ true) b (ticks_at b)
        (λ s i e. absurd (cc)));
    cycles = λ b q. rules.cycles b (quiet_before b b q);
    bare = over_spots (λ s. AllByRecursion ChoosesBare s.block.ops)
        (λ b lt. by_call (λ (x : Block). AllByRecursion ChoosesBare x.ops) b (bare_at b)
        (λ s i. all_append ChoosesBare (block_at g b).ops (site_ops (V b) s) (bare_at b)
        (site_bare (V b) s (straight_bare g rules most_blocks (entry_of g i.callee) s.body i.code))));
  }
