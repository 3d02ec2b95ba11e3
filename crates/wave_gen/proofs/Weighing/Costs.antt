-- The draft's walk costs what the blocks that the graph's walk leaves weigh.
use Rattle.std.proofs.Common.{ℕ, zero, suc, ◌+◌, ◌*◌, ◌≡◌, ◌<◌, ◌≤◌, ◌⊎◌, ◌||◌, Bool, true, false, cond, List}
use Rattle.std.proofs.Common.{[], ◌∷◌, ◌++◌, length, refl, sym, ap, ◌∙◌, inl, inr, arith}
use Rattle.std.proofs.lemmas.Bool.{cases_Bool, both_ways, cond-true, cond-false}
use Rattle.std.specs.List.{sum_by}
use Rattle.std.proofs.lemmas.List.Sums.{sum_by-cons}
use Rattle.ws_words.specs.Outside.{Outside, ProcState, World, WorldOfWords}
use Rattle.ws_isa.specs.Image.{Image, Array, first_number, stops, target}
use Rattle.ws_isa.specs.Walk.{opening_memory, CostAtMost}
use Rattle.ws_isa.proofs.Ending.{over_is_whole}
use Rattle.wave_link.specs.Passed.{blocks_left}
use Rattle.cfg_core.specs.Graph as graph
use Rattle.cfg_core.specs.Graph.{Term, Graph, spots, spot_at, block_at}
use Rattle.cfg_core.specs.Rules.{ExitIn}
use Rattle.cfg_core.specs.Walk.{OpsOutcome, Done, Out, run_ops, Config, At, Over, Going, step, walk, opening}
use Rattle.cfg_core.specs.Weights.{block_left, path}
use Rattle.wave_cut.specs.Cut.{Cut, is_first}
use Rattle.wave_gen.specs.Waits.{Code, count, RunPlace, pass, places}
use Rattle.wave_gen.specs.Plans.{Plan, pulse, tails_of, end_wants, steered, plan_at, made_at, starts_at}
use Rattle.wave_gen.specs.Plans.{begins, draft_of, code_of}
use Rattle.wave_gen.specs.Gen.{gen_term, gen_ops}
use Rattle.wave_gen.specs.Drawn.{gen_terms}
use Rattle.wave_gen.specs.Listing.{gen_exit, entries_of, listing, index_of, place_of, width_of, plans_of}
use Rattle.wave_gen.specs.Listing.{needed, nothing_zeroed, graph_draft}
use Rattle.wave_gen.specs.Fitting.{Fits}
use Rattle.wave_gen.specs.Words.{GraphOfWords, arrays_of}
use Rattle.wave_gen.specs.Cost.{op_quarters, exit_quarters, live_in, quarters, CostsAtMost}
use Rattle.wave_gen.proofs.Weighing.Weights.{total, weights}
use Rattle.wave_gen.specs.Shared.{shared, none_known}
use Rattle.wave_gen.proofs.OfItems.Sharing.{heavies, shared_weigh}
use Rattle.wave_gen.proofs.Weighing.ItemWeights.{heavies_append, ops_weight, exit_items, exit_weight}
use Rattle.wave_gen.proofs.OfItems.Nexts.{ops_next}
use Rattle.wave_gen.proofs.Weighing.BlockWeights.{exit_own, plan_above, block_charge}
use Rattle.wave_gen.proofs.Weighing.EdgeWeights.{steered_few, steers_count, sends_count, unwanted, ends_on}
use Rattle.wave_gen.proofs.Weighing.EdgeWeights.{ends_stop}
use Rattle.wave_gen.proofs.Planning.DrawnPlans.{WalkFine}
use Rattle.wave_gen.proofs.Planning.IsDrawn.{IsDrawn}
use Rattle.wave_gen.proofs.Waits.Turns.{stands_end}
use Rattle.wave_gen.proofs.Drawing.Number.{number_is, block_is}
use Rattle.wave_gen.proofs.Drawing.Blocks.{begins_next}
use Rattle.wave_gen.proofs.Drawing.Waiting.{waits}
use Rattle.wave_gen.proofs.Drawing.Shape.{shape}
use Rattle.wave_gen.proofs.Waits.Passes.{forth}
use Rattle.wave_gen.proofs.Walking.Leaving.{steps_many, most_left, walk_going, path_enough}
use Rattle.wave_gen.proofs.Walking.Paced.{exit_leaves}
use Rattle.wave_gen.proofs.Walking.Paced as paced
use Rattle.wave_gen.proofs.Walking.Tied.{AtBlock, Tied, at_block, at_end, out_of_turns, next, nexts, one_more}
use Rattle.wave_gen.proofs.Walking.Tied.{next_place, begins_so, same_home, follows}
use Rattle.wave_gen.proofs.Walking.Keeping_walks.{main_entry}
use Rattle.wave_gen.proofs.Walking.WordsStay.{words_fine}
use Rattle.wave_gen.proofs.OfGraphs.GraphOpen.{same_cells}
use Rattle.wave_gen.proofs.OfGraphs.PlanFacts.{at, at_place, place_there, to_entry, live_of_entry, numbers}
use Rattle.wave_gen.proofs.OfGraphs.PlansMade.{plans_drawn}

module _ (g : Graph) (arrays : List Array) (width : ℕ) (ps : List Plan) (live : ℕ → ℕ → Bool) (place : ℕ → ℕ)
    (zeroed : ℕ → List ℕ) (d : IsDrawn g arrays width ps live place zeroed)
    (n : ℕ) (weight : ℕ → ℕ)
    (weigh : (x : ℕ) → x < length (spots g) → 4 * length (made_at width ps (place x)).code + total
    (starts_at width ps (place x)) n ≤ total
    (end_wants width (starts_at width ps) (plan_at ps (place x)).exit) n + weight x) where
  abbrev I : Image
  I = draft_of arrays width ps

  abbrev C : Code
  C = code_of width ps

  abbrev Ties : RunPlace → Config → Type 0
  Ties p c = Tied arrays width ps (λ b x. live b x ≡ true) d.plans g d.rules place zeroed d.drawn p c

  abbrev after : RunPlace → RunPlace
  after p = next arrays width ps (λ b x. live b x ≡ true) d.plans g d.rules place zeroed d.drawn p

  abbrev afters : ℕ → RunPlace → RunPlace
  afters m p = nexts arrays width ps (λ b x. live b x ≡ true) d.plans g d.rules place zeroed d.drawn m p

  -- the spots that wait for values in a configuration
  abbrev wanted : Config → ℕ
  wanted (At b st frames k) = total (starts_at width ps (place b)) n
  wanted (Over o k) = 0
  wanted (Going o) = 0

  count_is : (b : ℕ) → (1 ≤ b) × (b ≤ length ps) → count ((code_of width ps).steps b)
      ≡ length (made_at width ps b).code
  unfolding code_of
  count_is b h =
      let w = waits arrays width ps (λ b x. live b x ≡ true) d.plans in
      let e : first_number I b + count ((code_of width ps).steps b) ≡ first_number I (suc b) =
      stands_end I b (C.Kept b) (first_number I b) (C.steps b) (C.ends b)
      (w.stands b (block_is arrays width ps b h)) in
      let y : first_number I b ≡ begins width ps b = number_is arrays width ps b in
      let z : first_number I (suc b) ≡ begins width ps (suc b) = number_is arrays width ps (suc b) in
      let s : begins width ps (suc b) ≡ begins width ps b + length (made_at width ps b).code =
      begins_next width ps b h in
      omega (arith, e, y, z, s)

  -- a block that is passed stops, or leads on
  pass_case : (p : RunPlace) → ((pass I C p).fired ≡ p.fired + count ((code_of width ps).steps p.block))
      × (((stops I p.block ≡ true) × ((pass I C p).over ≡ true))
      ⊎ ((r : ℕ) × ((pass I C p).over ≡ false) × ((pass I C p).block ≡ target I p.block r)))
  unfolding pass
  pass_case p = grind (arith, cases_Bool, cond-true, cond-false)

  tied_at : (p : RunPlace) (c : Config) → Ties p c → (b : ℕ) (st : ProcState) (frames : List _) (k : ℕ)
      → c ≡ At b st frames k → (p.over ≡ false) × (p.block ≡ place b)
  tied_at p c (at_block b' st' j a) b st frames k e = let z : At b' st' [] j ≡ At b st frames k = e in
      let q : b' ≡ b = cc in (a.stands.over, a.stands.block ∙ ap place q)
  tied_at p c (at_end o j x y) b st frames k e = absurd (let z : Over o j ≡ At b st frames k = e in cc)
  tied_at p c (out_of_turns o) b st frames k e = absurd (let z : Going o ≡ At b st frames k = e in cc)

  tied_over : (p : RunPlace) (c : Config) → Ties p c → (o : Outside) (k : ℕ) → c ≡ Over o k → p.over ≡ true
  tied_over p c (at_block b' st' j a) o k e = absurd (let z : At b' st' [] j ≡ Over o k = e in cc)
  tied_over p c (at_end o' j x y) o k e = x
  tied_over p c (out_of_turns o') o k e = absurd (let z : Going o' ≡ Over o k = e in cc)

  -- a block is paid for by its weight and by what is wanted behind it
  one_block : (b : ℕ) (st : ProcState) (p : RunPlace) → AtBlock arrays width ps (λ b x. live b x ≡ true)
      d.plans g d.rules place zeroed d.drawn b st p → (c : Config) (l : ℕ) → Ties (after p) c
      → paced.Leaves c l → 4 * (after p).fired + total (starts_at width ps (place b)) n ≤ 4 * p.fired + weight
      b + wanted c
  one_block b st p a c l t leaves =
      let h : (1 ≤ place b) × (place b ≤ length ps) = a.stands.there in
      let q : after p ≡ pass I C p = cond-false p.over p (pass I C p) a.stands.over in
      let w = weigh b a.there in
      let f : (after p).fired ≡ p.fired + count ((code_of width ps).steps (place b)) =
      ap (λ (x : RunPlace). x.fired) q ∙ (pass_case p).0
      ∙ ap (λ (x : ℕ). p.fired + count ((code_of width ps).steps x)) a.stands.block in
      let k : count ((code_of width ps).steps (place b)) ≡ length (made_at width ps (place b)).code =
      count_is (place b) h in
      let u : total (end_wants width (starts_at width ps) (plan_at ps (place b)).exit) n ≤ wanted c =
      behind h q leaves in
      omega (arith, w, f, k, u)
    where
      behind : (1 ≤ place b) × (place b ≤ length ps) → after p ≡ pass I C p → paced.Leaves c l
          → total (end_wants width (starts_at width ps) (plan_at ps (place b)).exit) n ≤ wanted c
      behind h q (inl (b2, s2, fr, e)) =
          let v = tied_at (after p) c t b2 s2 fr l e in
          elim (pass_case p).1 [
            | inl s ↦ absurd (both_ways (after p).over v.0 (ap (λ (x : RunPlace). x.over) q ∙ s.1))
            | inr s ↦
                (let to : target I (place b) s.0 ≡ place b2 = ap (λ (x : ℕ). target I x s.0)
                (sym a.stands.block) ∙ sym s.2 ∙ ap (λ (x : RunPlace). x.block) (sym q) ∙ v.1 in
                let i = ends_on arrays width ps (λ b x. live b x ≡ true) d.plans n (place b) s.0 h in
                let j : total (starts_at width ps (target I (place b) s.0)) n
                ≡ total (starts_at width ps (place b2)) n = ap (λ (x : ℕ). total (starts_at width ps x) n)
                to in
                let m : wanted c ≡ total (starts_at width ps (place b2)) n = ap wanted e in
                omega (arith, i, j, m))
          ]
      behind h q (inr (o, e)) =
          let v = tied_over (after p) c t o l e in
          elim (pass_case p).1 [
            | inl s ↦
                (let i = ends_stop arrays width ps (λ b x. live b x ≡ true) d.plans n (place b) h
                (ap (λ (x : ℕ). stops I x) (sym a.stands.block) ∙ s.0) in omega (arith, i))
            | inr s ↦ absurd (both_ways (after p).over (ap (λ (x : RunPlace). x.over) q ∙ s.1) v)
          ]

  -- a walk that ends
  pub cost_from : (m : ℕ) (p : RunPlace) (c : Config) → Ties p c → WalkFine g c → (o : Outside) (k : ℕ)
      → walk g m c ≡ Over o k → 4 * (afters m p).fired + wanted c ≤ 4 * p.fired + sum_by weight (path g m c)
  cost_from zero p c t f o k e = let z : wanted c ≡ 0 = ap wanted e in omega (arith, z)
  cost_from (suc m) p c (out_of_turns q) f o k e = absurd (walk_going g m q o k e)
  cost_from (suc m) p c (at_end q j x y) f o k e =
      let s = one_more arrays width ps (λ b x. live b x ≡ true) d.plans g d.rules place zeroed d.drawn p
      (Over q j) (at_end q j x y) f in
      let i = cost_from m (after p) (Over q j) s (λ i b st fr l h. f (suc i) b st fr l h) o k e in
      let z : (after p).fired ≡ p.fired = ap (λ (r : RunPlace). r.fired)
      (cond-true p.over p (pass I C p) x) in
      omega (arith, i, z)
  cost_from (suc m) p c (at_block b st j a) f o k e =
      let s = one_more arrays width ps (λ b x. live b x ≡ true) d.plans g d.rules place zeroed d.drawn p
      (At b st [] j) (at_block b st j a) f in
      let i = cost_from m (after p) (step g (At b st [] j)) s (λ i b st fr l h. f (suc i) b st fr l h) o k
      e in
      go (run_ops (block_at g b).ops st j) refl s i
    where
      on : (l : ℕ) → Ties (after p) (step g (At b st [] j)) → paced.Leaves (step g (At b st [] j)) l
          → 4 * (afters m (after p)).fired + wanted (step g (At b st [] j)) ≤ 4 * (after p).fired + sum_by
          weight (path g m (step g (At b st [] j))) →
          4 * (afters (suc m) p).fired + wanted (At b st [] j) ≤ 4 * p.fired + sum_by weight
          (path g (suc m) (At b st [] j))
      on l s v i =
          let w = one_block b st p a (step g (At b st [] j)) l s v in
          let q : block_left (At b st [] j) (step g (At b st [] j)) ≡ b ∷ [] =
          elim v [
            | inl r ↦ ap (block_left (At b st [] j)) r.3
            | inr r ↦
                ap (block_left (At b st [] j)) r.1
          ] in
          let y : sum_by weight (path g (suc m) (At b st [] j)) ≡ weight b + sum_by weight
          (path g m (step g (At b st [] j))) =
          ap (λ (r : List ℕ). sum_by weight (r ++ path g m (step g (At b st [] j)))) q
          ∙ sum_by-cons weight b (path g m (step g (At b st [] j))) in
          omega (arith, w, i, y)

      go : (r : OpsOutcome) → run_ops (block_at g b).ops st j ≡ r → Ties (after p) (step g (At b st [] j))
          → 4 * (afters m (after p)).fired + wanted (step g (At b st [] j)) ≤ 4 * (after p).fired + sum_by
          weight (path g m (step g (At b st [] j))) →
          4 * (afters (suc m) p).fired + wanted (At b st [] j) ≤ 4 * p.fired + sum_by weight
          (path g (suc m) (At b st [] j))
      go (Out q) r s i = absurd (grind (arith, walk_going))
      go (Done u l) r s i = on l s (grind (arith, paced.Leaves, exit_leaves)) i

  module _ (world : World) (turns : ℕ) (fine : WalkFine g (opening g world turns)) where
    starts_tied : Ties (places I C (opening_memory I world) 0) (opening g world turns)
    starts_tied = grind (arith, main_entry, begins_so)

    place_of_walk : (m : ℕ) → afters m (places I C (opening_memory I world) 0) ≡ places I C
        (opening_memory I world) m
    place_of_walk m = next_place arrays width ps (λ b x. live b x ≡ true) d.plans g d.rules place zeroed
        d.drawn (opening_memory I world) 0 m ∙ ap (λ (r : ℕ). places I C (opening_memory I world) r)
        (let z : 0 + m ≡ m = omega arith in z)

    over_at : (m : ℕ) (o : Outside) (left : ℕ) → walk g m (opening g world turns) ≡ Over o left
        → (places I C (opening_memory I world) m).over ≡ true
    over_at m o left e =
        let s = follows arrays width ps (λ b x. live b x ≡ true) d.plans g d.rules
        place zeroed d.drawn m (places I C (opening_memory I world) 0) (opening g world turns) starts_tied
        fine in
        ap (λ (p : RunPlace). p.over) (sym (place_of_walk m)) ∙ tied_over
        (afters m (places I C (opening_memory I world) 0)) (walk g m (opening g world turns)) s o left e

    -- the draft's walk leaves no more blocks than the graph's
    leaves_few : (m : ℕ) (o : Outside) (left : ℕ) → walk g m (opening g world turns) ≡ Over o left → (t : ℕ)
        → blocks_left I world t ≤ length (path g m (opening g world turns))
    leaves_few m o left e t =
        let n : ℕ = length (path g m (opening g world turns)) in
        let r = forth I world C (shape arrays width ps (λ b x. live b x ≡ true) d.plans)
        (waits arrays width ps (λ b x. live b x ≡ true) d.plans) n in
        let w = over_at n o left (path_enough g m (opening g world turns) o left e) in
        let a = most_left I world r.0 (r.1.over ∙ w) t in
        let b = steps_many I world r.0 in
        let c : length (Rattle.ws_isa.specs.Walk.walk I world r.0)
        ≡ (places I C (opening_memory I world) n).fired = r.1.cost in
        let f : r.0 ≤ n + (places I C (opening_memory I world) n).fired = r.1.short in
        omega (arith, a, b, c, f)

    pub walk_cost : (m : ℕ) (o : Outside) (left : ℕ) → walk g m (opening g world turns) ≡ Over o left →
        (cost : ℕ) × CostAtMost I world cost × (4 * cost ≤ sum_by weight (path g m (opening g world turns)))
        × ((t : ℕ) → blocks_left I world t ≤ length (path g m (opening g world turns)))
    walk_cost m o left e =
        let c = cost_from m (places I C (opening_memory I world) 0) (opening g world turns) starts_tied fine o
        left e in
        let w : (places I C (opening_memory I world) m).over ≡ true = over_at m o left e in
        let r = forth I world C (shape arrays width ps (λ b x. live b x ≡ true) d.plans)
        (waits arrays width ps (λ b x. live b x ≡ true) d.plans) m in
        let f : (afters m (places I C (opening_memory I world) 0)).fired
        ≡ (places I C (opening_memory I world) m).fired = ap (λ (p : RunPlace). p.fired)
        (place_of_walk m) in
        let x : length (Rattle.ws_isa.specs.Walk.walk I world r.0)
        ≡ (places I C (opening_memory I world) m).fired = r.1.cost in (
          length (Rattle.ws_isa.specs.Walk.walk I world r.0),
          over_is_whole I world r.0 (r.1.over ∙ w),
          omega arith,
          leaves_few m o left e,
        )

-- the blocks of a graph
names_count : (ts : List Term) (k : ℕ) → length (gen_terms k ts).names ≡ length ts
names_count [] k = refl
names_count (t ∷ ts) k = ap suc (names_count ts (suc (gen_term k t).next))

module _ (g : Graph) (live : ℕ → ℕ → Bool) (cut : Cut) (fit : Fits g live cut) where
  abbrev ps : List Plan
  ps = plans_of g live cut

  D : IsDrawn g (arrays_of g) (width_of g) (plans_of g live cut) (needed g live cut) (place_of g cut)
      nothing_zeroed
  D = plans_drawn g live cut fit (arrays_of g) (same_cells g.arrays)

  entries_few : (x : ℕ) (v : Bool) → length (cond v (entries_of g live x) [])
      ≤ suc (live_in (live x) (spot_at g x).vars)
  entries_few x v = grind arith

  -- a name that isn't live nobody wants
  unlive : (a y : ℕ) → a < length (spots g) → live a y ≡ false → starts_at (width_of g) (plans_of g live cut)
      (place_of g cut a) (suc y) ≡ []
  unlive a y la e = unwanted (arrays_of g) (width_of g) (plans_of g live cut)
      (λ n z. needed g live cut n z ≡ true) D.plans (place_of g cut a) (suc y)
      (omega arith, place_there g live cut fit a la)
      (λ i. (let j = to_entry g live cut fit (index_of (listing g cut) a) a (suc y) (at g live cut fit a la)
      i in
      let k = live_of_entry g live cut fit a y la j in both_ways (live a y) e ((fit.sets a y la k.0).1 k.1)))

  both_false : (a b : Bool) → (a || b) ≡ false → (a ≡ false) × (b ≡ false)
  both_false a b e = grind arith

  -- past a procedure's variables nobody wants a name
  pub nobody : (x a y : ℕ) → x < length (spots g) → a < length (spots g)
      → (spot_at g a).home ≡ (spot_at g x).home → suc (spot_at g x).vars ≤ y
      → starts_at (width_of g) (plans_of g live cut) (place_of g cut a) y ≡ []
  nobody x a zero lx la h u = absurd (omega (arith, u))
  nobody x a (suc y) lx la h u = unwanted (arrays_of g) (width_of g) (plans_of g live cut)
      (λ n z. needed g live cut n z ≡ true) D.plans (place_of g cut a) (suc y)
      (omega arith, place_there g live cut fit a la)
      (λ i. (let j = to_entry g live cut fit (index_of (listing g cut) a) a (suc y) (at g live cut fit a la)
      i in
      let k : y < (spot_at g a).vars = (live_of_entry g live cut fit a y la j).0 in
      let v : (spot_at g a).vars ≡ (spot_at g x).vars = same_home g x a lx la h in omega (arith, k, v, u)))

  tails_few : (x k : ℕ) → x < length (spots g) → exit_items (block_at g x).exit + 7 * length
      (tails_of (width_of g) (starts_at (width_of g) (plans_of g live cut))
      (gen_exit (place_of g cut) k (block_at g x).exit).exit) + exit_own
      (gen_exit (place_of g cut) k (block_at g x).exit).exit ≤ exit_quarters live (spot_at g x).vars
      (block_at g x).exit
  tails_few x k l = go (block_at g x).exit (numbers g live cut fit x l).exit
    where
      go : (exit : graph.Exit) → ExitIn g (spot_at g x).home (spot_at g x).vars exit
          → exit_items exit + 7 * length (tails_of (width_of g) (starts_at (width_of g) (plans_of g live cut))
          (gen_exit (place_of g cut) k exit).exit) + exit_own (gen_exit (place_of g cut) k exit).exit
          ≤ exit_quarters live (spot_at g x).vars exit
      go (graph.Branch t a b) h =
          let w = starts_at (width_of g) (plans_of g live cut) (place_of g cut a) in
          let v = starts_at (width_of g) (plans_of g live cut) (place_of g cut b) in
          let c = steers_count w v (steered (width_of g) w v) in
          let s = steered_few (width_of g) (spot_at g x).vars w v (λ y. live a y || live b y)
          (λ y e. (let o = both_false (live a y) (live b y) e in
          (unlive a y h.1.0 o.0, unlive b y h.2.0 o.1)))
          (λ y u. (
            nobody x a (suc y) l h.1.0 h.1.1 (omega (arith, u)),
            nobody x b (suc y) l h.2.0 h.2.1 (omega (arith, u)),
          )) in
          omega (arith, c, s)
      go (graph.Send t ts ls) h =
          let m = gen_terms (gen_term k t).next ts in
          let c : length (Rattle.wave_gen.specs.Plans.sends 0 (pulse ∷ m.names)) ≡ suc (length m.names) =
          sends_count 0 (pulse ∷ m.names) in
          let e : length m.names ≡ length ts = names_count ts (gen_term k t).next in
          omega (arith, c, e)
      go (graph.Goto c) h = omega arith
      go (graph.Call r f ts back) h = omega arith
      go (graph.Return t) h = omega arith
      go graph.Stop h = omega arith

  -- a number above all names
  abbrev pub above_all : ℕ → ℕ
  above_all zero = 0
  above_all (suc b) = plan_above (width_of g) (starts_at (width_of g) (plans_of g live cut))
      (plan_at (plans_of g live cut) (suc b)) + above_all b

  pub covers : (k b : ℕ) → 1 ≤ b → b ≤ k
      → plan_above (width_of g) (starts_at (width_of g) (plans_of g live cut))
      (plan_at (plans_of g live cut) b) ≤ above_all k
  covers zero b l u = absurd (omega (arith, l, u))
  covers (suc k) b l u = elim (Rattle.std.proofs.lemmas.Bool.cases_eq b (suc k)) [
    | inl e ↦ (let z : plan_above (width_of g) (starts_at (width_of g) (plans_of g live cut))
        (plan_at (plans_of g live cut) b) ≡ plan_above (width_of g)
        (starts_at (width_of g) (plans_of g live cut)) (plan_at (plans_of g live cut) (suc k)) =
        ap (λ (r : ℕ). plan_above (width_of g) (starts_at (width_of g) (plans_of g live cut))
        (plan_at (plans_of g live cut) r)) e in
        let y : above_all (suc k) ≡ plan_above (width_of g) (starts_at (width_of g) (plans_of g live cut))
        (plan_at (plans_of g live cut) (suc k)) + above_all k = refl in omega (arith, z, y))
    | inr d ↦ (let i = covers k b l (omega (arith, u, d)) in
        let y : above_all (suc k) ≡ plan_above (width_of g) (starts_at (width_of g) (plans_of g live cut))
        (plan_at (plans_of g live cut) (suc k)) + above_all k = refl in omega (arith, i, y))
  ]

  pub block_cost : (n x : ℕ) → x < length (spots g) → plan_above (width_of g)
      (starts_at (width_of g) (plans_of g live cut)) (plan_at (plans_of g live cut) (place_of g cut x)) ≤ n →
      4 * length (made_at (width_of g) (plans_of g live cut) (place_of g cut x)).code + total
      (starts_at (width_of g) (plans_of g live cut) (place_of g cut x)) n
      ≤ total (end_wants (width_of g) (starts_at (width_of g) (plans_of g live cut))
      (plan_at (plans_of g live cut) (place_of g cut x)).exit) n + quarters g live x
  block_cost n x l high =
      let b = place_of g cut x in
      let q = at_place g live cut fit x l in
      let k = gen_ops (width_of g) (block_at g x).ops in
      let e = gen_exit (place_of g cut) k.next (block_at g x).exit in
      let c = block_charge (width_of g) (plans_of g live cut) (λ n z. needed g live cut n z ≡ true) D.plans n
      b (omega arith, place_there g live cut fit x l) high in
      let ts : length (tails_of (width_of g) (starts_at (width_of g) (plans_of g live cut))
      (plan_at (plans_of g live cut) b).exit) ≡ length
      (tails_of (width_of g) (starts_at (width_of g) (plans_of g live cut)) e.exit) =
      ap (λ (p : Plan). length (tails_of (width_of g) (starts_at (width_of g) (plans_of g live cut))
      p.exit)) q in
      let eo : exit_own (plan_at (plans_of g live cut) b).exit ≡ exit_own e.exit =
      ap (λ (p : Plan). exit_own p.exit) q in
      let tf = tails_few x k.next l in
      let ws : weights (plan_at (plans_of g live cut) b).items ≡ weights
      (shared none_known (k.items ++ e.items)) = ap (λ (p : Plan). weights p.items) q in
      let sh = shared_weigh none_known (k.items ++ e.items) in
      let wa : heavies (k.items ++ e.items) ≡ heavies k.items + heavies e.items =
      heavies_append k.items e.items in
      let wo = ops_weight (block_at g x).ops (width_of g) (omega arith) in
      let kn = ops_next (block_at g x).ops (width_of g) in
      let we = exit_weight (place_of g cut) (block_at g x).exit k.next (omega arith) in
      let es : length (plan_at (plans_of g live cut) b).entries ≡ length
      (cond (is_first cut x) (entries_of g live x) []) = ap (λ (p : Plan). length p.entries) q in
      let ef = entries_few x (is_first cut x) in
      let z : quarters g live x ≡ sum_by op_quarters (block_at g x).ops + exit_quarters live
      (spot_at g x).vars (block_at g x).exit + 11 * suc (live_in (live x) (spot_at g x).vars) + 5 =
      refl in
      omega arith

  pub costs : GraphOfWords g → (world : World) → WorldOfWords world → (turns : ℕ)
      → CostsAtMost g live (draft_of (arrays_of g) (width_of g) (plans_of g live cut)) world turns
  costs words world w turns m o left e =
      let n = above_all (length (plans_of g live cut)) in
      walk_cost g (arrays_of g) (width_of g) (plans_of g live cut) (needed g live cut) (place_of g cut)
      nothing_zeroed D n (quarters g live)
      (λ x l. block_cost n x l (covers (length (plans_of g live cut)) (place_of g cut x) (omega arith)
      (place_there g live cut fit x l)))
      world turns (words_fine g words world turns w) m o left e

-- what the draft of a graph costs
pub graph_costs : (g : Graph) (live : ℕ → ℕ → Bool) (cut : Cut) → Fits g live cut → GraphOfWords g
    → (world : World) → WorldOfWords world → (turns : ℕ)
    → CostsAtMost g live (graph_draft g (arrays_of g) live cut) world turns
unfolding graph_draft
graph_costs g live cut fit words world w turns = costs g live cut fit words world w turns
