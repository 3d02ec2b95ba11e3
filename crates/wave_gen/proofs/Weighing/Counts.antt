-- How many instructions the draft of a graph has.
use Rattle.std.proofs.Common.{ℕ, zero, suc, ◌+◌, ◌-◌, ◌*◌, ◌≡◌, ◌<◌, ◌≤◌, Bool, true, List, [], ◌∷◌, ◌++◌}
use Rattle.std.proofs.Common.{length, map, Some, refl, ap, ◌∙◌, subst, arith, eq-eqb, ne_eqb}
use Rattle.std.proofs.lemmas.Bool.{cases_eq, cases_lt}
use Rattle.std.proofs.lemmas.List.{length-map}
use Rattle.std.specs.List.{sum_by, range_with_len}
use Rattle.std.proofs.lemmas.List.Sums.{sum_by-cons, sum_by-append}
use Rattle.ws_isa.specs.Image.{flat}
use Rattle.cfg_core.specs.Graph as graph
use Rattle.cfg_core.specs.Graph.{Graph, spots, spot_at, block_at}
use Rattle.cfg_core.specs.Rules.{ExitIn}
use Rattle.wave_cut.specs.Cut.{Cut}
use Rattle.wave_gen.specs.Wire.{Wants}
use Rattle.wave_gen.specs.Plans.{Plan, end_wants, plan_at, made_at, starts_at, begins, instr_of, blocks_of}
use Rattle.wave_gen.specs.Plans.{draft_of}
use Rattle.wave_gen.specs.Gen.{gen_ops}
use Rattle.wave_gen.specs.Listing.{gen_exit, of_wave, waves_from, turned, listing, place_of, width_of}
use Rattle.wave_gen.specs.Listing.{plans_of, needed}
use Rattle.wave_gen.specs.Words.{arrays_of}
use Rattle.wave_gen.specs.Fitting.{Fits}
use Rattle.wave_gen.specs.Limits.{most_quarters}
use Rattle.wave_gen.proofs.Weighing.Weights.{total}
use Rattle.wave_gen.proofs.Drawing.Blocks.{past_is}
use Rattle.wave_gen.proofs.Weighing.EdgeWeights.{total_least, total_none}
use Rattle.wave_gen.proofs.Drawing.ShortLists.{starts_few}
use Rattle.wave_gen.proofs.OfGraphs.Chains.{listed_there}
use Rattle.wave_gen.proofs.OfGraphs.Turned.{waving}
use Rattle.wave_gen.proofs.OfGraphs.PlanFacts.{at_place, place_there, place_is, as_many, numbers}
use Rattle.wave_gen.proofs.OfGraphs.PlansMade.{plans_are}
use Rattle.wave_gen.proofs.Weighing.Costs.{nobody, above_all, covers, block_cost}
use Rattle.ws_words.specs.Items.{nth}

-- sums over blocks, wave after wave
module _ (w waves : ℕ → ℕ) where
  abbrev below : ℕ → ℕ → ℕ
  below b zero = 0
  below b (suc n) = w b + below (suc b) n

  abbrev lists : ℕ → ℕ → ℕ → ℕ → List ℕ
  lists b n k zero = []
  lists b n k (suc m) = of_wave waves k b n ++ lists b n (suc k) m

  lists_none : (b k m : ℕ) → sum_by w (lists b 0 k m) ≡ 0
  lists_none b k zero = refl
  lists_none b k (suc m) = lists_none b (suc k) m

  one_more : (b n k : ℕ) → waves b ≡ k → sum_by w (of_wave waves k b (suc n)) ≡ w b + sum_by w
      (of_wave waves k (suc b) n)
  one_more b n k e = rw (eq-eqb (waves b) k e) (sum_by-cons w b (of_wave waves k (suc b) n))

  none_more : (b n k : ℕ) → (waves b ≡ k → ⊥) → sum_by w (of_wave waves k b (suc n)) ≡ sum_by w
      (of_wave waves k (suc b) n)
  none_more b n k d = rw (ne_eqb (waves b) k d) refl

  lists_skip : (b n k m : ℕ) → waves b < k → sum_by w (lists b (suc n) k m) ≡ sum_by w (lists (suc b) n k m)
  lists_skip b n k zero l = refl
  lists_skip b n k (suc m) l =
      grind (arith, none_more, sum_by-append, lists, lists_skip b n (suc k) m (omega (arith, l)))

  lists_step : (b n k m : ℕ) → sum_by w (lists b (suc n) k m) ≤ w b + sum_by w (lists (suc b) n k m)
  lists_step b n k zero = omega arith
  lists_step b n k (suc m) =
      grind (arith, sum_by-append, cases_eq, one_more, lists_skip, none_more, lists_step b n (suc k) m)

  lists_sum : (n b k m : ℕ) → sum_by w (lists b n k m) ≤ below b n
  lists_sum zero b k m = let e = lists_none b k m in omega (arith, e)
  lists_sum (suc n) b k m = grind (arith, lists_step, lists_sum n (suc b) k m)

  lists_are : (n k m : ℕ) → waves_from waves n k m ≡ lists 0 n k m
  lists_are n k zero = refl
  lists_are n k (suc m) = grind (arith, lists_are n (suc k) m)

  pub waves_sum : (n k m : ℕ) → sum_by w (waves_from waves n k m) ≤ below 0 n
  waves_sum n k m = grind (arith, lists_sum, lists_are)

-- the same sum over a list of numbers
ranged : (w waves : ℕ → ℕ) (b n : ℕ) → below w waves b n ≡ sum_by w (range_with_len b n)
ranged w waves b zero = refl
ranged w waves b (suc n) = grind (arith, sum_by-cons, ranged w waves (suc b) n)

-- instructions, block after block
flat_few : (width : ℕ) (ps : List Plan) (w : ℕ → ℕ) (xs : List ℕ) (s : ℕ)
    → ((i x : ℕ) → nth xs i ≡ Some x → 4 * length (made_at width ps (s + i)).code ≤ w x)
    → 4 * length (flat (blocks_of width ps s (length xs))) ≤ sum_by w xs
flat_few width ps w [] s h = omega arith
flat_few width ps w (x ∷ xs) s h =
    let z : s + 0 ≡ s = omega arith in
    let first : 4 * length (made_at width ps s).code ≤ w x =
    rw z at (h 0 x refl) in
    let i : 4 * length (flat (blocks_of width ps (suc s) (length xs))) ≤ sum_by w xs =
    flat_few width ps w xs (suc s) (λ i y e. (let q : s + suc i ≡ suc s + i = omega arith in
    rw q at (h (suc i) y e))) in
    let c = sum_by-cons w x xs in
    let m = length-map (made_at width ps s).code (instr_of (begins width ps)) in
    let a = Rattle.std.proofs.Common.length-append
    (map (instr_of (begins width ps)) (made_at width ps s).code)
    (flat (blocks_of width ps (suc s) (length xs))) in
    omega arith

-- few names are wanted, each at few places
total_few : (w : Wants) (high : ℕ) → ((y : ℕ) → length (w y) ≤ 7) → ((y : ℕ) → high ≤ y → w y ≡ []) → (n : ℕ)
    → total w n + 7 * (high - n) ≤ 7 * high
total_few w high f none zero = omega arith
total_few w high f none (suc n) = grind (arith, cases_lt, total_few w high f none n)

module _ (g : Graph) (live : ℕ → ℕ → Bool) (cut : Cut) (fit : Fits g live cut) where
  abbrev ps : List Plan
  ps = plans_of g live cut

  abbrev S : ℕ → Wants
  S = starts_at (width_of g) (plans_of g live cut)

  few : (a : ℕ) → a < length (spots g) → (y : ℕ)
      → length (starts_at (width_of g) (plans_of g live cut) (place_of g cut a) y) ≤ 7
  few a l y = starts_few (arrays_of g) (width_of g) (plans_of g live cut)
      (λ n x. needed g live cut n x ≡ true) (plans_are g live cut fit) (place_of g cut a)
      (omega arith, place_there g live cut fit a l) y

  -- what is wanted past the end of a block
  ends_few : (n x k : ℕ) → x < length (spots g)
      → total (end_wants (width_of g) (starts_at (width_of g) (plans_of g live cut))
      (gen_exit (place_of g cut) k (block_at g x).exit).exit) n ≤ 7 * suc (spot_at g x).vars
  ends_few n x k l = go (block_at g x).exit (numbers g live cut fit x l).exit
    where
      start : (a : ℕ) → a < length (spots g) → (spot_at g a).home ≡ (spot_at g x).home
          → total (starts_at (width_of g) (plans_of g live cut) (place_of g cut a)) n
          ≤ 7 * suc (spot_at g x).vars
      start a la h = let t = total_few (S (place_of g cut a)) (suc (spot_at g x).vars) (few a la)
          (λ y u. nobody g live cut fit x a y l la h u) n in omega arith

      nothing : total (λ y. []) n ≤ 7 * suc (spot_at g x).vars
      nothing = let t = total_none n in omega arith

      go : (exit : graph.Exit) → ExitIn g (spot_at g x).home (spot_at g x).vars exit
          → total (end_wants (width_of g) (starts_at (width_of g) (plans_of g live cut))
          (gen_exit (place_of g cut) k exit).exit) n ≤ 7 * suc (spot_at g x).vars
      go exit h = grind (arith, start, total_least, past_is, nothing)

  code_few : (x : ℕ) → x < length (spots g)
      → 4 * length (made_at (width_of g) (plans_of g live cut) (place_of g cut x)).code ≤ most_quarters g live
      x
  code_few x l =
      let n = above_all g live cut fit (length (plans_of g live cut)) in
      let c = block_cost g live cut fit n x l (covers g live cut fit (length (plans_of g live cut))
      (place_of g cut x) (omega arith) (place_there g live cut fit x l)) in
      let q = at_place g live cut fit x l in
      let k = (gen_ops (width_of g) (block_at g x).ops).next in
      let e : total (end_wants (width_of g) (starts_at (width_of g) (plans_of g live cut))
      (plan_at (plans_of g live cut) (place_of g cut x)).exit) n ≡ total
      (end_wants (width_of g) (starts_at (width_of g) (plans_of g live cut))
      (gen_exit (place_of g cut) k (block_at g x).exit).exit) n =
      ap (λ (p : Plan). total (end_wants (width_of g) (starts_at (width_of g) (plans_of g live cut)) p.exit)
      n) q in
      let f = ends_few n x k l in
      omega (arith, c, e, f)

  pub instrs_few : 4 * length (flat (draft_of (arrays_of g) (width_of g) (plans_of g live cut)).blocks)
      ≤ sum_by (most_quarters g live) (range_with_len 0 (length (spots g)))
  unfolding draft_of
  instrs_few =
      let w : ℕ → ℕ = most_quarters g live in
      let f = flat_few (width_of g) (plans_of g live cut) w (listing g cut) 1
      (λ i x e. (let l = listed_there (length (spots g)) _ _ (length cut.heads) (waving g live cut fit) i
      x e in
      subst (λ j. 4 * length (made_at (width_of g) (plans_of g live cut) j).code ≤ w x)
      (place_is g live cut fit i x e ∙ (let z : suc i ≡ 1 + i = omega arith in z)) (code_few x l))) in
      let s = waves_sum w (turned g cut) (length (spots g)) 1 (length cut.heads) in
      let t = ranged w (turned g cut) 0 (length (spots g)) in
      let n : length (flat (blocks_of (width_of g) (plans_of g live cut) 1 (length (plans_of g live cut))))
      ≡ length (flat (blocks_of (width_of g) (plans_of g live cut) 1 (length (listing g cut)))) =
      ap (λ j. length (flat (blocks_of (width_of g) (plans_of g live cut) 1 j)))
      (as_many g live cut fit) in
      omega (arith, f, s, t, n)
