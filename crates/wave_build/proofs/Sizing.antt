-- How large the last graph is.
use Rattle.std.proofs.Common.{ℕ, suc, ◌+◌, ◌≡◌, ◌<◌, ◌≤◌, if◌then◌else◌, List, [], ◌∷◌, length, map, Option}
use Rattle.std.proofs.Common.{Some, None, refl, sym, ap, ◌∙◌, subst, inl, inr, arith}
use Rattle.std.specs.List.{AllByRecursion, sum_by}
use Rattle.std.proofs.lemmas.List.Sums.{sum_by-cons}
use Rattle.src_ast.specs.Syntax.{Part}
use Rattle.src_ast.specs.LanguageLimits.{most_statements}
use Rattle.cfg_core.specs.Graph.{Exit, Goto, Branch, Call, Return, Send, Stop, Block, GraphArray, GraphProc}
use Rattle.cfg_core.specs.Graph.{Graph, Spot, spots, no_spot, spot_at, block_at}
use Rattle.cfg_core.specs.Rules.{calls}
use Rattle.cfg_core.specs.Weights.{turns_of, acts_of, jumps_of, block_nodes}
use Rattle.cfg_build.specs.Keeps.{IsFirstExit}
use Rattle.wave_cut.specs.Cut.{Cut}
use Rattle.phi_conv.specs.Short.{Short, short}
use Rattle.phi_conv.specs.Joined.{joined_if, joined_proc}
use Rattle.phi_conv.proofs.Placing.{joined_spot, spots_are}
use Rattle.call_gen.specs.Keeps.{SendsAtMost}
use Rattle.call_gen.specs.Sizes.{call_count, cell_count, Sizes, LandingsAtMost, BlockWithin, ProcWithin}
use Rattle.call_gen.specs.Sizes.{KeepsSizes, spelled_sizes}
use Rattle.wave_build.specs.Passed.{Lowered, Joined, LastGraphs}
use Rattle.wave_build.specs.Small.{lowered_sizes, joined_sizes}
use Rattle.ws_words.proofs.Lists.{length_map as map_count}
use Rattle.ws_words.specs.Items.{nth, or_else}
use Rattle.cfg_core.proofs.Spots.{each_at}

cells_are : (arrays : List GraphArray) → cell_count arrays ≡ sum_by (λ a. a.length) arrays
cells_are [] = refl
cells_are (a ∷ arrays) = let i = cells_are arrays in let c = sum_by-cons (λ (x : GraphArray). x.length) a
    arrays in omega (arith, i, c)

both_within : (z : Sizes) (ps : List GraphProc) → AllByRecursion (λ p. p.params ≤ z.params) ps
    → AllByRecursion (λ p. p.vars ≤ z.vars) ps → AllByRecursion (ProcWithin z) ps
both_within z [] h i = tt
both_within z (p ∷ ps) h i = (record { params = h.0; vars = i.0 }, both_within z ps h.1 i.1)

pub vars_within : (z : Sizes) (n : ℕ) → z.vars ≤ n → (ps : List GraphProc) → AllByRecursion (ProcWithin z) ps
    → AllByRecursion (λ p. p.vars ≤ n) ps
vars_within z n le [] h = tt
vars_within z n le (p ∷ ps) h = ((let v = h.0.vars in omega (arith, v, le)), vars_within z n le ps h.1)

more_within : (g : Graph) (live : List (List ℕ)) (z : Sizes) (ps : List GraphProc)
    → AllByRecursion (ProcWithin z) ps → AllByRecursion (ProcWithin (joined_sizes z))
    (map (joined_proc g live) ps)
more_within g live z [] h = tt
more_within g live z (p ∷ ps) h = (
  record { params = h.0.params; vars = (let v = h.0.vars in omega (arith, v)) },
  more_within g live z ps h.1,
)

-- an item is no more than the sum
pub each_summed : {A : Type 0} (f : A → ℕ) (xs : List A) (n : ℕ) → sum_by f xs ≤ n
    → AllByRecursion (λ x. f x ≤ n) xs
each_summed f [] n h = tt
each_summed f (x ∷ xs) n h = let c = sum_by-cons f x xs in
    (omega (arith, c, h), each_summed f xs n (omega (arith, c, h)))

first_sends : (n : ℕ) (x : Exit) → IsFirstExit x → SendsAtMost n x × LandingsAtMost n x
first_sends n (Goto b) h = (tt, tt)
first_sends n (Branch t a b) h = (tt, tt)
first_sends n (Call r f ts back) h = (tt, tt)
first_sends n (Return t) h = (tt, tt)
first_sends n (Send t ts ls) h = absurd h
first_sends n Stop h = (tt, tt)

three : (z : Sizes) → z.values ≡ 0 → z.landings ≡ 0 → (ss : List Spot)
    → AllByRecursion (λ s. length s.block.ops ≤ z.ops) ss
    → AllByRecursion (λ s. block_nodes s.block ≤ z.nodes) ss → AllByRecursion (λ s. IsFirstExit s.block.exit)
    ss → AllByRecursion (λ s. BlockWithin z s.block) ss
three z ev el [] h i e = tt
three z ev el (s ∷ ss) h i e = (
  record {
    ops = h.0;
    nodes = i.0;
    values = (first_sends z.values s.block.exit e.0).0;
    landings = (first_sends z.landings s.block.exit e.0).1;
  },
  three z ev el ss h.1 i.1 e.1,
)

-- what holds at each place holds of all
all_at : (P : Spot → Type 0) (xs : List Spot) → ((k : ℕ) → k < length xs → P (or_else (nth xs k) no_spot))
    → AllByRecursion P xs
all_at P [] h = tt
all_at P (x ∷ xs) h = (h 0 (omega arith), all_at P xs (λ k lt. h (suc k) (omega (arith, lt))))

fewer_calls : (g : Graph) (live : List (List ℕ)) (ss : List Spot) → call_count (map (joined_spot g live) ss)
    ≤ call_count ss
fewer_calls g live [] = omega arith
fewer_calls g live (s ∷ ss) = by_short (short g s.block.exit) (fewer_calls g live ss)
  where
    by_short : (found : Option Short) → call_count (map (joined_spot g live) ss) ≤ call_count ss
        → (if calls (joined_if live s.vars s.block found).exit then 1 else 0) + call_count
        (map (joined_spot g live) ss) ≤ (if calls s.block.exit then 1 else 0) + call_count ss
    by_short None i = omega (arith, i)
    by_short (Some x) i = omega (arith, i)

-- an exit that calls is one that carries values
one_call : (x : Exit) → (if calls x then 1 else 0) ≤ jumps_of x
one_call (Goto b) = omega arith
one_call (Branch t a b) = omega arith
one_call (Call r f ts back) = omega arith
one_call (Return t) = omega arith
one_call (Send t ts ls) = omega arith
one_call Stop = omega arith

-- each call has a turn
calls_paid : (ss : List Spot)
    → AllByRecursion (λ s. sum_by acts_of s.block.ops + jumps_of s.block.exit ≤ sum_by turns_of s.block.ops)
    ss → call_count ss ≤ sum_by (λ s. sum_by turns_of s.block.ops) ss
calls_paid [] h = omega arith
calls_paid (s ∷ ss) h =
    let i = calls_paid ss h.1 in let o = one_call s.block.exit in let a = h.0 in
    let c = sum_by-cons (λ (t : Spot). sum_by turns_of t.block.ops) s ss in omega (arith, i, o, a, c)

module _ (parts : List Part) (l j : Graph) (L : Lowered parts l) (J : Joined l j) where
  abbrev z : Sizes
  z = lowered_sizes parts

  few_calls : call_count (spots l) ≤ most_statements
  unfolding spot_at
  few_calls =
      let c = calls_paid (spots l)
      (all_at (λ (x : Spot). sum_by acts_of x.block.ops + jumps_of x.block.exit ≤ sum_by turns_of
      x.block.ops) (spots l) (λ b lt. L.work.acts b)) in
      let t = L.small.turns in omega (arith, c, t)

  lowered_within : KeepsSizes (lowered_sizes parts) l
  lowered_within = let small = L.small in record {
    arrays = small.arrays;
    lengths = small.lengths;
    cells = (let e = cells_are l.arrays in let c = small.cells in omega (arith, e, c));
    count_procs = small.procs;
    procs = both_within (lowered_sizes parts) l.procs small.params small.vars;
    count_blocks = small.blocks;
    blocks = three (lowered_sizes parts) refl refl (spots l)
        (each_summed (λ (x : Spot). length x.block.ops) (spots l) z.ops small.ops)
        (each_summed (λ (x : Spot). block_nodes x.block) (spots l) z.nodes small.nodes) L.form.exits;
    calls = few_calls;
  }

  block_within : (b : ℕ) → BlockWithin z (block_at l b)
  unfolding spot_at no_spot
  block_within b = each_at (λ (x : Spot). BlockWithin z x.block) (spots l) no_spot lowered_within.blocks
      (record { ops = omega arith; nodes = omega arith; values = tt; landings = tt }) b

  sends_at : (b : ℕ) → SendsAtMost 0 (block_at j b).exit × LandingsAtMost 0 (block_at j b).exit
  sends_at b = elim (J.short.others b) [
    | inl same ↦ subst (λ (x : Block). SendsAtMost 0 x.exit × LandingsAtMost 0 x.exit) (sym same)
        ((block_within b).values, (block_within b).landings)
    | inr new ↦ subst (λ (x : Exit). SendsAtMost 0 x × LandingsAtMost 0 x) (sym new.goes) (tt, tt)
  ]

  joined_block_within : (b : ℕ) → BlockWithin (joined_sizes z) (block_at j b)
  joined_block_within b =
      let w = block_within b in let o = J.sizes.ops b in let m = J.sizes.nodes b in
      record {
        ops = (let h = w.ops in omega (arith, h, o));
        nodes = (let h = w.nodes in omega (arith, h, m));
        values = (sends_at b).0;
        landings = (sends_at b).1;
      }

  pub joined_within : KeepsSizes (joined_sizes (lowered_sizes parts)) j
  unfolding spot_at
  joined_within =
      let w = lowered_within in
      let arrays : j.arrays ≡ l.arrays = ap (λ (g : Graph). g.arrays) J.is in
      let procs : j.procs ≡ map (joined_proc l J.sets) l.procs =
      ap (λ (g : Graph). g.procs) J.is in
      let count : length j.procs ≡ length l.procs = ap length procs ∙ map_count (joined_proc l J.sets)
      l.procs in
      let blocks : length (spots j) ≡ length (spots l) = J.sizes.count in
      let calls : call_count (spots j) ≡ call_count (map (joined_spot l J.sets) (spots l)) =
      ap (λ (g : Graph). call_count (spots g)) J.is ∙ ap call_count
      (spots_are l J.sets) in
      let fewer = fewer_calls l J.sets (spots l) in
      record {
        arrays = subst (λ (xs : List GraphArray). length xs ≤ z.arrays) (sym arrays) w.arrays;
        lengths = subst (λ (xs : List GraphArray). AllByRecursion (λ a. a.length ≤ z.length) xs) (sym arrays)
            w.lengths;
        cells = subst (λ (xs : List GraphArray). cell_count xs ≤ z.cells) (sym arrays) w.cells;
        count_procs = (let c = w.count_procs in omega (arith, count, c));
        procs = subst (λ (ps : List GraphProc). AllByRecursion (ProcWithin (joined_sizes z)) ps) (sym procs)
            (more_within l J.sets z l.procs w.procs);
        count_blocks = (let c = w.count_blocks in omega (arith, blocks, c));
        blocks = all_at (λ (x : Spot). BlockWithin (joined_sizes z) x.block) (spots j)
            (λ b lt. joined_block_within b);
        calls = (let c = w.calls in omega (arith, calls, fewer, c));
      }

-- what is kept, and the last graph, keep their bounds
module _ (j k s : Graph) (needed live : List (List ℕ)) (cut : Cut) (P : LastGraphs j k s needed live cut)
    (z : Sizes) (within : KeepsSizes z j) where
  pub kept_within : KeepsSizes z k
  kept_within = P.keeping.sizes z within

  pub last_within : KeepsSizes (spelled_sizes z) s
  last_within = P.spelling.sizes z kept_within
