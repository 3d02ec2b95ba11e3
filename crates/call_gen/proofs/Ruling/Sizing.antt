-- The spelled graph keeps its bounds.
use Rattle.std.proofs.Common.{ℕ, zero, suc, ◌+◌, ◌*◌, ◌/◌, ◌≡◌, ◌<◌, ◌≤◌, min, true, false, if◌then◌else◌}
use Rattle.std.proofs.Common.{List, [], ◌∷◌, ◌++◌, length, replicate, refl, ap, Option, Some, arith}
use Rattle.std.specs.List.{AllByRecursion, filter, sum_by}
use Rattle.std.proofs.lemmas.List.{length-append, length-map}
use Rattle.std.proofs.lemmas.List.Sums.{sum_by-append}
use Rattle.std.proofs.Math.Nat.{mul-le-mul_right}
use Rattle.cfg_core.specs.Graph.{Exit, Call, Return, GraphArray, GraphProc, Graph, Spot, spots, no_spot}
use Rattle.cfg_core.specs.Graph.{no_proc, spot_at, block_at, proc_at}
use Rattle.cfg_core.specs.Rules.{calls}
use Rattle.cfg_core.specs.Weights.{op_nodes, exit_nodes}
use Rattle.call_gen.specs.Spelled.{count_of, is_call, is_saved, is_unset, own_cells, first_cell, cells_in_all}
use Rattle.call_gen.specs.Spelled.{hidden_arrays, landings, landings_from, below, saved, save, load, saves}
use Rattle.call_gen.specs.Spelled.{left, clear, spelled_procs, spelled}
use Rattle.call_gen.specs.Keeps.{NoCall, ParamsAtMost}
use Rattle.call_gen.specs.Sizes.{call_count, cell_count, Sizes, LandingsAtMost, BlockWithin, ProcWithin}
use Rattle.call_gen.specs.Sizes.{KeepsSizes, larger, most_hidden_arrays, hidden_cells, spelled_sizes}
use Rattle.call_gen.proofs.Spelled.Facts.{Given, Placed}
use Rattle.call_gen.proofs.Spelled.Slots.{below_count}
use Rattle.call_gen.proofs.Ruling.Charging.{terms_push, each_sum}
use Rattle.call_gen.proofs.Spelled.Placing.{new_count}
use Rattle.call_gen.proofs.Spelled.Places.{all_placed}
use Rattle.call_gen.proofs.Parted.PartWalk.{spot_is}
use Rattle.call_gen.proofs.Ruling.Cycles.{Sort, is_door, is_plain, is_point, is_none, every_spot}
use Rattle.call_gen.proofs.Ruling.Crossing.{few_at}
use Rattle.call_gen.proofs.Ruling.Ruled.{arrays_more, no_call}
use Rattle.ws_words.proofs.Lists.{all_append as all_both, all_have, filter_few}
use Rattle.ws_words.specs.Items.{nth, or_else}

calls_counted : (ss : List Spot) → call_count ss ≡ count_of is_call ss
calls_counted [] = refl
calls_counted (s ∷ ss) = ap (λ n. (if calls s.block.exit then 1 else 0) + n) (calls_counted ss)

-- no more landings than calls
few_landings : (f b k : ℕ) (ss : List Spot) → length (landings_from f b k ss) ≤ call_count ss
few_landings f b k [] = omega arith
few_landings f b k (s ∷ ss) = grind (arith, few_landings f (suc b) ((if is_call s then 1 else 0) + k) ss)

some_call : (ss : List Spot) (i : ℕ) (s : Spot) → nth ss i ≡ Some s → calls s.block.exit ≡ true
    → 1 ≤ call_count ss
some_call (x ∷ ss) (suc i) s e c = omega (arith, some_call ss i s e c)
some_call ss i s e c = grind arith

cells_both : (xs ys : List GraphArray) → cell_count (xs ++ ys) ≡ cell_count xs + cell_count ys
cells_both [] ys = omega arith
cells_both (x ∷ xs) ys = omega (arith, cells_both xs ys)

equal_cells : (n : ℕ) (a : GraphArray) → cell_count (replicate n a) ≡ n * a.length
equal_cells zero a = omega arith
equal_cells (suc n) a = grind (arith, equal_cells n a)

equal_all : (P : GraphArray → Type 0) (n : ℕ) (a : GraphArray) → P a → AllByRecursion P (replicate n a)
equal_all P zero a p = tt
equal_all P (suc n) a p = (p, equal_all P n a p)

larger_left : (m n : ℕ) → m ≤ larger m n
larger_left m n = grind arith

larger_right : (m n : ℕ) → n ≤ larger m n
larger_right m n = grind arith

-- rows of equal length hold few cells beyond those that are wanted
rows_few : (c : ℕ) → min 192 c * suc (c / 192) ≤ c + 192
rows_few c = grind (arith, mul-le-mul_right)

module _ (g : Graph) (live : List (List ℕ)) (G : Given g live) (z : Sizes) (W : KeepsSizes z g) where
  abbrev pub F : Placed g live
  F = all_placed g live G.rules

  abbrev h : Graph
  h = spelled g live

  few_vars : (f : ℕ) → f < length g.procs → ProcWithin z (proc_at g f)
  unfolding proc_at
  few_vars f lt = each g.procs f W.procs lt
    where
      each : (ps : List GraphProc) (f : ℕ) → AllByRecursion (ProcWithin z) ps → f < length ps
          → ProcWithin z (or_else (nth ps f) no_proc)
      each (p ∷ ps) (suc f) i lt = each ps f i.1 (omega arith)
      each ps f i lt = grind arith

  -- hidden cells
  own_few : (f : ℕ) → f < length g.procs → own_cells g f ≤ suc z.vars
  unfolding own_cells
  own_few f lt = grind (arith, few_vars)

  first_few : (f : ℕ) → f ≤ length g.procs → first_cell g f ≤ f * suc z.vars
  first_few zero le = omega arith
  first_few (suc f) le = grind (arith, own_few, first_few f (omega arith))

  cells_few : cells_in_all g ≤ hidden_cells z
  unfolding cells_in_all
  cells_few = grind (arith, mul-le-mul_right, first_few)

  -- the bounds of a block that has at most so many operations and nodes, and no Send
  vars_at : (b : ℕ) → b < length (spots g) → (spot_at g b).vars ≤ z.vars
  vars_at b lt = omega (arith, (F.home b lt).1, (few_vars (spot_at g b).home (F.home b lt).0).vars)

  saved_few : (home v : ℕ) (r : Option ℕ) (back : ℕ) → length (saved g live home v r back) ≤ suc v
  saved_few home v r back =
      grind (arith, filter_few (is_saved g live home v r back) (below (suc v)), below_count (suc v))

  saves_few : (home v : ℕ) (x : Exit) → (length (saves g live home v x) ≤ suc v)
      × (sum_by op_nodes (saves g live home v x) ≤ 2 * suc v)
  saves_few home v (Call r f ts back) =
      let s = saved_few home v r back in (
        omega (arith, length-map (saved g live home v r back) (save g home), s),
        omega (arith, each_sum op_nodes (save g home) 2 (saved g live home v r back) (λ x. refl), s),
      )
  saves_few home v x = (omega arith, omega arith)

  left_few : (home v b : ℕ) (x : Exit) → exit_nodes (left g home v b x) ≤ exit_nodes x + 2
  left_few home v b x = grind (arith, terms_push)

  landings_few : (f : ℕ) → length (landings g f) ≤ z.calls
  unfolding landings
  landings_few f = omega (arith, few_landings f 0 0 (spots g), W.calls)

  lands_few : (b : ℕ) → b < length (spots g) → (x : Exit) → (block_at g b).exit ≡ x
      → LandingsAtMost z.calls (left g (spot_at g b).home (spot_at g b).vars b x)
  lands_few b lt (Call r f ts back) e =
      omega (arith, some_call (spots g) b (spot_at g b) (spot_is g b lt) (ap calls e), W.calls)
  lands_few b lt (Return t) e = grind (arith, landings_few)
  lands_few b lt x e = tt

  params_few : ParamsAtMost z.params g
  params_few f lt = (few_vars f lt).params

  old_block : (b : ℕ) → b < length (spots g) → BlockWithin z (block_at g b)
  old_block b lt = at_nth (λ (s : Spot). BlockWithin z s.block) (spots g) W.blocks b (spot_at g b)
      (spot_is g b lt)
    where
      at_nth : (P : Spot → Type 0) (xs : List Spot) → AllByRecursion P xs → (k : ℕ) (x : Spot)
          → nth xs k ≡ Some x → P x
      at_nth P (y ∷ xs) i (suc k) x e = at_nth P xs i.1 k x e
      at_nth P xs i k x e = grind arith

  within : (s : Spot) → Sort g live G F s → BlockWithin (spelled_sizes z) s.block
  unfolding no_spot
  within _ (is_door f lt) =
      let p = proc_at g f in
      let xs = filter (is_unset g live f p.params) (below p.vars) in
      let few : length xs ≤ p.vars = grind (arith, filter_few, below_count) in
      let v = (few_vars f lt).vars in
      record {
        ops = omega (arith, length-map xs clear, few, v);
        nodes = omega (arith, each_sum op_nodes clear 1 xs (λ x. refl), few, v);
        values = tt;
        landings = tt;
      }
  within _ (is_plain b lt) =
      let o = old_block b lt in
      let s = saves_few (spot_at g b).home (spot_at g b).vars (block_at g b).exit in
      let v = vars_at b lt in
      record {
        ops = grind (arith, length-append);
        nodes = grind (arith, sum_by-append, left_few);
        values = few_at g live G z.params params_few _ (is_plain b lt);
        landings = lands_few b lt (block_at g b).exit refl;
      }
  within _ (is_point b r f ts back lt e) =
      let xs = saved g live (spot_at g b).home (spot_at g b).vars r back in
      let s = saved_few (spot_at g b).home (spot_at g b).vars r back in
      let v = vars_at b lt in
      record {
        ops = omega (arith, length-map xs (load g (spot_at g b).home), s, v);
        nodes = omega (arith, each_sum op_nodes (load g (spot_at g b).home) 2 xs (λ x. refl), s, v);
        values = tt;
        landings = tt;
      }
  within _ is_none = record { ops = omega arith; nodes = omega arith; values = tt; landings = tt }

  none_call : (s : Spot) → NoCall s.block.exit → calls s.block.exit ≡ false
  none_call s n = grind arith

  no_calls : (ss : List Spot) → AllByRecursion (λ s. calls s.block.exit ≡ false) ss → call_count ss ≡ 0
  no_calls [] i = refl
  no_calls (s ∷ ss) i = grind (arith, no_calls ss i.1)

  procs_within : (f b : ℕ) (ps : List GraphProc) → AllByRecursion (ProcWithin z) ps
      → AllByRecursion (ProcWithin (spelled_sizes z)) (spelled_procs g live f b ps)
  procs_within f b [] i = tt
  procs_within f b (p ∷ ps) i = grind (arith, procs_within (suc f) (b + length p.blocks) ps i.1)

  row_few : suc (cells_in_all g / 192) ≤ larger z.length (suc (hidden_cells z / most_hidden_arrays))
  row_few = omega (arith, cells_few, larger_right z.length (suc (hidden_cells z / most_hidden_arrays)))

  pub is_within : KeepsSizes (spelled_sizes z) h
  unfolding hidden_arrays
  is_within = record {
    arrays = omega (arith, arrays_more g live G, W.arrays);
    lengths = all_both (λ (a : GraphArray). a.length ≤ (spelled_sizes z).length) g.arrays (hidden_arrays g)
        (grind (arith, all_have, larger_left)) (equal_all (λ (a : GraphArray). a.length ≤ (spelled_sizes
        z).length) (min 192 (cells_in_all g)) _ row_few);
    cells = grind (arith, cells_both, equal_cells, rows_few, cells_few);
    count_procs = omega (arith, F.count, W.count_procs);
    procs = procs_within 0 0 g.procs W.procs;
    count_blocks = grind (arith, new_count, calls_counted);
    blocks = all_have (Sort g live G F) (λ s. BlockWithin (spelled_sizes z) s.block) (spots h) within
        (every_spot g live G F);
    calls =
        omega (
          arith,
          no_calls (spots h) (all_have (Sort g live G F) (λ s. calls s.block.exit ≡ false) (spots h) (λ s k.
              none_call s (no_call g live G s k)) (every_spot g live G F)),
        );
  }
