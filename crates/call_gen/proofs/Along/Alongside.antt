-- The walk of the spelled graph goes along with that of the given graph.
use Rattle.std.proofs.Common.{ℕ, zero, suc, ◌+◌, ◌-◌, ◌≡◌, ◌<◌, List, [], ◌∷◌, ◌++◌, length, replicate, refl}
use Rattle.std.proofs.Common.{ap, ◌∙◌, subst, arith}
use Rattle.std.specs.List.{sum_by}
use Rattle.std.proofs.lemmas.List.{length-replicate}
use Rattle.std.proofs.lemmas.List.Sums.{sum_by-append}
use Rattle.ws_words.specs.Outside.{ProcState, World, row, zeros, opening_out}
use Rattle.cfg_core.specs.Graph.{Exit, Goto, Branch, Call, Return, Send, Stop, Graph, GraphArray, spots}
use Rattle.cfg_core.specs.Graph.{spot_at, block_at, proc_at, entry_of}
use Rattle.cfg_core.specs.Walk.{OpsOutcome, Done, Out, and_then, run_ops, Frame, Config, At, Over, Going}
use Rattle.cfg_core.specs.Walk.{leave, passed, step, walk, cells_of, opening, IsOver}
use Rattle.cfg_core.specs.Weights.{block_left, path, first_block, WalksWeigh}
use Rattle.cfg_core.proofs.Paired.{walk_add, Match}
use Rattle.cfg_core.proofs.Total.{comes}
use Rattle.live_vars.specs.Live.{Live}
use Rattle.call_gen.specs.Spelled.{moved, door, hidden_arrays, saves, left, spelled}
use Rattle.call_gen.specs.Keeps.{NoSend}
use Rattle.call_gen.specs.Charged.{beside, charged}
use Rattle.call_gen.proofs.Along.Paths.{path_add, path_most, leaves_one}
use Rattle.call_gen.proofs.Along.Visible.{Same}
use Rattle.call_gen.proofs.Along.Agreeing.{States, Outcomes, ops_same}
use Rattle.call_gen.proofs.Spelled.Slots.{Roomy}
use Rattle.call_gen.proofs.Spelled.Facts.{Given, Placed, Celled}
use Rattle.call_gen.proofs.Along.Standing.{total, rows, size, Stack, Alike, Relates, places, owed, Reaches}
use Rattle.call_gen.proofs.Along.Standing.{reaches_by, reaches_more, reaches_past, reaches_later, left_few}
use Rattle.call_gen.proofs.Along.Leaves.{goes_on, branches}
use Rattle.call_gen.proofs.Along.Returning.{returns}
use Rattle.call_gen.proofs.Along.Calling.{calls, at_door, goes_in}
use Rattle.ws_words.proofs.Numbers.{zero_at, zeros_count}
use Rattle.cfg_core.proofs.Spots.{numbers_at}
use Rattle.cfg_core.proofs.Outcomes.{run_append}
use Rattle.live_vars.proofs.Needed.{After, needed_is_live}

module _ (g : Graph) (live : List (List ℕ)) (G : Given g live) (F : Placed g live) (C : Celled g)
    (w : ℕ → ℕ) where
  abbrev h : Graph
  h = spelled g live

  -- what a block of g is charged with, and what is owed
  abbrev weight : ℕ → ℕ
  weight b = charged g (places g live) w b

  abbrev owes : List ℕ → ℕ
  owes callers = owed g live w callers

  module _ (b : ℕ) (there : b < length (spots g)) (frames : List Frame) (callers : List ℕ) (extra : ℕ)
      (hidden : List (List ℕ)) (roomy : Roomy (total g live) hidden)
      (stack : Stack g live hidden (spot_at g b).home extra frames callers) where
    abbrev v : ℕ
    v = (spot_at g b).vars

    abbrev rest : Exit → OpsOutcome → Config
    rest x o = passed h (and_then o (run_ops (saves g live (spot_at g b).home v x)))
        (left g (spot_at g b).home v b x) []

    abbrev budget : Exit → ℕ
    budget x = beside w (places g live) b x + owes callers

    by_exit : (x : Exit) → (block_at g b).exit ≡ x → (s t : ProcState) (k : ℕ)
        → States g (rows g live) (size g live) v extra hidden (After g x) s t
        → Reaches g live w (budget x) (leave g x s frames k) (rest x (Done t k))
    by_exit (Goto c) is s t k st = reaches_more g live w (owes callers) _ _ _ (omega arith)
        (goes_on g live G F C b there w c is s t frames callers k extra hidden roomy stack st)
    by_exit (Branch term c d) is s t k st = reaches_more g live w (owes callers) _ _ _ (omega arith)
        (branches g live G F C b there w term c d is s t frames callers k extra hidden roomy stack st)
    by_exit (Call r f ts back) is s t k st = reaches_more g live w (w (door g f) + owes (b ∷ callers)) _ _ _
        (omega arith) (grind (arith, calls))
    by_exit (Return term) is s t k st = reaches_more g live w (owes callers) _ _ _ (omega arith)
        (returns g live G F C b there term is s t k extra hidden roomy st w frames callers stack)
    by_exit (Send term ts ls) is s t k st = absurd (subst NoSend is (G.no_send b))
    by_exit Stop is s t k st = record {
      blocks = 0;
      callers = callers;
      relates = grind arith;
      weigh = omega arith;
    }

    -- a block of g, with the same one of h and what stands beside it
    by_outcome : (o p : OpsOutcome) → Outcomes g (rows g live) (size g live) v extra hidden
        (After g (block_at g b).exit) o p → (s t : ProcState) (k j : ℕ)
        → step h (At (moved g b) t [] j) ≡ rest (block_at g b).exit p
        → Reaches g live w
        (sum_by weight (block_left (At b s frames k) (passed g o (block_at g b).exit frames)) + owes
        callers) (passed g o (block_at g b).exit frames) (At (moved g b) t [] j)
    by_outcome (Done u i) (Done x l) e s t k j same =
        let left = left_few g live w (moved g b) t [] j (step h (At (moved g b) t [] j)) in
        let one = leaves_one g weight b s frames k (block_at g b).exit u frames i in
        reaches_past g live w (budget (block_at g b).exit) _ (leave g (block_at g b).exit u frames i)
        (At (moved g b) t [] j) (omega arith)
        (reaches_by g live w _ _ _ _ same
        (subst (λ n. Reaches g live w (budget (block_at g b).exit)
        (leave g (block_at g b).exit u frames i) (rest (block_at g b).exit (Done x n))) e.0
        (by_exit (block_at g b).exit refl u x i e.1)))
    by_outcome (Out o) (Out p) e s t k j same =
        let none : sum_by w (block_left (At (moved g b) t [] j) (step h (At (moved g b) t [] j))) ≡ 0 =
        ap (λ (d : Config). sum_by w (block_left (At (moved g b) t [] j) d)) same in
        reaches_past g live w (owes callers) _ (Going o) (At (moved g b) t [] j) (omega arith)
        (reaches_by g live w _ _ _ _ same
        (record {
          blocks = 0;
          callers = callers;
          relates = record { hidden = hidden; same = e };
          weigh = omega arith;
        }))
    by_outcome o p e u t i j same = absurd e

    at_block : (s t : ProcState) (k : ℕ) → States g (rows g live) (size g live) v extra hidden (Live g b) s t
        → Reaches g live w (sum_by weight (block_left (At b s frames k) (step g (At b s frames k))) + owes
        callers) (step g (At b s frames k)) (At (moved g b) t [] k)
    at_block s t k st =
        let ops = (block_at g b).ops in
        let same = ops_same g (rows g live) (size g live) v extra hidden ops (After g (block_at g b).exit)
        (numbers_at g G.rules b).ops s t k (grind (arith, needed_is_live)) in
        by_outcome (run_ops ops s k) (run_ops ops t k) same s t k k (grind (arith, run_append))

  abbrev Passes : ℕ → ProcState → List Frame → ℕ → List ℕ → Config → Type 0
  Passes b s frames k callers d = Reaches g live w (sum_by weight (block_left (At b s frames k) (step g (At b
      s frames k))) + owes callers) (step g (At b s frames k)) d

  one_block : (b : ℕ) (s : ProcState) (frames : List Frame) (k : ℕ) (callers : List ℕ) (d : Config)
      → Relates g live callers (At b s frames k) d → Passes b s frames k callers d
  one_block b s frames k callers d r = grind (arith, at_block)

  along : (m : ℕ) (c d : Config) (callers : List ℕ) → Relates g live callers c d
      → Reaches g live w (sum_by weight (path g m c) + owes callers) (walk g m c) d
  along zero c d callers r = record { blocks = 0; callers = callers; relates = r; weigh = omega arith }
  along (suc m) (At b s frames k) d callers r =
      let c = At b s frames k in
      let one = one_block b s frames k callers d r in
      let more = along m (step g c) (walk h one.blocks d) one.callers one.relates in
      record {
        blocks = one.blocks + more.blocks;
        callers = more.callers;
        relates = rw (walk_add h one.blocks more.blocks d) more.relates;
        weigh = grind (arith, path_add, sum_by-append);
      }
  along (suc m) (Over o k) d callers r = along m (Over o k) d callers r
  along (suc m) (Going o) d callers r = along m (Going o) d callers r

  -- at the start
  cells_both : (xs ys : List GraphArray) → cells_of (xs ++ ys) ≡ cells_of xs ++ cells_of ys
  cells_both [] ys = refl
  cells_both (x ∷ xs) ys = ap (λ (zs : List (List ℕ)). zeros x.length ∷ zs) (cells_both xs ys)

  cells_count : (xs : List GraphArray) → length (cells_of xs) ≡ length xs
  cells_count [] = refl
  cells_count (x ∷ xs) = ap suc (cells_count xs)

  equal_rows : (n r : ℕ) (a : GraphArray) → r < length (cells_of (replicate n a))
      → length (row (cells_of (replicate n a)) r) ≡ a.length
  equal_rows (suc n) (suc r) a lt = equal_rows n r a (omega arith)
  equal_rows n r a lt = grind (arith, zeros_count)

  empty : List (List ℕ)
  empty = cells_of (hidden_arrays g)

  empty_roomy : Roomy (total g live) empty
  unfolding empty hidden_arrays
  empty_roomy = grind (arith, cells_count, length-replicate, rows, equal_rows)

  same_start : (world : World) → Same (length g.arrays) (rows g live) (size g live) empty
      (opening_out (cells_of g.arrays) world) (opening_out (cells_of h.arrays) world)
  unfolding empty
  same_start world = grind (arith, cells_both, cells_count)

  abbrev main : ℕ
  main = length g.procs - 1

  main_there : main < length g.procs
  main_there = omega arith

  opened : (world : World) (k : ℕ) → opening h world k ≡ At (door g main)
      (record { vars = zeros (suc (proc_at g main).vars); out = opening_out (cells_of h.arrays) world }) [] k
  opened world k = grind (arith, h, main, main_there)

  opens : (world : World) (k : ℕ) → Reaches g live w (w (door g main)) (opening g world k) (opening h world k)
  opens world k =
      let vf = (proc_at g main).vars in
      let out = opening_out (cells_of h.arrays) world in
      reaches_by g live w _ _ _ _ (opened world k) (reaches_more g live w (w (door g main) + 0) _ _ _ (omega
      arith) (reaches_later g live w 0 _ (door g main) _ _ _ (reaches_by g live w _ _ _ _
      (grind (arith, at_door, main_there)) (goes_in g live G F main main_there w (opening_out (cells_of
      g.arrays) world) out (zeros vf) (zeros (suc vf)) [] [] 0 k empty (zeros_count vf) (zeros_count (suc vf))
      (grind (arith, zero_at)) (λ x i. zero_at (suc vf) x) (zero_at (suc vf) vf) (same_start world)
      empty_roomy (omega arith)))))

  final : (callers : List ℕ) (c d : Config) → IsOver c → Relates g live callers c d → Match (Alike g live) c d
  final callers c d over r = grind arith

  -- where the first walk is after some blocks, from its start
  after_all : (world : World) (turns m : ℕ)
      → Reaches g live w (sum_by weight (path g m (opening g world turns)) + w (door g main))
      (walk g m (opening g world turns)) (opening h world turns)
  after_all world turns m =
      let first = opens world turns in
      let c = walk g m (opening g world turns) in
      let d = opening h world turns in
      let then_ = along m (opening g world turns) (walk h first.blocks d) first.callers first.relates in
      record {
        blocks = first.blocks + then_.blocks;
        callers = then_.callers;
        relates = grind (arith, walk_add);
        weigh = omega (arith, path_add h w first.blocks then_.blocks d, first.weigh, then_.weigh);
      }

  pub forth : (world : World) (turns m : ℕ) → IsOver (walk g m (opening g world turns))
      → (n : ℕ) × Match (Alike g live) (walk g m (opening g world turns)) (walk h n (opening h world turns))
  forth world turns m over = grind (arith, after_all world turns m, final)

  over_too : (callers : List ℕ) (c d : Config) → IsOver c → Relates g live callers c d → IsOver d
  over_too callers c d over r = grind arith

  pub first_is : first_block h ≡ door g main
  first_is = ap (λ n. entry_of h (n - 1)) F.count ∙ F.entry_is main main_there

  -- the blocks of the spelled graph are paid by those of the given graph
  pub weighs : (base pay : ℕ) → WalksWeigh g weight base pay → WalksWeigh h w (base + w (first_block h)) pay
  weighs base pay most world turns steps =
      let c : (m : ℕ) × IsOver (walk g m (opening g world turns)) = comes g G.rules _ _ _ turns in
      let r = after_all world turns c.0 in
      grind (arith, over_too, path_most, first_is)
