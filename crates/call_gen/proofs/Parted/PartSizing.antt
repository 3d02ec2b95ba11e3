-- A closed part of a graph keeps its bounds.
use Rattle.std.proofs.Common.{ℕ, suc, ◌+◌, ◌≡◌, ◌≤◌, Bool, true, List, [], ◌∷◌, length, ap, Some, arith}
use Rattle.std.specs.List.{AllByRecursion}
use Rattle.cfg_core.specs.Graph.{Exit, GraphProc, Graph, Spot, spots, spot_at, block_at}
use Rattle.cfg_core.specs.Rules.{calls, IsGraph}
use Rattle.cfg_core.specs.Weights.{exit_nodes}
use Rattle.call_gen.specs.Keeps.{HasNoSend, SendsAtMost}
use Rattle.call_gen.specs.Sizes.{call_count, Sizes, LandingsAtMost, BlockWithin, ProcWithin, KeepsSizes}
use Rattle.call_gen.specs.Part.{part_procs, keeps, number, name, part}
use Rattle.call_gen.proofs.Parted.PartPlaces.{before_most, part_spot, part_spots}
use Rattle.call_gen.proofs.Parted.PartWalk.{Closed, spots_are, procs_are, spot_is}
use Rattle.call_gen.proofs.Parted.PartRules.{every}
use Rattle.ws_words.specs.Items.{nth}

module _ (keep : ℕ → Bool) (named : Exit → Exit) (home : ℕ → ℕ) (same : (x : Exit)
    → calls (named x) ≡ calls x) where
  fewer_spots : (b : ℕ) (ss : List Spot) → length (part_spots keep named home b ss) ≤ length ss
  fewer_spots b [] = omega arith
  fewer_spots b (s ∷ ss) = grind (arith, part_spots, part_spot, fewer_spots (suc b) ss)

  fewer_calls : (b : ℕ) (ss : List Spot) → call_count (part_spots keep named home b ss) ≤ call_count ss
  fewer_calls b [] = omega arith
  fewer_calls b (s ∷ ss) = grind (arith, part_spots, part_spot, fewer_calls (suc b) ss)

  procs_within : (z : Sizes) (b : ℕ) (ps : List GraphProc) → AllByRecursion (ProcWithin z) ps
      → AllByRecursion (ProcWithin z) (part_procs keep named b ps)
  procs_within z b [] i = tt
  procs_within z b (p ∷ ps) i = grind (arith, procs_within z (b + length p.blocks) ps i.1)

module _ (g : Graph) (keep : ℕ → Bool) (rules : IsGraph g) (C : Closed g keep) (no_send : HasNoSend g)
    (z : Sizes) (W : KeepsSizes z g) where
  abbrev h : Graph
  h = part g keep

  abbrev named : Exit → Exit
  named = name g keep

  calls_same : (x : Exit) → calls (named x) ≡ calls x
  calls_same x = grind arith

  exit_few : (x : Exit) → exit_nodes (named x) ≤ exit_nodes x
  exit_few x = grind arith

  none_sent : (x : Exit) → SendsAtMost z.values (named x) × LandingsAtMost z.landings (named x)
  none_sent x = grind arith

  at_nth : (P : Spot → Type 0) (xs : List Spot) → AllByRecursion P xs → (k : ℕ) (x : Spot) → nth xs k ≡ Some x
      → P x
  at_nth P (y ∷ xs) i (suc k) x e = at_nth P xs i.1 k x e
  at_nth P xs i k x e = grind arith

  within : (b : ℕ) → keep b ≡ true → BlockWithin z (part_spot keep named (number g keep) (spot_at g b)).block
  within b k =
      grind (
        arith,
        at_nth,
        spot_is g b (C.there b k),
        exit_few (block_at g b).exit,
        none_sent (block_at g b).exit,
      )

  pub is_within : KeepsSizes z h
  unfolding part
  is_within = record {
    arrays = W.arrays;
    lengths = W.lengths;
    cells = W.cells;
    count_procs =
        omega (arith, procs_are g keep rules C, before_most (keeps g keep) (length g.procs), W.count_procs);
    procs = grind (arith, procs_within, calls_same);
    count_blocks =
        omega (
          arith,
          ap length (spots_are g keep rules C),
          fewer_spots keep named (number g keep) calls_same 0 (spots g),
          W.count_blocks,
        );
    blocks = every g keep rules C no_send (λ s. BlockWithin z s.block) within;
    calls =
        omega (
          arith,
          ap call_count (spots_are g keep rules C),
          fewer_calls keep named (number g keep) calls_same 0 (spots g),
          W.calls,
        );
  }
