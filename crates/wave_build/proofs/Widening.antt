-- How large the inlined graph is: no larger but for operations, nodes and variables.
use Rattle.std.proofs.Common.{ℕ, ◌+◌, ◌≡◌, ◌≤◌, max, if◌then◌else◌, List, [], ◌∷◌, length, map, Option, Some}
use Rattle.std.proofs.Common.{None}
use Rattle.std.proofs.Common.{sym, ap, subst, arith}
use Rattle.std.specs.List.{AllByRecursion}
use Rattle.cfg_core.specs.Graph.{Exit, GraphProc, Graph, Spot, spots}
use Rattle.cfg_core.specs.Rules.{calls}
use Rattle.cfg_core.specs.Weights.{block_nodes, ops_in, nodes_in}
use Rattle.ws_words.proofs.Lists.{length_map as map_count}
use Rattle.cfg_inline.specs.Inlined.{Plan, Site, site, inlined_if, inlined_proc, inlined}
use Rattle.cfg_inline.proofs.Placing.{inlined_spot, spots_are, spots_count}
use Rattle.call_gen.specs.Keeps.{SendsAtMost}
use Rattle.call_gen.specs.Sizes.{call_count, LandingsAtMost, BlockWithin, ProcWithin, KeepsSizes}
use Rattle.wave_build.specs.Small.{sizes_with}
use Rattle.wave_build.specs.Opened.{widest_from}
use Rattle.wave_build.proofs.Sizing.{each_summed}

pub widest_few : (n m : ℕ) (ps : List GraphProc) → m ≤ n → AllByRecursion (λ p. p.vars ≤ n) ps
    → widest_from m ps ≤ n
widest_few n m [] le h = le
widest_few n m (p ∷ ps) le h = widest_few n (max p.vars m) ps (let v = h.0 in omega (arith, v, le)) h.1

module _ (plan : Plan) (g : Graph) (vars ops nodes : ℕ) where
  abbrev h : Graph
  h = inlined plan g

  abbrev more_ops : ℕ
  more_ops = ops_in (inlined plan g)

  abbrev more_nodes : ℕ
  more_nodes = nodes_in (inlined plan g)

  fewer_calls : (ss : List Spot) → call_count (map (inlined_spot plan g) ss) ≤ call_count ss
  fewer_calls [] = omega arith
  fewer_calls (s ∷ ss) = by_found (site plan g s.block.exit) (fewer_calls ss)
    where
      by_found : (found : Option Site) → call_count (map (inlined_spot plan g) ss) ≤ call_count ss
          → (if calls (inlined_if s.vars s.block found).exit then 1 else 0)
          + call_count (map (inlined_spot plan g) ss)
          ≤ (if calls s.block.exit then 1 else 0) + call_count ss
      by_found None i = omega (arith, i)
      by_found (Some x) i = omega (arith, i)

  abbrev SendsFew : Exit → Type 0
  SendsFew x = SendsAtMost 0 x × LandingsAtMost 0 x

  sends_few : (ss : List Spot) → AllByRecursion (λ s. BlockWithin (sizes_with vars ops nodes) s.block) ss
      → AllByRecursion (λ s. SendsFew s.block.exit) (map (inlined_spot plan g) ss)
  sends_few [] h = tt
  sends_few (s ∷ ss) h = (by_found (site plan g s.block.exit), sends_few ss h.1)
    where
      by_found : (found : Option Site) → SendsFew (inlined_if s.vars s.block found).exit
      by_found None = (h.0.values, h.0.landings)
      by_found (Some x) = (tt, tt)

  blocks_within : (ss : List Spot) → AllByRecursion (λ s. length s.block.ops ≤ more_ops) ss
      → AllByRecursion (λ s. block_nodes s.block ≤ more_nodes) ss
      → AllByRecursion (λ s. SendsFew s.block.exit) ss
      → AllByRecursion (λ s. BlockWithin (sizes_with (vars + plan.room) more_ops more_nodes) s.block) ss
  blocks_within [] h i j = tt
  blocks_within (s ∷ ss) h i j = (
    record { ops = h.0; nodes = i.0; values = j.0.0; landings = j.0.1 },
    blocks_within ss h.1 i.1 j.1,
  )

  procs_within : (ps : List GraphProc) → AllByRecursion (ProcWithin (sizes_with vars ops nodes)) ps
      → AllByRecursion (ProcWithin (sizes_with (vars + plan.room) more_ops more_nodes))
      (map (inlined_proc plan g) ps)
  procs_within [] h = tt
  procs_within (p ∷ ps) h = (
    record { params = h.0.params; vars = (let v = h.0.vars in omega (arith, v)) },
    procs_within ps h.1,
  )

  pub inlined_within : KeepsSizes (sizes_with vars ops nodes) g
      → KeepsSizes (sizes_with (vars + plan.room) (ops_in (inlined plan g)) (nodes_in (inlined plan g)))
      (inlined plan g)
  inlined_within w =
      let count = map_count (inlined_proc plan g) g.procs in
      let blocks = spots_count plan g in
      let calls : call_count (spots h) ≡ call_count (map (inlined_spot plan g) (spots g)) =
      ap call_count (spots_are plan g) in
      let fewer = fewer_calls (spots g) in
      record {
        arrays = w.arrays;
        lengths = w.lengths;
        cells = w.cells;
        count_procs = (let c = w.count_procs in omega (arith, count, c));
        procs = procs_within g.procs w.procs;
        count_blocks = (let c = w.count_blocks in omega (arith, blocks, c));
        blocks = blocks_within (spots h)
            (each_summed (λ (x : Spot). length x.block.ops) (spots h) more_ops (omega arith))
            (each_summed (λ (x : Spot). block_nodes x.block) (spots h) more_nodes (omega arith))
            (subst (λ (ss : List Spot). AllByRecursion (λ s. SendsFew s.block.exit) ss)
            (sym (spots_are plan g)) (sends_few (spots g) w.blocks));
        calls = (let c = w.calls in omega (arith, calls, fewer, c));
      }
