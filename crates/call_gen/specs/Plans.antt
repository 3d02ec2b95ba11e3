-- Serves the code and its proof alone: no public contract cites it.
-- The numbers that the spelled graph is made from.
use Rattle.std.specs.Prelude.{◌≡◌, ℕ, ◌+◌, ◌*◌, ◌<◌, ◌^◌, true, false, List, length, map, slice_index}
use Rattle.std.specs.Prelude.{slice_index_or}
use Rattle.cfg_core.specs.Graph.{Graph, spots, block_at}
use Rattle.cfg_core.specs.Tables.{graph_in}
use Rattle.cfg_core.specs.View as view
use Rattle.call_gen.specs.Spelled.{callee_is, is_called, moved, address, first_cell, cells_in_all}
use Rattle.call_gen.specs.declared.plan.CallPlan.{CallPlan}

-- the numbers of the spelled graph's blocks, procedures and arrays have 32 bits
pub record Few (g : Graph) : Type 0 where
  pub blocks : 2 * length (spots g) + length g.procs < 2 ^ 32
  pub arrays : length g.arrays + 193 < 2 ^ 32

-- how many of the first b blocks call each procedure
pub record Tallied (g : Graph) (counts : List ℕ) (b : ℕ) : Type 0 where
  pub count : length counts ≡ length g.procs
  pub each : (f : ℕ) → f < length g.procs → slice_index counts f ≡ address g f b

-- the number is the place of block b's call among those of its callee
abbrev pub CallPlaced : Graph → ℕ → ℕ → Type 0
CallPlaced g b n = (f : ℕ) → f < length g.procs → callee_is (block_at g b).exit f ≡ true → n ≡ address g f b

pub record PlanIs (plan : CallPlan) : Type 0 where
  pub few : Few (view.graph (graph_in plan.table))
  pub homes : plan.homes.items ≡ map (λ s. s.home) (spots (view.graph (graph_in plan.table)))
  pub count : length plan.places.items ≡ length (spots (view.graph (graph_in plan.table)))
  pub places : (b : ℕ) → b < length (spots (view.graph (graph_in plan.table)))
      → slice_index plan.places.items b ≡ moved (view.graph (graph_in plan.table)) b
  pub addresses : (b : ℕ) → b < length (spots (view.graph (graph_in plan.table)))
      → CallPlaced (view.graph (graph_in plan.table)) b (slice_index plan.addresses.items b)
  pub called : (f : ℕ) → f < length (view.graph (graph_in plan.table)).procs
      → slice_index_or plan.called.items f false ≡ is_called (view.graph (graph_in plan.table)) f
  pub cells : (f : ℕ) → f < length (view.graph (graph_in plan.table)).procs
      → slice_index plan.cells.items f ≡ first_cell (view.graph (graph_in plan.table)) f
  pub total : plan.total ≡ cells_in_all (view.graph (graph_in plan.table))
  pub some : plan.total < 2 ^ 32
