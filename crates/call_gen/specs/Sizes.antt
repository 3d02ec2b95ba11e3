-- How large a graph is.
use Rattle.std.specs.Prelude.{ℕ, suc, ◌+◌, ◌*◌, ◌/◌, ◌≤◌, nat_lt, List, [], ◌∷◌, length, if◌then◌else◌}
use Rattle.std.specs.List.{AllByRecursion}
use Rattle.cfg_core.specs.Graph.{Exit, Send, Block, GraphArray, GraphProc, Graph, Spot, spots}
use Rattle.cfg_core.specs.Rules.{calls}
use Rattle.cfg_core.specs.Weights.{block_nodes}
use Rattle.call_gen.specs.Keeps.{SendsAtMost}

-- how many blocks call
abbrev pub call_count : List Spot → ℕ
call_count [] = 0
call_count (s ∷ ss) = (if calls s.block.exit then 1 else 0) + call_count ss

-- the cells of all arrays
abbrev pub cell_count : List GraphArray → ℕ
cell_count [] = 0
cell_count (a ∷ arrays) = a.length + cell_count arrays

-- Bounds: arrays, cells of one array and of all, procedures, their parameters and variables, blocks,
-- operations and nodes of a block, blocks that call, values and landings of a Send.
pub record Sizes : Type 0 where
  pub arrays : ℕ
  pub length : ℕ
  pub cells : ℕ
  pub procs : ℕ
  pub params : ℕ
  pub vars : ℕ
  pub blocks : ℕ
  pub ops : ℕ
  pub nodes : ℕ
  pub calls : ℕ
  pub values : ℕ
  pub landings : ℕ

-- a Send has at most so many landings
abbrev pub LandingsAtMost : ℕ → Exit → Type 0
LandingsAtMost n (Send t ts ls) = length ls ≤ n
LandingsAtMost n _ = Unit {0}

pub record BlockWithin (z : Sizes) (b : Block) : Type 0 where
  pub ops : length b.ops ≤ z.ops
  pub nodes : block_nodes b ≤ z.nodes
  pub values : SendsAtMost z.values b.exit
  pub landings : LandingsAtMost z.landings b.exit

pub record ProcWithin (z : Sizes) (p : GraphProc) : Type 0 where
  pub params : p.params ≤ z.params
  pub vars : p.vars ≤ z.vars

-- the graph keeps these bounds
pub record KeepsSizes (z : Sizes) (g : Graph) : Type 0 where
  pub arrays : length g.arrays ≤ z.arrays
  pub lengths : AllByRecursion (λ a. a.length ≤ z.length) g.arrays
  pub cells : cell_count g.arrays ≤ z.cells
  pub count_procs : length g.procs ≤ z.procs
  pub procs : AllByRecursion (ProcWithin z) g.procs
  pub count_blocks : length (spots g) ≤ z.blocks
  pub blocks : AllByRecursion (λ s. BlockWithin z s.block) (spots g)
  pub calls : call_count (spots g) ≤ z.calls

abbrev pub larger : ℕ → ℕ → ℕ
larger m n = if nat_lt m n then n else m

-- hidden cells lie in at most so many arrays: with 64 arrays of a program these are 256
abbrev pub most_hidden_arrays : ℕ
most_hidden_arrays = 192

-- one hidden cell for each variable and one for the return address, in each procedure
abbrev pub hidden_cells : Sizes → ℕ
hidden_cells z = z.procs * suc z.vars

-- The bounds of a graph whose calls are spelled out: an entry block for each procedure and a return block
-- for each call; two nodes for each variable that is saved or loaded, and two for addresses; as many
-- landings as there are calls.
abbrev pub spelled_sizes : Sizes → Sizes
spelled_sizes z = record {
  arrays = z.arrays + most_hidden_arrays;
  length = larger z.length (suc (hidden_cells z / most_hidden_arrays));
  cells = z.cells + hidden_cells z + most_hidden_arrays;
  procs = z.procs;
  params = z.params;
  vars = suc z.vars;
  blocks = z.blocks + z.calls + z.procs;
  ops = z.ops + suc z.vars;
  nodes = z.nodes + 2 * suc z.vars + 2;
  calls = 0;
  values = suc z.params;
  landings = z.calls;
}
