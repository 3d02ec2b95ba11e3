-- How large the graphs of a program are, up to its draft.
use Rattle.std.specs.Prelude.{ℕ, ◌+◌, ◌*◌, List}
use Rattle.src_ast.specs.Syntax.{Part}
use Rattle.src_ast.specs.Bound.{widest, most_variables}
use Rattle.src_ast.specs.LanguageLimits.{most_procedures, most_statements, most_parameters, most_arrays}
use Rattle.src_ast.specs.LanguageLimits.{most_array_cells, most_cells}
use Rattle.phi_conv.specs.Joined.{more_vars}
use Rattle.phi_conv.specs.Keeps.{most_more_ops, most_more_nodes}
use Rattle.call_gen.specs.Sizes.{Sizes}

-- of the graph that a program is lowered to, in which each call is a statement
abbrev pub lowered_sizes : List Part → Sizes
lowered_sizes parts = record {
  arrays = most_arrays;
  length = most_array_cells;
  cells = most_cells;
  procs = most_procedures;
  params = most_parameters;
  vars = most_variables parts;
  blocks = 3 * most_statements + most_procedures;
  ops = 2 * most_statements + most_procedures;
  nodes = widest parts * (most_statements + most_procedures) + most_procedures;
  calls = most_statements;
  values = 0;
  landings = 0;
}

-- of the graph with short branches joined
abbrev pub joined_sizes : Sizes → Sizes
joined_sizes z = record {
  arrays = z.arrays;
  length = z.length;
  cells = z.cells;
  procs = z.procs;
  params = z.params;
  vars = more_vars z.vars;
  blocks = z.blocks;
  ops = z.ops + most_more_ops;
  nodes = z.nodes + most_more_nodes;
  calls = z.calls;
  values = z.values;
  landings = z.landings;
}

-- of a graph with as many blocks, calls and values, whose procedures have so many variables and whose blocks
-- so many operations and nodes
abbrev pub sizes_with : ℕ → ℕ → ℕ → Sizes
sizes_with vars ops nodes = record {
  arrays = most_arrays;
  length = most_array_cells;
  cells = most_cells;
  procs = most_procedures;
  params = most_parameters;
  vars = vars;
  blocks = 3 * most_statements + most_procedures;
  ops = ops;
  nodes = nodes;
  calls = most_statements;
  values = 0;
  landings = 0;
}

-- a procedure may have so many variables
abbrev pub most_vars : ℕ
most_vars = 1024
