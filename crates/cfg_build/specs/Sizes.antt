-- How large the graph of a program is.
use Rattle.std.specs.Prelude.{◌≡◌, ℕ, ◌+◌, ◌*◌, ◌≤◌, List, [], ◌∷◌, length, Option, Some, None}
use Rattle.std.specs.List.{AllByRecursion, sum_by}
use Rattle.src_ast.specs.Syntax.{Statement, Assign, Store, Print, Read, Give, Take, Call, If, While}
use Rattle.src_ast.specs.Syntax.{Statements, Nothing, Then, Last, Procedure, Part}
use Rattle.src_ast.specs.Bound.{nodes, nodes_of, widest, most_variables}
use Rattle.src_ast.specs.LanguageLimits.{most_procedures, most_statements, most_parameters, most_arrays}
use Rattle.src_ast.specs.LanguageLimits.{most_array_cells, most_cells}
use Rattle.cfg_core.specs.Graph.{Graph, spots}
use Rattle.cfg_core.specs.Weights.{turns_of, ops_in, nodes_in}

-- the sum over a statement, and over statements, with those inside them
abbrev mutual
  pub sum_in : (Statement → ℕ) → Statement → ℕ
  sum_in f (If at e a b) = f (If at e a b) + (sum_over f a + sum_over f b)
  sum_in f (While at e body) = f (While at e body) + sum_over f body
  sum_in f s = f s

  pub sum_over : (Statement → ℕ) → Statements → ℕ
  sum_over f Nothing = 0
  sum_over f (Then s rest) = sum_in f s + sum_over f rest

-- the same over procedures, each with its ending
abbrev pub sum_procs : (Statement → ℕ) → (Option Last → ℕ) → List Procedure → ℕ
sum_procs f ending [] = 0
sum_procs f ending (p ∷ ps) = sum_over f p.body + ending p.ending + sum_procs f ending ps

-- The blocks that begin at a statement: the one after a call; of an `if` its arms and the one after
-- it; of a `while` its test, its body and the one after it.
abbrev pub own_blocks : Statement → ℕ
own_blocks (Call at x f es) = 1
own_blocks (If at e a b) = 3
own_blocks (While at e body) = 3
own_blocks _ = 0

-- its operations: a turn, and what it does but for tests and calls
abbrev pub own_ops : Statement → ℕ
own_ops (Call at x f es) = 1
own_ops (If at e a b) = 1
own_ops (While at e body) = 1
own_ops _ = 2

abbrev pub ending_ops : Option Last → ℕ
ending_ops None = 0
ending_ops (Some last) = 1

-- its nodes: of an `if` or a `while` those of its test
abbrev pub own_nodes : Statement → ℕ
own_nodes (Assign at x e) = nodes e
own_nodes (Store at a i e) = nodes i + nodes e
own_nodes (Print at e) = nodes e
own_nodes (Read at x) = 0
own_nodes (Give at n p x) = 0
own_nodes (Take at n p e) = nodes e
own_nodes (Call at x f es) = nodes_of es
own_nodes (If at e a b) = nodes e
own_nodes (While at e body) = nodes e

-- where no `return` gives the result, it is the number 0
abbrev pub result_nodes : Option Last → ℕ
result_nodes None = 1
result_nodes (Some last) = nodes last.value

-- the turns of all blocks
abbrev pub turns_in : Graph → ℕ
turns_in g = sum_by (λ s. sum_by turns_of s.block.ops) (spots g)

-- The graph has the program's blocks, operations, nodes and turns, and no more: each statement has a
-- turn.
pub record IsSized (ps : List Procedure) (g : Graph) : Type 0 where
  pub blocks : length (spots g) ≡ sum_procs own_blocks (λ last. 1) ps
  pub ops : ops_in g ≡ sum_procs own_ops ending_ops ps
  pub nodes : nodes_in g ≡ sum_procs own_nodes result_nodes ps
  pub turns : turns_in g ≡ sum_procs (λ s. 1) ending_ops ps

-- The graph is as small as the limits of the language make it. Calls have as many values as the
-- called procedure has parameters.
pub record IsSmall (parts : List Part) (g : Graph) : Type 0 where
  pub arrays : length g.arrays ≤ most_arrays
  pub lengths : AllByRecursion (λ a. a.length ≤ most_array_cells) g.arrays
  pub cells : sum_by (λ a. a.length) g.arrays ≤ most_cells
  pub procs : length g.procs ≤ most_procedures
  pub params : AllByRecursion (λ p. p.params ≤ most_parameters) g.procs
  pub vars : AllByRecursion (λ p. p.vars ≤ most_variables parts) g.procs
  pub blocks : length (spots g) ≤ 3 * most_statements + most_procedures
  pub ops : ops_in g ≤ 2 * most_statements + most_procedures
  pub nodes : nodes_in g ≤ widest parts * (most_statements + most_procedures) + most_procedures
  pub turns : turns_in g ≤ most_statements
