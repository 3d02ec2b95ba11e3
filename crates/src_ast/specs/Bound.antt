-- How many firings a turn of a program is allowed.
use Rattle.std.specs.Prelude.{ℕ, suc, ◌+◌, ◌*◌, max, List, [], ◌∷◌, length, Option, Some, None}
use Rattle.src_ast.specs.Syntax.{Expression, Number, Variable, Cell, Signed, Binary, Statement, Assign, Store}
use Rattle.src_ast.specs.Syntax.{Print, Read, Give, Take, Call, If, While, Statements, Nothing, Then, Last}
use Rattle.src_ast.specs.Syntax.{Part, Array, Proc}

-- each number, variable, array element and operator is a node
abbrev pub nodes : Expression → ℕ
nodes (Number n) = 1
nodes (Variable x) = 1
nodes (Cell a e) = suc (nodes e)
nodes (Signed s e) = suc (nodes e)
nodes (Binary op a b) = suc (nodes a + nodes b)

abbrev pub nodes_of : List Expression → ℕ
nodes_of [] = 0
nodes_of (e ∷ es) = nodes e + nodes_of es

-- The most expression nodes of one statement. Those of an `if` or `while` are its test's: the
-- statements in it count each by itself.
abbrev mutual
  pub most_nodes : Statement → ℕ
  most_nodes (Assign at x e) = nodes e
  most_nodes (Store at a i e) = nodes i + nodes e
  most_nodes (Print at e) = nodes e
  most_nodes (Read at x) = 0
  most_nodes (Give at n p x) = 0
  most_nodes (Take at n p e) = nodes e
  most_nodes (Call at x f es) = nodes_of es
  most_nodes (If at e a b) = max (nodes e) (max (most_nodes_of a) (most_nodes_of b))
  most_nodes (While at e body) = max (nodes e) (most_nodes_of body)

  pub most_nodes_of : Statements → ℕ
  most_nodes_of Nothing = 0
  most_nodes_of (Then s rest) = max (most_nodes s) (most_nodes_of rest)

abbrev pub ending_nodes : Option Last → ℕ
ending_nodes None = 0
ending_nodes (Some last) = nodes last.value

-- the most expression nodes of a statement, `return` included
abbrev pub widest : List Part → ℕ
widest [] = 0
widest (Array x n at ∷ parts) = widest parts
widest (Proc p ∷ parts) = max (max (most_nodes_of p.body) (ending_nodes p.ending)) (widest parts)

-- the most parameters and variables of a procedure
abbrev pub most_variables : List Part → ℕ
most_variables [] = 0
most_variables (Array x n at ∷ parts) = most_variables parts
most_variables (Proc p ∷ parts) = max (length p.params + length p.vars) (most_variables parts)

abbrev pub bound : List Part → ℕ
bound parts = 2 * widest parts + 16 * (most_variables parts + 8)
