-- The graph in which short branches are joined: both arms on variables of their own, then a choice
-- for each variable that an arm writes and that is live at the join.
use Rattle.std.specs.Prelude.{ℕ, suc, ◌+◌, ◌==◌, ◌||◌, Bool, true, false, not, List, [], ◌∷◌, ◌++◌, map}
use Rattle.std.specs.Prelude.{Option, Some, None, if◌then◌else◌}
use Rattle.std.specs.List.{filter}
use Rattle.cfg_core.specs.Graph.{Term, Number, Var, Cell, Flip, Not, Neg, Binary, Op, Assign, Choose, Tick}
use Rattle.cfg_core.specs.Graph.{TickBy, Goto, Block, GraphProc, Graph}
use Rattle.live_vars.specs.Marks.{has}
use Rattle.phi_conv.specs.Short.{Short, short}

-- the turns that an arm takes
abbrev pub turns_of : List Op → ℕ
turns_of [] = 0
turns_of (Tick n ∷ ops) = n + turns_of ops
turns_of (_ ∷ ops) = turns_of ops

-- whether a list has this number
abbrev pub is_among : List ℕ → ℕ → Bool
is_among [] x = false
is_among (y ∷ ys) x = (x == y) || is_among ys x

-- a list, with this number at its end if it doesn't have it yet
abbrev pub added : List ℕ → ℕ → List ℕ
added done x = if is_among done x then done else done ++ x ∷ []

-- the variables written so far, then those that an arm writes first, each once
abbrev pub written : List ℕ → List Op → List ℕ
written done [] = done
written done (Assign x t ∷ ops) = written (added done x) ops
written done (_ ∷ ops) = written done ops

-- the variables that an arm of a short branch writes, in the order in which they are first written
abbrev pub written_by : Short → List ℕ
written_by s = written (written [] s.first) s.second

-- A procedure with `vars` variables gets more: one for the test, then a copy of each variable for
-- the first arm, and one for the second. An arm's copies begin at its base.
abbrev pub first_base : ℕ → ℕ
first_base vars = suc vars

-- where the copies for the second arm begin
abbrev pub second_base : ℕ → ℕ
second_base vars = suc (vars + vars)

-- how many variables there are then
abbrev pub more_vars : ℕ → ℕ
more_vars vars = suc (vars + (vars + vars))

-- a variable in an arm that has written these so far
abbrev pub copied : ℕ → List ℕ → ℕ → ℕ
copied base done x = if is_among done x then base + x else x

-- a term on the copies of an arm that has written these so far
abbrev pub renamed : ℕ → List ℕ → Term → Term
renamed base done (Number n) = Number n
renamed base done (Var x) = Var (copied base done x)
renamed base done (Cell a t) = Cell a (renamed base done t)
renamed base done (Flip t) = Flip (renamed base done t)
renamed base done (Not t) = Not (renamed base done t)
renamed base done (Neg t) = Neg (renamed base done t)
renamed base done (Binary op a b) = Binary op (renamed base done a) (renamed base done b)

-- the assignments of an arm on its copies
abbrev pub arm : ℕ → List ℕ → List Op → List Op
arm base done [] = []
arm base done (Assign x t ∷ ops) =
    Assign (base + x) (renamed base done t) ∷ arm base (added done x) ops
arm base done (_ ∷ ops) = arm base done ops

-- A test stands for itself where it is a number, or a variable that is none of those that an arm
-- writes.
abbrev pub is_still : List ℕ → Term → Bool
is_still either (Number n) = true
is_still either (Var x) = not (is_among either x)
is_still either _ = false

-- a test that doesn't stand for itself is kept in a variable
abbrev pub keep_test : Bool → ℕ → Term → List Op
keep_test true vars t = []
keep_test false vars t = Assign vars t ∷ []

-- the term itself, if it is still, else the variable that keeps it
abbrev pub test_if : Bool → ℕ → Term → Term
test_if true vars t = t
test_if false vars t = Var vars

-- the term that stands for the test afterwards
abbrev pub test_of : ℕ → Short → Term
test_of vars s = test_if (is_still (written_by s) s.test) vars s.test

-- the value of x after an arm
abbrev pub outcome : ℕ → List Op → ℕ → Term
outcome base ops x = Var (copied base (written [] ops) x)

-- what x has after the arm that the test takes
abbrev pub choice : ℕ → Short → ℕ → Op
choice vars s x =
    Choose x (test_of vars s) (outcome (first_base vars) s.first x)
    (outcome (second_base vars) s.second x)

-- a choice for each variable that an arm writes and that is live at the join
abbrev pub choices : List (List ℕ) → ℕ → Short → List Op
choices live vars s = map (choice vars s) (filter (has live s.join) (written_by s))

-- what stands for a short branch, after the operations of its block
abbrev pub joining : List (List ℕ) → ℕ → Short → List Op
joining live vars s =
    keep_test (is_still (written_by s) s.test) vars s.test
    ++ TickBy (test_of vars s) (turns_of s.first) (turns_of s.second)
    ∷ (arm (first_base vars) [] s.first
    ++ (arm (second_base vars) [] s.second ++ choices live vars s))

-- a block whose exit is this short branch, or none
abbrev pub joined_if : List (List ℕ) → ℕ → Block → Option Short → Block
joined_if live vars block None = block
joined_if live vars block (Some s) =
    record { named = block.named; ops = block.ops ++ joining live vars s; exit = Goto s.join }

-- a block of a procedure with so many variables
abbrev pub joined_block : Graph → List (List ℕ) → ℕ → Block → Block
joined_block g live vars block = joined_if live vars block (short g block.exit)

-- a procedure, with room for copies of its variables
abbrev pub joined_proc : Graph → List (List ℕ) → GraphProc → GraphProc
joined_proc g live p = record {
  params = p.params;
  vars = more_vars p.vars;
  blocks = map (joined_block g live p.vars) p.blocks;
}

-- The graph with all its short branches joined. Blocks keep their numbers; the arms stay as blocks.
abbrev pub joined : Graph → List (List ℕ) → Graph
joined g live = record { arrays = g.arrays; procs = map (joined_proc g live) g.procs }
