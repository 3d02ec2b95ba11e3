-- Which branches are short: both ways lead to one join, through at most one block each that only
-- assigns and ticks.
use Rattle.std.specs.Prelude.{ℕ, suc, ◌+◌, ◌==◌, ◌&&◌, nat_lt, Bool, true, false, List, [], ◌∷◌, Option, Some}
use Rattle.std.specs.Prelude.{None, if◌then◌else◌}
use Rattle.cfg_core.specs.Weights.{term_nodes}
use Rattle.cfg_core.specs.Graph.{Term, Number, Var, Cell, Flip, Not, Neg, Binary, Op, Assign, Tick, Exit}
use Rattle.cfg_core.specs.Graph.{Goto, Branch, Block, Graph, block_at}

-- a term that loads nothing
abbrev pub is_bare : Term → Bool
is_bare (Number n) = true
is_bare (Var x) = true
is_bare (Cell a t) = false
is_bare (Flip t) = is_bare t
is_bare (Not t) = is_bare t
is_bare (Neg t) = is_bare t
is_bare (Binary op a b) = is_bare a && is_bare b

-- an operation that an arm may hold
abbrev pub is_light : Op → Bool
is_light (Assign x t) = is_bare t
is_light (Tick n) = true
is_light _ = false

-- operations of an arm
abbrev pub all_light : List Op → Bool
all_light [] = true
all_light (op ∷ ops) = is_light op && all_light ops

-- how many nodes the term has that an operation assigns
abbrev pub assigned_nodes : Op → ℕ
assigned_nodes (Assign x t) = term_nodes t
assigned_nodes _ = 0

-- the nodes of an arm
abbrev pub all_nodes : List Op → ℕ
all_nodes [] = 0
all_nodes (op ∷ ops) = assigned_nodes op + all_nodes ops

-- whether an exit goes on to block d alone
abbrev pub goes_to : Exit → ℕ → Bool
goes_to (Goto c) d = c == d
goes_to _ d = false

-- a block that only assigns and ticks, and goes on to block j
abbrev pub is_arm : Block → ℕ → Bool
is_arm block j = goes_to block.exit j && all_light block.ops

-- the block that an exit goes on to alone, if there is one
abbrev pub goal : Exit → Option ℕ
goal (Goto c) = Some c
goal _ = None

-- a branch with the operations of its two arms and the block where they join
pub record Short : Type 0 where
  pub test : Term
  pub first : List Op
  pub second : List Op
  pub join : ℕ

-- how many nodes the arms of a short branch may have together
abbrev pub most_nodes : ℕ
most_nodes = 8

-- whether arms with so many nodes are small enough
abbrev pub are_few : ℕ → Bool
are_few n = nat_lt n (suc most_nodes)

-- an arm beside none
abbrev pub is_lone_arm : Block → ℕ → Bool
is_lone_arm block j = is_arm block j && are_few (all_nodes block.ops)

-- arms that go on to j
abbrev pub are_two_arms : Block → Block → ℕ → Bool
are_two_arms first second j =
    is_arm first j && (is_arm second j && are_few (all_nodes first.ops + all_nodes second.ops))

-- a branch to blocks c and d that are both arms, where the first goes on to this block
abbrev pub two_arms : Graph → Term → ℕ → ℕ → Option ℕ → Option Short
two_arms g t c d None = None
two_arms g t c d (Some j) =
    let first : Block = block_at g c in
    let second : Block = block_at g d in
    if are_two_arms first second j
    then Some (record { test = t; first = first.ops; second = second.ops; join = j }) else None

-- a branch to blocks c and d: no arm, the first alone, the second alone, or both
abbrev pub short_to : Graph → Term → ℕ → ℕ → Option Short
short_to g t c d =
    let first : Block = block_at g c in
    let second : Block = block_at g d in
    if c == d
    then Some (record { test = t; first = []; second = []; join = d })
    else if is_lone_arm first d
    then Some (record { test = t; first = first.ops; second = []; join = d })
    else if is_lone_arm second c
    then Some (record { test = t; first = []; second = second.ops; join = c })
    else two_arms g t c d (goal first.exit)

-- the short branch that an exit is, if it is one
abbrev pub short : Graph → Exit → Option Short
short g (Branch t c d) = short_to g t c d
short g _ = None
