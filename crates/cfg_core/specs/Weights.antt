-- Sizes of blocks, what the blocks of a walk weigh together, and the potentials that bound it.
--
-- What a pass makes of a block is bounded by the block's nodes, acts and jumps, and by the
-- variables. By `TurnsPayWork` such a weight of blocks is at most a base for each block and a pay
-- for each of its turns; so by `TwoBlocksATurn` and the law on weights a walk of n turns weighs at
-- most base + (pay + 2 * base) * n.
-- A pass that puts several blocks in place of one carries this over: each block of the graph before
-- it gets the weight of all that stands for it, the landing of a call's result at the block of the
-- call.
use Rattle.std.specs.Prelude.{ℕ, zero, suc, ◌+◌, ◌-◌, ◌*◌, ◌<◌, ◌≤◌, max, min, List, [], ◌∷◌, ◌++◌, length}
use Rattle.std.specs.List.{sum_by}
use Rattle.ws_words.specs.Outside.{World}
use Rattle.cfg_core.specs.Graph.{Term, Number, Var, Cell, Flip, Not, Neg, Binary, Op, Assign, Store, Print}
use Rattle.cfg_core.specs.Graph.{Read, Give, Take, Choose, Tick, TickBy, Exit, Goto, Branch, Call, Return}
use Rattle.cfg_core.specs.Graph.{Send, Stop, Block, Graph, spots, block_at, entry_of}
use Rattle.cfg_core.specs.Walk.{Config, At, Over, step, opening}

-- the turns that an operation takes at least
abbrev pub turns_of : Op → ℕ
turns_of (Tick n) = n
turns_of (TickBy t n m) = min n m
turns_of _ = 0

-- the turns that a block takes at least
abbrev pub turns_at : Graph → ℕ → ℕ
turns_at g b = sum_by turns_of (block_at g b).ops

-- the acts and tests of an operation, all but its turns
abbrev pub acts_of : Op → ℕ
acts_of (Tick n) = 0
acts_of _ = 1

-- how many acts and tests a block holds, all but its exit's
abbrev pub acts_at : Graph → ℕ → ℕ
acts_at g b = sum_by acts_of (block_at g b).ops

-- an exit that tests or that carries values
abbrev pub jumps_of : Exit → ℕ
jumps_of (Branch t a b) = 1
jumps_of (Call x f ts back) = 1
jumps_of (Send t ts ls) = 1
jumps_of _ = 0

-- each number, variable, array element and operator is a node
abbrev pub term_nodes : Term → ℕ
term_nodes (Number n) = 1
term_nodes (Var x) = 1
term_nodes (Cell a t) = suc (term_nodes t)
term_nodes (Flip t) = suc (term_nodes t)
term_nodes (Not t) = suc (term_nodes t)
term_nodes (Neg t) = suc (term_nodes t)
term_nodes (Binary op a b) = suc (term_nodes a + term_nodes b)

abbrev pub op_nodes : Op → ℕ
op_nodes (Assign x t) = term_nodes t
op_nodes (Store a t u) = term_nodes t + term_nodes u
op_nodes (Print t) = term_nodes t
op_nodes (Read x) = 0
op_nodes (Give p x) = 0
op_nodes (Take p t) = term_nodes t
op_nodes (Choose x t a b) = term_nodes t + (term_nodes a + term_nodes b)
op_nodes (Tick n) = 0
op_nodes (TickBy t n m) = term_nodes t

abbrev pub exit_nodes : Exit → ℕ
exit_nodes (Goto b) = 0
exit_nodes (Branch t a b) = term_nodes t
exit_nodes (Call x f ts back) = sum_by term_nodes ts
exit_nodes (Return t) = term_nodes t
exit_nodes (Send t ts ls) = term_nodes t + sum_by term_nodes ts
exit_nodes Stop = 0

-- the nodes of all terms of a block
abbrev pub block_nodes : Block → ℕ
block_nodes b = sum_by op_nodes b.ops + exit_nodes b.exit

-- the operations and the nodes of all blocks
abbrev pub ops_in : Graph → ℕ
ops_in g = sum_by (λ s. length s.block.ops) (spots g)

abbrev pub nodes_in : Graph → ℕ
nodes_in g = sum_by (λ s. block_nodes s.block) (spots g)

-- the block that a step leaves by its exit, from one configuration to the next
abbrev pub block_left : Config → Config → List ℕ
block_left (At b s frames k) (At c t fs j) = b ∷ []
block_left (At b s frames k) (Over o j) = b ∷ []
block_left _ _ = []

-- the blocks that the walk leaves by their exits in n steps, in order
abbrev pub path : Graph → ℕ → Config → List ℕ
path g zero c = []
path g (suc n) c = block_left c (step g c) ++ path g n (step g c)

abbrev pub highest : (ℕ → ℕ) → List ℕ → ℕ
highest p [] = 0
highest p (b ∷ bs) = max (p b) (highest p bs)

-- The potential that an exit hands on. That of a call is for the callee's entry and for the return
-- block, and a return hands on none.
abbrev pub handed_on : Graph → (ℕ → ℕ) → Exit → ℕ
handed_on g p (Goto b) = p b
handed_on g p (Branch t a b) = max (p a) (p b)
handed_on g p (Call x f ts back) = p (entry_of g f) + p back
handed_on g p (Return t) = 0
handed_on g p (Send t ts ls) = highest p ls
handed_on g p Stop = 0

-- Blocks of these weights have this potential, where a turn pays so much: a block's potential and
-- its turns pay for its weight and for what its exit hands on.
abbrev pub IsPotential : Graph → (ℕ → ℕ) → ℕ → (ℕ → ℕ) → Type 0
IsPotential g weight pay p = (b : ℕ) → b < length (spots g) →
    weight b + handed_on g p (block_at g b).exit ≤ p b + pay * turns_at g b

-- each block weighs at most so much, and so much more for each of its turns
abbrev pub WeighsAtMost : Graph → (ℕ → ℕ) → ℕ → ℕ → Type 0
WeighsAtMost g weight base pay = (b : ℕ) → b < length (spots g) →
    weight b ≤ base + pay * turns_at g b

-- the block in which the walk begins
abbrev pub first_block : Graph → ℕ
first_block g = entry_of g (length g.procs - 1)

-- A turn pays for two blocks: there is a potential for blocks that weigh 1, which is at most 1
-- where the walk begins.
pub record TwoBlocksATurn (g : Graph) : Type 0 where
  pub potential : ℕ → ℕ
  pub pays : IsPotential g (λ b. 1) 2 potential
  pub begins : potential (first_block g) ≤ 1

-- A turn pays for one act or jump, with at most so many nodes. A result that no `return` gives is
-- one node more.
pub record TurnsPayWork (g : Graph) (most : ℕ) : Type 0 where
  pub acts : (b : ℕ) → acts_at g b + jumps_of (block_at g b).exit ≤ turns_at g b
  pub nodes : (b : ℕ) → block_nodes (block_at g b) ≤ most * turns_at g b + 1

-- In every world the blocks that a walk of so many turns leaves weigh together at most so much, and
-- so much more for each turn.
abbrev pub WalksWeigh : Graph → (ℕ → ℕ) → ℕ → ℕ → Type 0
WalksWeigh g weight base pay = (world : World) (turns steps : ℕ) →
    sum_by weight (path g steps (opening g world turns)) ≤ base + pay * turns
