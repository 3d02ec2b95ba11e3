-- What the draft's walk costs, by the blocks that the graph's walk leaves. Blocks weigh in quarters
-- of an instruction.
use Rattle.std.specs.Prelude.{ℕ, zero, suc, ◌+◌, ◌*◌, ◌≡◌, ◌≤◌, ◌||◌, Bool, length}
use Rattle.std.specs.List.{sum_by}
use Rattle.ws_words.specs.Outside.{Outside, World}
use Rattle.ws_isa.specs.Image.{Image}
use Rattle.ws_isa.specs.Walk.{CostAtMost}
use Rattle.cfg_core.specs.Graph.{Term, Number, Var, Cell, Flip, Not, Neg, Binary, Op, Assign, Store, Print}
use Rattle.cfg_core.specs.Graph.{Read, Give, Take, Choose, Tick, TickBy, Exit, Goto, Branch, Return, Send}
use Rattle.cfg_core.specs.Graph.{Graph, spot_at, block_at}
use Rattle.cfg_core.specs.Walk.{Over, walk, opening}
use Rattle.cfg_core.specs.Weights.{path}
use Rattle.wave_link.specs.Passed.{blocks_left}
use Rattle.wave_gen.specs.Words.{live_from}

-- What a term weighs: a variable is there already. A number weighs what a copy does, where it was
-- made before. A 0 is the pulse; it weighs what a constant that it triggers weighs more.
abbrev pub term_quarters : Term → ℕ
term_quarters (Number zero) = 1
term_quarters (Number (suc n)) = 5
term_quarters (Var x) = 0
term_quarters (Cell a t) = 5 + term_quarters t
term_quarters (Flip t) = 9 + term_quarters t
term_quarters (Not t) = 5 + term_quarters t
term_quarters (Neg t) = 5 + term_quarters t
term_quarters (Binary op a b) = 5 + (term_quarters a + term_quarters b)

-- an operation with its terms; turns leave no code
abbrev pub op_quarters : Op → ℕ
op_quarters (Assign x t) = term_quarters t + 5
op_quarters (Store a t u) = term_quarters t + (term_quarters u + 6)
op_quarters (Print t) = term_quarters t + 5
op_quarters (Read x) = 5
op_quarters (Give p x) = 5
op_quarters (Take p t) = term_quarters t + 5
op_quarters (Choose x t a b) = term_quarters t + (term_quarters a + (term_quarters b + 6))
op_quarters (Tick n) = 0
op_quarters (TickBy t n m) = 0

-- how many of the first n variables are live
abbrev pub live_in : (ℕ → Bool) → ℕ → ℕ
live_in live n = length (live_from live 0 n)

-- an exit with its terms, the values that it sends, and the variables of so many that are live at
-- one of the arms to which it branches
abbrev pub exit_quarters : (ℕ → ℕ → Bool) → ℕ → Exit → ℕ
exit_quarters live n (Goto b) = 0
exit_quarters live n (Branch t a b) =
    term_quarters t + 7 * suc (live_in (λ x. live a x || live b x) n) + 7
exit_quarters live n (Return t) = term_quarters t + 5
exit_quarters live n (Send t ts ls) =
    term_quarters t + (sum_by term_quarters ts + (12 * length ts + 12))
exit_quarters live n _ = 5

-- a block, with the variables that are live at its start
abbrev pub quarters : Graph → (ℕ → ℕ → Bool) → ℕ → ℕ
quarters g live b = sum_by op_quarters (block_at g b).ops
    + exit_quarters live (spot_at g b).vars (block_at g b).exit
    + 11 * suc (live_in (live b) (spot_at g b).vars) + 5

-- Where the graph's walk ends, the draft's costs at most a quarter of what the blocks weigh that
-- the graph's leaves, and leaves no more blocks.
abbrev pub CostsAtMost : Graph → (ℕ → ℕ → Bool) → Image → World → ℕ → Type 0
CostsAtMost g live draft world turns = (m : ℕ) (o : Outside) (left : ℕ) →
    walk g m (opening g world turns) ≡ Over o left →
    (cost : ℕ) × CostAtMost draft world cost
    × (4 * cost ≤ sum_by (quarters g live) (path g m (opening g world turns)))
    × ((t : ℕ) → blocks_left draft world t ≤ length (path g m (opening g world turns)))
