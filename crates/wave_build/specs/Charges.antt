-- What a block of a graph is charged, in quarters of an instruction, before calls are spelled out.
use Rattle.std.specs.Prelude.{ℕ, ◌+◌, ◌*◌, length}
use Rattle.std.specs.List.{sum_by}
use Rattle.cfg_core.specs.Graph.{Exit, Goto, Branch, Call, Return, Graph, block_at}
use Rattle.wave_gen.specs.Cost.{term_quarters, op_quarters}

-- an exit and the block that it ends, where no more than v variables are live
abbrev pub exit_charge : ℕ → Exit → ℕ
exit_charge v (Goto b) = 11 * v + 31
exit_charge v (Branch t a b) = term_quarters t + (18 * v + 52)
exit_charge v (Call x f ts back) = sum_by term_quarters ts + (17 * length ts + (43 * v + 149))
exit_charge v (Return t) = term_quarters t + (11 * v + 55)
exit_charge v _ = 11 * v + 36

-- a block
abbrev pub charge : ℕ → Graph → ℕ → ℕ
charge v g b = sum_by op_quarters (block_at g b).ops + exit_charge v (block_at g b).exit

-- what a walk is allowed, and for each turn, in a program whose widest statement has e nodes
abbrev pub base : ℕ → ℕ
base v = 11 * v + 60

abbrev pub pay : ℕ → ℕ → ℕ
pay v e = 2 * (11 * v + 31) + (42 * v + 180 + 9 * e)
