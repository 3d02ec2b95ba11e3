-- Actions have the same effects in the graph as in the run.
use Rattle.std.proofs.Common.{ℕ, ◌≡◌, List, Option, arith}
use Rattle.ws_words.specs.Outside.{ProcState}
use Rattle.src_ast.specs.Turns as turns
use Rattle.seq_run.specs.Resolved.{Action, done}
use Rattle.cfg_core.specs.Walk as walks
use Rattle.cfg_core.specs.Walk.{Done, run_op}
use Rattle.cfg_build.specs.Lowered.{op}

-- an action is one operation
pub action_same : (a : Action) (s : ProcState) (k : ℕ) → run_op (op a) s k ≡ Done (done a s) k
action_same a s k = grind arith

-- the variable that a call names takes the same result
pub result_same : (x : Option ℕ) (v : ℕ) (vars : List ℕ) → walks.with_result x v vars ≡ turns.with_result x v
    vars
result_same x v vars = grind arith
