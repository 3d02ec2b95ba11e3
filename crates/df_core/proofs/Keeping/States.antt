-- Lemmas on states.
use Rattle.std.proofs.Common.{arith, ◌≡◌}
use Rattle.df_core.specs.Core.{State, Same}

-- states that answer alike are one
pub same_is : (s t : State) → Same s t → s ≡ t
same_is s t e = grind (arith, e.held, e.way, e.fired, e.waiting, e.issued, e.stopped, e.memory)
