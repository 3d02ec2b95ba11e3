use Rattle.std.proofs.Common.{length}
use Rattle.ready_pool.proofs.Dealing.{Left}
use Rattle.fire_crew.proofs.turn.deal.Given as goal

abbrev pub decreases-loop-token : goal.decreases-loop-token
decreases-loop-token g l = length l.tokens

abbrev pub invariant-loop-token : goal.invariant-loop-token
invariant-loop-token g l = Left g.L.Wrap.wrapped l.initial.seats.items l.fn.tokens l.tokens l.seats.items
