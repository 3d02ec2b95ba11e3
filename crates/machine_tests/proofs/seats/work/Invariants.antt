use Rattle.ready_pool.specs.Settling.{SameSeat}
use Rattle.machine_tests.proofs.seats.work.Given as goal

abbrev pub invariant-loop : goal.invariant-loop
invariant-loop g l = SameSeat l.initial.seat l.seat

abbrev pub invariant-loop-item : goal.invariant-loop-item
invariant-loop-item g l = SameSeat l.initial.seat l.seat
