use Rattle.machine_tests.proofs.seats.work_and_settle.Goals as goal

pub settle_all-requires : goal.settle_all-requires
settle_all-requires g c = c.seats_stay_together.ensures c.in_ok-seats.seats.items c.in_ok-seats-2.seats.items
    c.in_ok-seats-2.ensures.len c.in_ok-seats-2.ensures.same c.in_ok-seats.ensures.together
