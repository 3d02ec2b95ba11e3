use Rattle.std.proofs.Common.{refl, arith}
use Rattle.df_core.proofs.Sizes.Rooms.{room_kept}
use Rattle.df_core.proofs.flow.Flow.prepare.Goals as goal

pub returns-in_err-reserve-in-Some-5-clause-kept : goal.returns-in_err-reserve-in-Some-5-clause-kept
returns-in_err-reserve-in-Some-5-clause-kept c = λ n r.
    room_kept c.args.self.now _ n c.reserve.ensures.len c.reserve-in-Some.ensures.len refl
    c.reserve-in-Some-3.ensures.len c.reserve.ensures.capacity c.reserve-in-Some.ensures.capacity
    c.reserve-in-Some-2.ensures.kept c.reserve-in-Some-3.ensures.capacity c.reserve-in-Some-4.ensures.kept
    (omega arith) r

pub returns-in_ok-reserve-in-Some-6-clause-kept : goal.returns-in_ok-reserve-in-Some-6-clause-kept
returns-in_ok-reserve-in-Some-6-clause-kept c = λ n r.
    room_kept c.args.self.now _ n c.reserve.ensures.len c.reserve-in-Some.ensures.len
    c.reserve-in-Some-5.ensures.len c.reserve-in-Some-3.ensures.len c.reserve.ensures.capacity
    c.reserve-in-Some.ensures.capacity c.reserve-in-Some-2.ensures.kept c.reserve-in-Some-3.ensures.capacity
    c.reserve-in-Some-4.ensures.kept c.reserve-in-Some-5.ensures.capacity r
