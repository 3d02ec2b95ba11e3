use Rattle.std.proofs.Common.{arith}
use Rattle.multi_wave.proofs.Homes.{out_next}
use Rattle.multi_wave.proofs.shelf.lend.Goals as goal

pub returns : goal.returns
returns g c =
    let first = c.requires.there.0 in
    let second = c.requires.there.1 in
    let third = c.requires.there.2 in
    let fourth = c.requires.there.3 in (
      out_next _ _ _ _ c.requires.out.0 (omega (arith, first)) c.take_out-first.ensures.rest
          c.take_out-first.ensures.limits c.take_out-first.ensures.taker,
      out_next _ _ _ _ c.requires.out.1 (omega (arith, second)) c.take_out-second.ensures.rest
          c.take_out-second.ensures.limits c.take_out-second.ensures.taker,
      out_next _ _ _ _ c.requires.out.2 (omega (arith, third)) c.take_out-third.ensures.rest
          c.take_out-third.ensures.limits c.take_out-third.ensures.taker,
      out_next _ _ _ _ c.requires.out.3 (omega (arith, fourth)) c.take_out-fourth.ensures.rest
          c.take_out-fourth.ensures.limits c.take_out-fourth.ensures.taker,
    )
