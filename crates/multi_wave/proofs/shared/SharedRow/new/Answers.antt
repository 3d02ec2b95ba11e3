use Rattle.std.proofs.Common.{refl, subst, arith}
use Rattle.multi_wave.specs.Fours.{EachIs}
use Rattle.multi_wave.specs.Stands.{HasTables}
use Rattle.multi_wave.proofs.Homes.{all_out, enough}
use Rattle.multi_wave.proofs.shared.SharedRow.new.Goals as goal

pub take_out-first-requires : goal.take_out-first-requires
take_out-first-requires g c =
    let all = c.if-least_count-lt16.false in (
      omega arith,
      (
        (refl, refl, refl),
        (
          all_out g.Q.FourHomes.homes c.args.homes c.requires.named c.requires.fit,
          enough _ 4 g.Q.FourHomes.homes (omega (arith, all))
              (subst (EachIs (HasTables c.least_count.result)) c.requires.named c.least_count.ensures.each),
        ),
      ),
    )

pub take_out-second-requires : goal.take_out-second-requires
take_out-second-requires g c =
    let all = c.if-least_count-lt16.false in (
      omega arith,
      (
        (refl, refl, refl),
        (
          c.take_out-first.ensures,
          enough _ 8 g.Q.FourHomes.homes (omega (arith, all))
              (subst (EachIs (HasTables c.least_count.result)) c.requires.named c.least_count.ensures.each),
        ),
      ),
    )

pub take_out-third-requires : goal.take_out-third-requires
take_out-third-requires g c =
    let all = c.if-least_count-lt16.false in (
      omega arith,
      (
        (refl, refl, refl),
        (
          c.take_out-second.ensures,
          enough _ 12 g.Q.FourHomes.homes (omega (arith, all))
              (subst (EachIs (HasTables c.least_count.result)) c.requires.named c.least_count.ensures.each),
        ),
      ),
    )

pub take_out-fourth-requires : goal.take_out-fourth-requires
take_out-fourth-requires g c =
    let all = c.if-least_count-lt16.false in (
      omega arith,
      (
        (refl, refl, refl),
        (
          c.take_out-third.ensures,
          enough _ 16 g.Q.FourHomes.homes (omega (arith, all))
              (subst (EachIs (HasTables c.least_count.result)) c.requires.named c.least_count.ensures.each),
        ),
      ),
    )
