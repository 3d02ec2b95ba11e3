use Rattle.std.proofs.Common.{◌<◌, ap, refl, length, arith}
use Rattle.match_table.proofs.Phased.{rest_all}
use Rattle.match_table.proofs.row.Row.new.Goals as goal

pub take_out-first-requires : goal.take_out-first-requires
take_out-first-requires g c =
    let as_many = ap length c.requires.began in
    let counted = c.count_of.ensures.count in
    let all = c.if-count_of-lt16.false in
    let there : 3 < length g.Q.Quotas.began = omega (arith, as_many, counted, all) in
    let limits = c.requires.limits.1 in (
      omega arith,
      (
        (refl, refl, refl),
        (
          rest_all g.Q.Quotas.began g.Q.Quotas.most c.args.tables c.requires.began
              (rw (← c.requires.limits.0) c.requires.fits),
          (there, (c.requires.limits.0, omega (arith, limits))),
        ),
      ),
    )
