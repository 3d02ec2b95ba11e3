use Rattle.std.proofs.Common.{ℕ, List, take, slice_index, subst}
use Rattle.std.proofs.lemmas.List.{take_more, take_all}
use Rattle.wave_gen.specs.Plans.{renew}
use Rattle.wave_gen.specs.Tables.{HasMade}
use Rattle.wave_gen.proofs.Tables.Making.{renew_push}
use Rattle.wave_gen.proofs.maker.Maker.renew.Goals as goal

pub loop-name-preserved : goal.loop-name-preserved
loop-name-preserved c b s st =
    let xs = c.args.entries.now in let i = c.loop-name.name-index in
    rw (take_more xs i 0 c.loop-name-test.true, renew_push b (take i xs) (slice_index xs i) s)
    (c.in_ok-renew_one.ensures b (renew b (take i xs) s) (c.loop-name.invariant b s st))

pub returns : goal.returns
returns c b s st =
    let xs = c.args.entries.now in
    subst (λ (ys : List ℕ). HasMade b c.loop-name.self (renew b ys s))
    (take_all c.loop-name.name-index xs c.loop-name-test.false) (c.loop-name.invariant b s st)
