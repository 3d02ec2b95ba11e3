use Rattle.std.proofs.Common.{ℕ, List, length, take, slice_index, subst}
use Rattle.wave_gen.specs.Wire.{with_rooms}
use Rattle.wave_gen.specs.Tables.{HasMade}
use Rattle.std.proofs.lemmas.List.{take_more, take_all}
use Rattle.wave_gen.proofs.Tables.Making.{rooms_push}
use Rattle.wave_gen.proofs.maker.Maker.make_rooms.Goals as goal

pub loop-name-preserved : goal.loop-name-preserved
loop-name-preserved c b s st =
    let xs = c.args.from.now in let i = c.loop-name.name-index in let n = length xs in
    rw (take_more xs i 0 c.loop-name-test.true, rooms_push b n (take i xs) (slice_index xs i) s)
    (c.in_ok-make_room.ensures b (with_rooms b n (take i xs) s) (c.loop-name.invariant b s st))

pub returns : goal.returns
returns c b s st =
    let xs = c.args.from.now in
    subst (λ (ys : List ℕ). HasMade b c.loop-name.self (with_rooms b (length xs) ys s))
    (take_all c.loop-name.name-index xs c.loop-name-test.false) (c.loop-name.invariant b s st)
