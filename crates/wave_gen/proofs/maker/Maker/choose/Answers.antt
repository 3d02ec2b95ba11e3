use Rattle.wave_gen.proofs.maker.Maker.choose.Goals as goal

pub returns-clause-made : goal.returns-clause-made
returns-clause-made c b s st = c.in_ok-emit.ensures b _ (c.in_ok-make_rooms.ensures b s st)
