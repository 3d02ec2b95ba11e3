use Rattle.part_store.proofs.bare.Bare.reserve.Goals as goal

pub returns-clause-same : goal.returns-clause-same
returns-clause-same c = λ w i. c.reserve.ensures.keys.2 (w, i)
