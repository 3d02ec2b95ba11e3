use Rattle.part_store.proofs.bare.Bare.forget.Goals as goal

pub returns : goal.returns
returns c = λ w i. c.remove.ensures.updates.0 (w, i)
