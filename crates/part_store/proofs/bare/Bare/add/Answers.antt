use Rattle.part_store.proofs.Running.Coming.{take_ok}
use Rattle.part_store.proofs.bare.Bare.add.Goals as goal

pub returns : goal.returns
returns c = λ w i. (take_ok _ (c.insert.ensures.succeeds c.requires.room) c.insert.ensures.updates).0 (w, i)
