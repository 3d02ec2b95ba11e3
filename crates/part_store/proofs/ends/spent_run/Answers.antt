use Rattle.part_store.proofs.Told.Telling.{dear, spent}
use Rattle.part_store.proofs.ends.spent_run.Goals as goal

pub returns : goal.returns
returns g c =
    let x = c.requires.missing in
    spent _ _ _ _ c.facts-2.ensures.parted.0 _ (dear _ _ c.facts-3.ensures.formed c.facts-3.ensures.sound _
    c.facts.ensures.part c.facts.ensures.once _ x.1 x.2)
