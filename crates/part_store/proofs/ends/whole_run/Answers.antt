use Rattle.part_store.proofs.Told.Telling.{rested}
use Rattle.part_store.proofs.ends.whole_run.Goals as goal

pub returns : goal.returns
returns g c =
    let parted = c.facts-2.ensures.parted in
    let going = c.requires.going in
    rested _ _ _ _ parted.0 c.facts-3.ensures.formed c.facts-3.ensures.sound parted.1 (c.facts-2.ensures.idle
    going.1 going.2) going.0 _ c.facts.ensures.part c.facts.ensures.once c.requires.paid
