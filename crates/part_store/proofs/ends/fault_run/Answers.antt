use Rattle.part_store.proofs.Told.Telling.{tripped}
use Rattle.part_store.proofs.ends.fault_run.Goals as goal

pub returns : goal.returns
returns g c = tripped _ _ _ _ c.facts.ensures.parted.0 c.facts-2.ensures.formed c.facts-2.ensures.sound _
    c.requires.fault
