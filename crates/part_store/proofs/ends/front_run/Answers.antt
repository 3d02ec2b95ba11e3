use Rattle.part_store.proofs.Told.Telling.{starved}
use Rattle.part_store.proofs.ends.front_run.Goals as goal

pub returns : goal.returns
returns g c = starved g.J.Job.image g.J.Job.world g.J.Job.began c.args.buffer.now c.facts.ensures.parted.0
