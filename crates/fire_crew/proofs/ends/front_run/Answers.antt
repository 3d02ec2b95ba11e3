use Rattle.fire_crew.proofs.Fronts.{front_run}
use Rattle.fire_crew.proofs.ends.front_run.Goals as goal

pub returns : goal.returns
returns g c =
    let stands = c.facts.ensures.stands in
    front_run g.J.Job.image g.J.Job.world g.J.Job.began c.args.buffer.now stands.0 stands.1
