use Rattle.fire_crew.proofs.Fronts.{port_run}
use Rattle.fire_crew.proofs.ends.port_run.Goals as goal

pub returns : goal.returns
returns g c =
    let failed = c.facts.ensures.failed c.args.port c.requires.failed in
    let stands = c.facts.ensures.stands in
    port_run _ _ _ _ _ stands.1 c.facts-2.ensures.formed c.facts-2.ensures.sound _ failed.0 failed.1
