use Rattle.store_buf.proofs.Opening as O
use Rattle.part_store.proofs.quiet.Quiet.begin.Goals as goal

pub returns-in-Ok-clause-stands : goal.returns-in-Ok-clause-stands
returns-in-Ok-clause-stands g c =
    let image = g.J.Job.image in
    let world = g.J.Job.world in
    rw c.in-Ok.ensures.opening (O.opening_is _ _ _ (λ state r. c.every_list_of_events.ensures.reach image
    world c.facts.ensures.formed c.facts.ensures.sound state r) _ c.requires.ports)
