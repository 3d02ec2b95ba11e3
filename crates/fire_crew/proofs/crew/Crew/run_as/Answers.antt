use Rattle.port_set.specs.Slots.{contents}
use Rattle.match_table.specs.Together.{part_of}
use Rattle.fire_crew.proofs.crew.Crew.run_as.Goals as goal

pub returns-clause-tells : goal.returns-clause-tells
returns-clause-tells g c =
    let end = c.run_job-end.result in
    let listed = (part_of end.tables).fired in
    let handed = contents g.P.Port.tells c.args.ports in
    let back = contents g.P.Port.tells end.ports in
    c.ends_are_told.ensures g.J.Job.image g.J.Job.world c.args.self.now.budget listed handed back end.finish
    (rw (← c.requires.began) c.run_job-end.ensures.finish)
