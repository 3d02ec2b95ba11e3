use Rattle.match_table.specs.Tables.{key_of}
use Rattle.match_table.specs.Together.{part_of}
use Rattle.fire_crew.proofs.Paid.{told_key}
use Rattle.fire_crew.proofs.Rights.{sends_at}
use Rattle.fire_crew.proofs.owed.see_at.Goals as goal

pub look_at-requires-clause-right : goal.look_at-requires-clause-right
look_at-requires-clause-right g c = sends_at g.J.Job.image g.J.Job.world c.facts-2.ensures.formed
    c.facts-2.ensures.sound c.args.table.now c.facts.ensures.part c.fired_at.result
    c.fired_at.ensures.operands c.args.place c.requires.place c.fired_at.ensures.at

pub returns-clause-reach : goal.returns-clause-reach
returns-clause-reach g c = λ way k. (let r = c.in_ok-look_at.ensures.reach way k in
    let held = (part_of c.args.tables.now).held in (
      r.0,
      told_key g.J.Job.image held way c.args.place c.args.table.now (key_of c.fired_at.result)
          c.fired_at.ensures.at (rw (← c.fired_at.ensures.operands) r.1),
    ))
