use Rattle.std.proofs.Common.{◌-◌, length}
use Rattle.match_table.specs.Together.{part_of}
use Rattle.fire_crew.proofs.crew.Crew.phase_with.Goals as goal

pub returns-in-Err-clause-goes : goal.returns-in-Err-clause-goes
returns-in-Err-clause-goes g c =
    c.in-Err.ensures.ends (c.args.self.now.budget - length (part_of c.turn-after.result.tables).fired)
