use Rattle.std.proofs.Common.{subst, sym}
use Rattle.port_set.specs.Slots.{AllOpen}
use Rattle.fire_crew.proofs.finish.crew_end.Goals as goal

pub returns-in-Whole-clause-open : goal.returns-in-Whole-clause-open
returns-in-Whole-clause-open g c = subst AllOpen (sym c.finish-end.ensures.ports) c.finish-end.ensures.open

pub returns-in-Spent-clause-open : goal.returns-in-Spent-clause-open
returns-in-Spent-clause-open g c =
    subst AllOpen (sym c.finish-end-in-Spent.ensures.ports) c.finish-end-in-Spent.ensures.open
