use Rattle.std.proofs.Common.{subst, sym}
use Rattle.port_set.specs.Slots.{AllOpen}
use Rattle.fire_crew.proofs.finish.stopped.Goals as goal

pub returns-in-Some-Ended-clause-open : goal.returns-in-Some-Ended-clause-open
returns-in-Some-Ended-clause-open g c =
    subst AllOpen (sym c.finish-end.ensures.ports) c.finish-end.ensures.open

pub returns-in-Some-Stopped-clause-open : goal.returns-in-Some-Stopped-clause-open
returns-in-Some-Stopped-clause-open g c =
    subst AllOpen (sym c.finish-end-in-Some-Stopped.ensures.ports) c.finish-end-in-Some-Stopped.ensures.open

pub returns-in_default-clause-open : goal.returns-in_default-clause-open
returns-in_default-clause-open g c =
    subst AllOpen (sym c.finish-end-in_default.ensures.ports) c.finish-end-in_default.ensures.open
