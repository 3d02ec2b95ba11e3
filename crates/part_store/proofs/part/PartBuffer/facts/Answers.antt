use Rattle.std.proofs.Common.{subst}
use Rattle.store_buf.specs.Finding.{place_in}
use Rattle.store_buf.proofs.Once.{own}
use Rattle.part_store.specs.Calls.{PartIdle}
use Rattle.part_store.proofs.part.PartBuffer.facts.Goals as goal

pub returns-clause-parted : goal.returns-clause-parted
returns-clause-parted g c = rw (← c.self.view_is) (c.self.invariant.calm.0.parting, c.self.invariant.calm.1)

pub returns-clause-idle : goal.returns-clause-idle
returns-clause-idle g c = subst (PartIdle g.J.Job.image) c.self.view_is c.self.invariant.idle

pub returns-clause-failed : goal.returns-clause-failed
returns-clause-failed g c = rw (← c.self.view_is) c.self.invariant.failed

pub returns-clause-once : goal.returns-clause-once
returns-clause-once g c = rw (← c.self.view_is) (let o = c.self.inside.parts.order in
    own o.kept.items (place_in o.kept.items o.index) o.ok.index)
