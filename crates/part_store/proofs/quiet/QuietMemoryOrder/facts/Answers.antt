use Rattle.df_core.specs.Core.{has}
use Rattle.part_store.proofs.Told.Wholly as W
use Rattle.part_store.proofs.quiet.QuietMemoryOrder.facts.Goals as goal

pub returns-clause-stands : goal.returns-clause-stands
returns-clause-stands g c =
    let inner = c.self.inside.inner in
    let parted = c.facts.ensures.parted in
    rw (← c.self.view_is) (
      parted.0.memory,
      W.buffer_so g.J.Job.image g.J.Job.world c.self.invariant.1 c.self.invariant.2 g.J.Job.began
          inner (has inner.fault) parted.0.memory
          (W.on_now g.J.Job.image g.J.Job.world c.self.invariant.1 c.self.invariant.2 g.J.Job.began
          inner c.self.invariant.0 parted) c.facts.ensures.once parted.0.fault,
    )

pub returns-clause-idle : goal.returns-clause-idle
returns-clause-idle g c =
    let inner = c.self.inside.inner in
    let parted = c.facts.ensures.parted in
    rw (← c.self.view_is) (λ f t. W.idle_so g.J.Job.image g.J.Job.world c.self.invariant.1 c.self.invariant.2
    g.J.Job.began inner (has inner.fault) parted.0.memory (W.on_now g.J.Job.image g.J.Job.world
    c.self.invariant.1 c.self.invariant.2 g.J.Job.began inner c.self.invariant.0 parted) (c.facts.ensures.idle
    f t))
