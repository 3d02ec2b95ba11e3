use Rattle.std.proofs.Common.{arith}
use Rattle.part_store.proofs.Told.Quieting as Q
use Rattle.part_store.proofs.quiet.QuietMemoryOrder.take_in.Goals as goal

pub invariant_of-self : goal.invariant_of-self
invariant_of-self g c = (
  Q.bare_after _ _ c.self.invariant.1 c.self.invariant.2 _ _ _ _ c.requires.right c.self.invariant.0
      c.facts.ensures.parted c.facts-2.ensures.parted c.facts-2.ensures.once c.facts.ensures.once _
      c.take_whole-answer.ensures.submitted,
  c.self.invariant.1,
  c.self.invariant.2,
)

pub returns-clause-submitted : goal.returns-clause-submitted
returns-clause-submitted g c = grind (arith, Q.submit_so)
