use Rattle.std.proofs.Common.{arith}
use Rattle.df_core.specs.Rights.{IsRight}
use Rattle.df_core.proofs.Sizes.TokenLists.{front_right}
use Rattle.store_buf.proofs.answers.BufferAnswers.pop.Goals as goal

pub invariant_of-self-2 : goal.invariant_of-self-2
invariant_of-self-2 g c = (
  (let e = c.pop.ensures.capacity in let k = c.self.invariant.0 in omega (arith, e, k)),
  front_right (IsRight g.J.Job.image g.J.Job.world) c.self.inside.told.items c.pop.new.self.items _
      c.in_ok-wave.ensures.items c.self.invariant.1,
)
