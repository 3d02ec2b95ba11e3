use Rattle.std.proofs.Common.{arith}
use Rattle.df_core.specs.Rights.{tokens_of}
use Rattle.df_core.proofs.Sizes.Sends.{all_right}
use Rattle.part_store.proofs.part.PartBuffer.submit_into.Goals as goal

pub invariant_of-answers : goal.invariant_of-answers
invariant_of-answers g c = (
  (let e = c.answers.invariant.0 in let k = c.clear.ensures.capacity in
      let m = c.take_whole.ensures.room in omega (arith, e, k, m)),
  all_right g.J.Job.image g.J.Job.world (tokens_of c.take_whole.new.told.items) c.take_whole.ensures.right,
)
