use Rattle.df_core.specs.Rights.{tokens_of}
use Rattle.df_core.proofs.Sizes.Sends.{all_right}
use Rattle.df_core.proofs.list.TokenList.of_right.Goals as goal

pub invariant_of-result : goal.invariant_of-result
invariant_of-result g c = (
  c.requires.room,
  all_right g.J.Job.image g.J.Job.world (tokens_of c.args.raw.items)
      c.requires.right,
)
