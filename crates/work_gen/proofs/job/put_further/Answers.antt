use Rattle.work_gen.proofs.Pieces.{further_step}
use Rattle.work_gen.proofs.job.put_further.Goals as goal

pub loop-before-preserved : goal.loop-before-preserved
loop-before-preserved c =
    further_step c.args.number c.loop-before.before _ _ _ _ c.loop-before.invariant c.in_ok-extend.ensures.ok
    c.in_ok-put_word.ensures
