use Rattle.one_result.proofs.Images.{one_count}
use Rattle.one_result.proofs.Ported.{one_run_count}
use Rattle.one_result.proofs.laws.images_fire_alike.Goals as goal

pub returns-clause-assembly : goal.returns-clause-assembly
returns-clause-assembly c = one_count (record {
  instances = c.walks_go_on.ensures.instances;
  effects = c.effects_are_one.ensures;
})

pub returns-clause-job : goal.returns-clause-job
returns-clause-job c = one_run_count (record {
  instances = c.walks_go_on.ensures.instances;
  effects = c.effects_are_one.ensures;
}) c.each_text_is_a_job_or_refused.ensures
