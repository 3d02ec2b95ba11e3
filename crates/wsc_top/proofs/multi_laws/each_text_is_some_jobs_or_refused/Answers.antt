use Rattle.wsc_top.proofs.Reading.JobsOnce.{jobs_answer_once}
use Rattle.wsc_top.proofs.multi_laws.each_text_is_some_jobs_or_refused.Goals as goal

pub returns : goal.returns
returns c text = jobs_answer_once c.each_text_is_a_job_or_refused.ensures text
