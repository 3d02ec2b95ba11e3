use Rattle.wsc_top.proofs.Reading.Generated.{generated_job}
use Rattle.wsc_top.proofs.laws.each_generated_job_is_a_job.Goals as goal

pub returns : goal.returns
returns c = generated_job c.generated_programs_are_accepted.ensures c.printed_reads_the_same.ensures
    c.same_programs_are_accepted_alike.ensures
