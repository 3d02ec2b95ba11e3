use Rattle.wsc_top.proofs.Told.Walked.{job_walk, bench_walk}
use Rattle.wsc_top.proofs.laws.each_run_ends_as_its_walk.Goals as goal

pub returns-clause-job : goal.returns-clause-job
returns-clause-job c words left after faults counted handed back status out image ran options parts input
    answer told is = job_walk c.words_are_one_line.ensures words left after faults counted handed
    c.each_text_is_a_job_or_refused.ensures options parts input told status out image back ran is answer

pub returns-clause-bench : goal.returns-clause-bench
returns-clause-bench c words left after faults counted handed back status out image ran options answer line is
    = bench_walk c.words_are_one_line.ensures words left after faults counted handed options line status out
    image back ran is answer
