use Rattle.wsc_top.proofs.Told.Walked.{jobs_walk}
use Rattle.wsc_top.proofs.multi_laws.threads_end_as_their_walks.Goals as goal

pub returns : goal.returns
returns c words left after faults counted handed back status out image images options jobs reply told whole =
    jobs_walk c.words_are_one_line.ensures words left after faults counted handed
    c.each_text_is_a_job_or_refused.ensures options jobs told status out image images back reply whole
