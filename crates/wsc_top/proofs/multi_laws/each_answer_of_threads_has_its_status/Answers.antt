use Rattle.wsc_top.proofs.Several.ThreadAnswers.{jobs_answer_so}
use Rattle.wsc_top.proofs.multi_laws.each_answer_of_threads_has_its_status.Goals as goal

pub returns : goal.returns
returns c words left after faults counted handed back status out image images options jobs reply told given
    whole = jobs_answer_so c.words_are_one_line.ensures words left after faults counted handed
    c.each_text_is_a_job_or_refused.ensures options jobs given told status out image images back reply whole
