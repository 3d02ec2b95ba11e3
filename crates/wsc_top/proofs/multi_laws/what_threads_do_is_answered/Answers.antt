use Rattle.wsc_top.proofs.Several.ThreadAnswers.{due_replies}
use Rattle.wsc_top.proofs.multi_laws.what_threads_do_is_answered.Goals as goal

pub returns : goal.returns
returns c words left after faults counted handed back options threads statuses out due told acts =
    due_replies words left after faults counted handed
    (record { instances = c.walks_go_on.ensures.instances; effects = c.effects_are_one.ensures })
    c.walks_go_on.ensures.ended
    options threads statuses out back due told acts
