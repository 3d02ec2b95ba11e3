use Rattle.wsc_top.proofs.Calling.Due.{due_answers}
use Rattle.wsc_top.proofs.laws.what_is_due_is_answered.Goals as goal

pub returns : goal.returns
returns c words left after faults counted handed back options image input status out due told e =
    due_answers (record { instances = c.walks_go_on.ensures.instances; effects = c.effects_are_one.ensures })
    c.walks_go_on.ensures.ended
    words left after faults counted handed back told options image input status out due e
