use Rattle.std.proofs.Common.{refl, ◌∙◌}
use Rattle.stream_top.specs.Calls as ends
use Rattle.stream_top.proofs.Ending.{answer_failed, answer_long, answer_faulty}
use Rattle.stream_top.proofs.call.refuse.Goals as goal

pub returns-in-Failed : goal.returns-in-Failed
returns-in-Failed g c = λ words reads options line h. c.put.ensures words reads
    (answer_failed words reads options line _ h c.in-Failed.is)

pub returns-in-TooLong : goal.returns-in-TooLong
returns-in-TooLong g c = λ words reads options line h. c.put-in-TooLong.ensures words reads
    (answer_long words reads options line _ h c.in-TooLong.is)

pub returns-in-Ok : goal.returns-in-Ok
returns-in-Ok g c = λ words reads options line h. c.put-in-Ok.ensures words reads
    (answer_faulty words reads options line _ h c.in-Refused.why _ c.in-Refused.is
    (c.as_slice.ensures ∙ c.in-Ok.ensures))

pub returns-in-Err : goal.returns-in-Err
returns-in-Err g c = λ words reads options line h. ends.CallEnds.starved refl refl

pub returns-in-NoMemory : goal.returns-in-NoMemory
returns-in-NoMemory g c = λ words reads options line h. ends.CallEnds.starved refl refl
