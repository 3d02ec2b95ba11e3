use Rattle.stream_top.specs.Calls as ends
use Rattle.stream_top.proofs.Ending.{cut_answer}
use Rattle.stream_top.proofs.call.put.Goals as goal

pub returns-in-Ok : goal.returns-in-Ok
returns-in-Ok g c = λ words reads a. ends.CallEnds.answered _ a (c.in-Ok.ensures.ok, c.in-Ok.ensures.flushed)

pub returns-in-Err : goal.returns-in-Err
returns-in-Err g c = λ words reads a. cut_answer words reads _ _ _ a c.in-Err.ensures.failed
    c.in-Err.ensures.prefix
