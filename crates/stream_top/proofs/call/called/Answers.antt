use Rattle.stream_top.proofs.call.called.Goals as goal

pub returns-in-Err : goal.returns-in-Err
returns-in-Err g c = λ words line. c.refuse.ensures words _ _ line c.in-Err.ensures.none
