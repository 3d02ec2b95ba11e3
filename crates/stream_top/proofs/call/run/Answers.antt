use Rattle.std.proofs.Common.{refl}
use Rattle.stream_top.specs.Calls as ends
use Rattle.stream_top.proofs.Ending.{ran_whole, ran_cut, ran_starved}
use Rattle.stream_top.proofs.call.run.Goals as goal

pub returns-in-Err : goal.returns-in-Err
returns-in-Err g c = λ words reads due. ends.CallEnds.starved refl refl

pub returns-in-Ok-run_image : goal.returns-in-Ok-run_image
returns-in-Ok-run_image g c = λ words reads due. ran_whole words reads _ _ _ _ _ c.in-Ok.ensures due
    c.in-Ok-run_image.finish c.status_of.result c.status_of.ensures c.in-Ok-run_image.ensures.whole

pub returns-in-Err-Unwritten : goal.returns-in-Err-Unwritten
returns-in-Err-Unwritten g c = λ words reads due. ran_cut words reads _ _ _ _ _ c.in-Ok.ensures due
    c.in-Err-Unwritten.field-0 (cc) c.in-Err-Unwritten.ensures.part

pub returns : goal.returns
returns g c = λ words reads due. ran_starved words reads _ _ _ _ _ c.in-Ok.ensures due
    c.in-Err-NoMemory.field-0 (cc) c.in-Err-NoMemory.ensures.part
