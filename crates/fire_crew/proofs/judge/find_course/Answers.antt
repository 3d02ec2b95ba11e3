use Rattle.fire_crew.proofs.judge.find_course.Goals as goal

pub returns-in-Err : goal.returns-in-Err
returns-in-Err g c = c.in-Err.ensures.ends c.args.left
