use Rattle.match_table.specs.Tables.{held}
use Rattle.part_store.proofs.Running.Paying.{pay_start}
use Rattle.part_store.proofs.run.run_from.Goals as goal

pub run_on-ending-requires-clause-paid : goal.run_on-ending-requires-clause-paid
run_on-ending-requires-clause-paid g c = λ going.
    let table = c.new.result in
    pay_start g.J.Job.image (held table) table.fired c.args.buffer c.begin.new.way c.new.ensures.fired
    c.requires.none c.in-Ok.ensures
