use Rattle.match_table.specs.Rows.{contents}
use Rattle.match_table.specs.Together.{part_of}
use Rattle.match_table.proofs.Growth.{all_grow_same}
use Rattle.store_buf.proofs.Paying.{pay_more}
use Rattle.fire_crew.specs.Solo.{Knows, Owes}
use Rattle.fire_crew.proofs.crew.Crew.go_alone.Goals as goal

pub returns-in_default-clause-grow : goal.returns-in_default-clause-grow
returns-in_default-clause-grow g c = all_grow_same (contents c.args.tables)

pub go_on-ending-requires-clause-paid : goal.go_on-ending-requires-clause-paid
go_on-ending-requires-clause-paid g c κs within =
    let t = part_of c.args.tables in
    rw c.none-2.ensures.0 (pay_more g.J.Job.image (Knows c.args.buffer) (Owes g.J.Job.image c.args.buffer) t
    c.args.tokens c.pour.new.self c.in-Ok.ensures.taken c.requires.paid)
