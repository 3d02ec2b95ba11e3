use Rattle.std.proofs.Common.{[], refl}
use Rattle.ws_isa.specs.Walk.{start_tokens}
use Rattle.match_table.specs.Rows.{contents}
use Rattle.match_table.specs.Together.{part_of}
use Rattle.match_table.proofs.Growth.{all_grow_same}
use Rattle.store_buf.proofs.Reaching.{covers_self}
use Rattle.fire_crew.proofs.Alone.{come_start}
use Rattle.fire_crew.proofs.crew.Crew.run_solo.Goals as goal

pub returns-in_default-clause-grow : goal.returns-in_default-clause-grow
returns-in_default-clause-grow g c = all_grow_same (contents c.args.tables)

pub go_alone-left-requires-clause-paid : goal.go_alone-left-requires-clause-paid
go_alone-left-requires-clause-paid g c κs within =
    come_start g.J.Job.image (part_of c.args.tables) c.args.buffer [] c.in-Ok.tokens c.requires.fresh
    c.requires.none refl (rw c.in-Ok.ensures (covers_self (start_tokens g.J.Job.image)))
