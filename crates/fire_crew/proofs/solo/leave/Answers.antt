use Rattle.std.proofs.Common.{◌++◌, Option, subst}
use Rattle.match_table.specs.Together.{part_of}
use Rattle.store_buf.proofs.Paying.{pay_more}
use Rattle.fire_crew.specs.Ends.{IsGoing}
use Rattle.fire_crew.specs.Solo.{GoesOn, Knows, Owes, Paid}
use Rattle.fire_crew.specs.declared.judge.Ending.{Ending}
use Rattle.fire_crew.proofs.solo.leave.Goals as goal

pub returns-in-Ok-clause-goes : goal.returns-in-Ok-clause-goes
returns-in-Ok-clause-goes g c =
    let run = c.args.run in
    let ts = run.results.sent ++ run.way in
    let r : IsGoing run.buffer × Paid g.J.Job.image (part_of run.tables) run.buffer ts =
    subst (λ (o : Option Ending). GoesOn g.J.Job.image g.J.Job.world g.J.Job.began (part_of run.tables)
    run.left run.buffer ts o) c.in_default.is c.requires in (
      r.0,
      pay_more g.J.Job.image (Knows run.buffer) (Owes g.J.Job.image run.buffer) (part_of run.tables) ts
          c.pour_way.new.tokens (rw (← c.listed-tokens.ensures) c.in-Ok.ensures) r.1,
    )
