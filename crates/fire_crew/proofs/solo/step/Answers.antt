use Rattle.std.proofs.Common.{arith}
use Rattle.df_core.proofs.Keeping.Ports.{has_some}
use Rattle.match_table.specs.Rows.{contents}
use Rattle.match_table.specs.Together.{part_of}
use Rattle.match_table.proofs.Growth.{all_grow_same}
use Rattle.store_buf.proofs.Paying.{pay_held, pay_more}
use Rattle.fire_crew.specs.Solo.{Knows, Owes}
use Rattle.fire_crew.proofs.Alone.{next_none, next_some}
use Rattle.fire_crew.proofs.solo.step.Goals as goal

pub returns-in_default-clause-grow : goal.returns-in_default-clause-grow
returns-in_default-clause-grow g c = all_grow_same (contents c.args.run.now.tables)

pub returns-in_default-next-clause-grow : goal.returns-in_default-next-clause-grow
returns-in_default-next-clause-grow g c = all_grow_same (contents c.args.run.now.tables)

pub returns-then-run-eq0-clause-grow : goal.returns-then-run-eq0-clause-grow
returns-then-run-eq0-clause-grow g c = all_grow_same (contents c.args.run.now.tables)

pub returns-then-see_come-clause-grow : goal.returns-then-see_come-clause-grow
returns-then-see_come-clause-grow g c = all_grow_same (contents c.args.run.now.tables)

pub see_whole-requires-clause-paid : goal.see_whole-requires-clause-paid
see_whole-requires-clause-paid g c = grind (arith, next_none)

pub bring_on-requires-clause-paid : goal.bring_on-requires-clause-paid
bring_on-requires-clause-paid g c =
    let buffer = c.args.run.now.buffer in
    let sent = c.args.run.now.results.sent in
    let way = c.args.run.now.way in
    pay_more _ (Knows buffer) (Owes g.J.Job.image buffer) _ _ _ (next_some _ _ _ _ _ c.in-Some.is
    c.in-Ok.ensures.next) c.requires.paid

pub returns-then-see_come-clause-goes : goal.returns-then-see_come-clause-goes
returns-then-see_come-clause-goes g c =
    let image = g.J.Job.image in
    let t = part_of c.args.run.now.tables in
    let x = c.in-Some.token in
    let buffer = c.args.run.now.buffer in
    let sent = c.args.run.now.results.sent in
    let old = c.args.run.now.way in
    let way = c.follow.new.self in (
      c.requires.going,
      rw c.in-Ok.ensures.none (pay_held _ (Knows buffer) (Owes image buffer) _ _ _ (has_some _
          (c.see_come.ensures.come c.if-see_come.true)) (pay_more _ (Knows buffer) (Owes image buffer) _ _ _
          (next_some _ _ _ _ _ c.in-Some.is c.in-Ok.ensures.next) c.requires.paid)),
    )
