use Rattle.std.proofs.Common.{length, ap, arith}
use Rattle.match_table.specs.Together.{part_of}
use Rattle.fire_crew.specs.Owing.{AnswersReach}
use Rattle.fire_crew.proofs.Paid.{one_more, all_done}
use Rattle.fire_crew.proofs.Rights.{memory_at, answers_at}
use Rattle.fire_crew.proofs.missing.look_back.Goals as goal

pub look_up-requires-clause-memory : goal.look_up-requires-clause-memory
look_up-requires-clause-memory g c = memory_at g.J.Job.image g.J.Job.world c.facts-2.ensures.formed
    c.facts-2.ensures.sound c.args.buffer.now c.facts.ensures.stands.0 c.facts.ensures.stands.1.ok
    c.facts.ensures.once c.kept-kept-items.result.now c.kept-kept-items.ensures c.loop-kept.kept-index
    c.loop-kept-test.true

pub look_up-requires-clause-right : goal.look_up-requires-clause-right
look_up-requires-clause-right g c = answers_at g.J.Job.image g.J.Job.world c.facts-2.ensures.formed
    c.facts-2.ensures.sound c.args.buffer.now c.facts.ensures.stands.0 c.facts.ensures.stands.1.ok
    c.facts.ensures.once c.kept-kept-items.result.now c.kept-kept-items.ensures c.loop-kept.kept-index
    c.loop-kept-test.true

pub loop-kept-preserved : goal.loop-kept-preserved
loop-kept-preserved g c = (
  c.in_ok-look_up.ensures.missing,
  λ way e. (let a = c.in_ok-look_up.ensures.reach way e in let b = c.loop-kept.invariant.1 way a.0 in (
    b.0,
    one_more (AnswersReach g.J.Job.image (part_of c.args.tables.now).held way) _ _ _ _
        c.kept-kept-items.ensures c.loop-kept-test.true b.1 a.1,
  )),
)

pub returns-clause-reach : goal.returns-clause-reach
returns-clause-reach g c = λ way e. (let b = c.loop-kept.invariant.1 way e in
    let t = c.loop-kept-test.false in
    let l = ap length c.kept-kept-items.ensures in (
      b.0,
      all_done (AnswersReach g.J.Job.image (part_of c.args.tables.now).held way) c.args.buffer.now.kept
          c.loop-kept.kept-index (omega (arith, t, l)) b.1,
    ))
