use Rattle.std.proofs.Common.{arith}
use Rattle.match_table.specs.Together.{part_of}
use Rattle.fire_crew.proofs.Paid.{told_more}
use Rattle.fire_crew.proofs.missing.look_through.Goals as goal

pub loop-place-preserved : goal.loop-place-preserved
loop-place-preserved g c = (
  c.in_ok-see_at.ensures.missing,
  λ way e. (let a = c.in_ok-see_at.ensures.reach way e in let b = c.loop-place.invariant.1 way a.0 in (
    b.0,
    told_more g.J.Job.image (part_of c.args.tables.now).held way c.args.from c.loop-place.place
        c.args.table.now b.1 a.1,
  )),
)

pub returns-clause-reach : goal.returns-clause-reach
returns-clause-reach g c = λ way e. (let b = c.loop-place.invariant.1 way e in (
  b.0,
  λ k d low high within. (let count = c.fired_count-end.ensures in
      let t = c.loop-place-test.false in b.1 k d low (omega (arith, count, t, within)) within),
))
