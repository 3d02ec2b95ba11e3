use Rattle.std.proofs.Common.{refl}
use Rattle.match_table.specs.Together.{part_of}
use Rattle.match_table.specs.Growth.{content_at}
use Rattle.match_table.specs.Rows.{contents}
use Rattle.store_buf.proofs.Reaching.{covers_self}
use Rattle.fire_crew.proofs.Paid.{told_all, all_paid}
use Rattle.fire_crew.proofs.missing.missing.Goals as goal

pub loop-left-init : goal.loop-left-init
loop-left-init g c = (
  c.in_ok-look_last.ensures.missing,
  λ way k. (let e = c.in_ok-keep.ensures.reach way
      (λ w i p v h. k w i p v (c.in_ok-look_last.ensures.more w i p v h)) in (
        rw (← c.in_ok-start.ensures) e.1,
        c.begin-places.ensures way,
      )),
)

pub loop-left-preserved : goal.loop-left-preserved
loop-left-preserved g c = (
  c.in_ok-look_across.ensures.missing,
  λ way e. (let a = c.in_ok-look_across.ensures.reach way e in let b = c.loop-left.invariant.1 way a.0 in
      (b.0, a.1 b.1)),
)

pub returns-clause-paid : goal.returns-clause-paid
returns-clause-paid g c = λ few. (let way = c.look_back.new.found in
    let r = c.in_ok-look_back.ensures.reach way (covers_self _) in
    let last = c.in_ok-look_across-2.ensures in
    let l = last.reach way r.0 in
    let b = c.loop-left.invariant.1 way l.0 in
    all_paid g.J.Job.image (contents c.args.tables.now) c.facts.ensures.operands way c.args.buffer.now b.0 (λ
    k lt. told_all g.J.Job.image (part_of c.args.tables.now).held way _ (content_at (contents
    c.args.tables.now) k) (last.all refl k lt) (l.1 b.1 k lt)) r.1 c.requires.known)
