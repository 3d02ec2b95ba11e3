use Rattle.std.proofs.Common.{sym, subst}
use Rattle.annot_check.specs.declared.fault.Bad.{Bad}
use Rattle.annot_check.specs.declared.fault.CheckFault.TheVariants.{Refused}
use Rattle.annot_check.specs.Order.{LastsOk}
use Rattle.annot_check.specs.Seen.{OrderBreach}
use Rattle.annot_check.proofs.Chained.Merging.{merged, same_number, grown_ok, grown_other, joint_is_ok}
use Rattle.annot_check.proofs.merge.merge.Goals as goal

pub returns-in-Err-clause-refused : goal.returns-in-Err-clause-refused
returns-in-Err-clause-refused c image b k s lo mo =
    let r = c.in-Err.ensures.refused in
    let j : LastsOk image b k c.joint-joint.result = subst (LastsOk image b k) (sym c.joint-joint.ensures)
    (joint_is_ok image b k c.args.lasts.now c.args.others.now lo mo) in
    subst (λ (x : Bad). OrderBreach image (Refused x)) (sym r.4)
    (same_number image b k c.joint-joint.result c.args.others.now.top s j mo.top_is
    (mo.top_comes r.0) r.1 r.2 r.3)

pub returns-in-Err-add_some-clause-refused : goal.returns-in-Err-add_some-clause-refused
returns-in-Err-add_some-clause-refused c image b k s lo mo =
    let r = c.in-Err-add_some.ensures.refused in
    let j = c.joint-joint.ensures in
    let x : LastsOk image b k c.in-Ok.first =
    grown_ok image b k c.args.lasts.now c.args.others.now c.in-Ok.first lo mo
    (rw j at c.in-Ok.ensures.added, rw j at c.in-Ok.ensures.apart) in
    subst (λ (y : Bad). OrderBreach image (Refused y)) (sym r.4)
    (same_number image b k c.in-Ok.first c.args.others.now.other s x mo.other_is
    (mo.other_comes r.0) r.1 r.2 r.3)

pub returns-in-Ok-add_some-2-clause-merged : goal.returns-in-Ok-add_some-2-clause-merged
returns-in-Ok-add_some-2-clause-merged c image b k lo mo =
    let j = c.joint-joint.ensures in
    merged image b k c.args.lasts.now c.args.others.now c.in-Ok.first c.in-Ok-add_some.second
    c.in-Ok-add_some-2.third lo mo (rw j at c.in-Ok.ensures.added, rw j at c.in-Ok.ensures.apart)
    (c.in-Ok-add_some.ensures.added, c.in-Ok-add_some.ensures.apart) (
      c.in-Ok-add_some-2.ensures.added,
      c.in-Ok-add_some-2.ensures.apart,
    )

pub returns-in-Err-add_some-2-clause-refused : goal.returns-in-Err-add_some-2-clause-refused
returns-in-Err-add_some-2-clause-refused c image b k s lo mo =
    let r = c.in-Err-add_some-2.ensures.refused in
    let j = c.joint-joint.ensures in
    let x : LastsOk image b k c.in-Ok.first =
    grown_ok image b k c.args.lasts.now c.args.others.now c.in-Ok.first lo mo
    (rw j at c.in-Ok.ensures.added, rw j at c.in-Ok.ensures.apart) in
    let y : LastsOk image b k c.in-Ok-add_some.second =
    grown_other image b k c.in-Ok.first c.args.others.now c.in-Ok-add_some.second x mo
    (c.in-Ok-add_some.ensures.added, c.in-Ok-add_some.ensures.apart) in
    subst (λ (z : Bad). OrderBreach image (Refused z)) (sym r.4)
    (same_number image b k c.in-Ok-add_some.second c.args.others.now.odd s y mo.odd_is
    (mo.odd_comes r.0) r.1 r.2 r.3)
