use Rattle.std.proofs.Common.{arith}
use Rattle.std.proofs.lemmas.List.Elements.{All-more}
use Rattle.match_table.specs.Tables.{of_memory}
use Rattle.fire_crew.specs.Owing.{IsKnown}
use Rattle.match_table.proofs.FiredPlaces.{none_fired}
use Rattle.fire_crew.proofs.Paid.{all_done}
use Rattle.fire_crew.proofs.unknown.note_all_unknown.Goals as goal

pub note_unknown-requires : goal.note_unknown-requires
note_unknown-requires g c = grind arith

pub loop-place-preserved : goal.loop-place-preserved
loop-place-preserved g c = λ e. (let a = c.in_ok-note_unknown.ensures e in
    let b = c.loop-place.invariant a.0 in
    let t = c.loop-place-test.true in let count = c.asked_count-place-end.ensures in (
      b.0,
      All-more (IsKnown c.args.buffer.now.kept) (of_memory g.J.Job.image c.args.table.now.fired)
          c.loop-place.place none_fired (omega (arith, t, count)) b.1 (a.1 none_fired),
    ))

pub returns : goal.returns
returns g c = λ e. (let b = c.loop-place.invariant e in
    let t = c.loop-place-test.false in
    let count = c.asked_count-place-end.ensures in (
      b.0,
      all_done (IsKnown c.args.buffer.now.kept) _ _ (omega (arith, t, count)) b.1,
    ))
