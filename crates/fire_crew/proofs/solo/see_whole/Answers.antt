use Rattle.match_table.specs.Together.{part_of}
use Rattle.fire_crew.proofs.Asking.{all_come}
use Rattle.fire_crew.proofs.solo.see_whole.Goals as goal

pub all_run-requires-clause-known : goal.all_run-requires-clause-known
all_run-requires-clause-known g c = c.requires.paid.asked

pub all_run-requires-clause-come : goal.all_run-requires-clause-come
all_run-requires-clause-come g c = λ m. (let ok = c.facts.ensures.stands.1.ok in
    all_come g.J.Job.image (part_of c.args.tables.now) c.args.buffer.now m c.requires.paid
    (λ w i h. (ok.listed w i).0 h) ok.issued_kept)
