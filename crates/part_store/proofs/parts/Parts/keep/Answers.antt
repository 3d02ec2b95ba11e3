use Rattle.std.proofs.Common.{◌+◌, ◌≡◌, ◌≤◌, ◌++◌, ◌∷◌, [], arith}
use Rattle.store_buf.proofs.Earlies.{as_long}
use Rattle.part_store.proofs.Running.Coming as C
use Rattle.part_store.proofs.parts.Parts.keep.Goals as goal
use Rattle.ws_words.proofs.Results.{on_ok}

pub returns-clause-ok : goal.returns-clause-ok
returns-clause-ok g c =
    let o = c.args.self.now.order in
    let n = c.add.new.self in
    let m : n.waiting ≤ o.waiting + 1 = C.at_most c.add.result n.waiting o.waiting c.add.ensures.waiting
    c.add.ensures.still in
    record {
      early = C.both c.add.result c.add.ensures.room (C.map_err c.add.result (λ (w : n.waiting ≡ o.waiting).
          let e = as_long n.early o.early c.add.ensures.early in
          omega (arith, w, e, c.add.ensures.grown, c.requires.ok.early)) c.add.ensures.still);
      printed = omega (arith, m, c.in_ok-reserve.ensures.ok);
      queues = omega (arith, m, c.in_ok-reserve-2.ensures.room);
      lines = omega (arith, m, c.in_ok-reserve-2.ensures.lines);
      counted = c.in_ok-reserve-2.ensures.ok c.requires.ok.counted;
      bare = λ w i e. let old = c.requires.ok.bare w i e in
          C.both c.add.result (on_ok c.add.result (λ (q : n.kept.items ≡ o.kept.items ++ c.args.kept ∷ []). rw
          q (C.kept_more o.kept.items c.args.kept w i old)) c.add.ensures.kept) (C.map_err c.add.result (λ (q
          : n.kept.items ≡ o.kept.items). rw q old) c.add.ensures.unchanged);
    }
