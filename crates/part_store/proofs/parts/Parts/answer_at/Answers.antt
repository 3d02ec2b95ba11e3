use Rattle.std.proofs.Common.{ap}
use Rattle.store_buf.specs.declared.kept.Kept.{Kept}
use Rattle.part_store.proofs.Moving.Answering as A
use Rattle.part_store.proofs.parts.Parts.answer_at.Goals as goal

pub returns-clause-ok : goal.returns-clause-ok
returns-clause-ok g c = let e = c.change.ensures in let ok = c.requires.ok in
    let q = c.request-kept.ensures in record {
      early = rw (e.early, e.waiting) ok.early;
      printed = rw e.waiting ok.printed;
      queues = rw e.waiting ok.queues;
      lines = rw e.waiting ok.lines;
      counted = ok.counted;
      bare = λ w i b. A.kept_still c.args.self.now.order _ _ c.requires.within (ap (λ (k : Kept). k.wave) q)
          (ap (λ (k : Kept). k.instr) q) _ e.kept w i (ok.bare w i b);
    }
