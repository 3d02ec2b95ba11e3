use Rattle.std.proofs.Common.{◌≡◌, ap, arith}
use Rattle.store_buf.specs.Earlies.{early_len}
use Rattle.store_buf.proofs.Earlies.{as_long, places}
use Rattle.store_buf.proofs.Filing as P
use Rattle.store_buf.proofs.store.Store.prepare.Goals as goal

pub returns-clause-ok : goal.returns-clause-ok
returns-clause-ok g c = λ image ok.
    let e = c.prepare.ensures in
    let old = c.args.self.now.order in
    let new = c.prepare.new.self in
    record {
      filed = P.roomy_filed image old new ok.filed e.kept e.early e.near e.later e.chain;
      early = (let n : early_len new.early ≡ early_len old.early = as_long new.early old.early
          (ap places e.early) in let w = e.waiting in let r = e.grown in omega (arith, n, w, r, ok.early));
      printed = (let w = e.waiting in omega (arith, w, ok.printed));
    }
