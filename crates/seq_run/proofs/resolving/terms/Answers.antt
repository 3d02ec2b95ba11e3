use Rattle.seq_run.proofs.Resolves.{terms_more}
use Rattle.seq_run.proofs.resolving.terms.Goals as goal

pub loop-e-preserved : goal.loop-e-preserved
loop-e-preserved c = λ scope are. terms_more scope c.args.es.now c.loop-e.e-index c.e-item.result
    c.loop-e.list.items c.push.new.self.items c.in_ok-term.field-0 c.loop-e-test.true c.e-item.is
    (c.loop-e.invariant scope are) (c.in_ok-term.ensures scope are) c.in_ok-push.ensures.items
