use Rattle.std.proofs.Common.{refl, ◌∙◌, arith}
use Rattle.store_buf.proofs.Filing as P
use Rattle.store_buf.proofs.Ordered as O
use Rattle.store_buf.proofs.order.Order.push.Goals as goal

pub invariant_of-self : goal.invariant_of-self
invariant_of-self c = let o = c.args.self.now in let k = c.args.kept in
    let p = c.requires.prepared in record {
      ok = O.more_indexed o.kept.items _ o.index c.put.new.self o.waiting _ o.chain.wave k o.ok
          c.requires.waits c.push_reserved.ensures.items (omega arith)
          (O.found o.kept.items o.index k.wave k.instr c.args.hook p.stands
          ∙ O.unplaced o.index k.wave c.args.hook p.node.stands) c.put.ensures.one
          (c.put.ensures.places o.kept.items k o.ok.as_many refl p.stands);
    }

pub returns-clause-filed : goal.returns-clause-filed
returns-clause-filed c = λ image filed.
    P.but_last image c.args.self.now _ filed refl (λ n r p h. h) (λ w n r p h. h) filed.early c.args.kept
    c.push_reserved.ensures.items
