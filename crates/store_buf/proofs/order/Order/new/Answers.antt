use Rattle.std.proofs.Common.{length, ap, arith}
use Rattle.store_buf.proofs.Earlies.{none_stands}
use Rattle.store_buf.proofs.order.Order.new.Goals as goal

pub returns-clause-filed : goal.returns-clause-filed
returns-clause-filed c = λ image. let none = ap length c.new.ensures.items in record {
  near = λ p h. absurd (let l = h.within in omega (arith, l, none));
  far = λ p l. absurd (omega (arith, l, none));
  early = λ n i h. absurd (none_stands c.new-5.result c.new-5.ensures n i h);
}
