use Rattle.std.proofs.Common.{List, sym, subst, arith}
use Rattle.store_buf.specs.declared.kept.Kept.{Kept}
use Rattle.store_buf.specs.Finding.{HookIn}
use Rattle.store_buf.specs.Indexed.{Indexed}
use Rattle.store_buf.proofs.Ordered as O
use Rattle.store_buf.proofs.order.Order.prepare.Goals as goal

pub make_room-requires : goal.make_room-requires
make_room-requires c = let o = c.args.self.now in let k = c.args.kept in
    O.unkept o.kept.items o.index k.wave k.instr c.args.hook c.requires.hook o.ok.as_many c.requires.fresh

pub invariant_of-self-2 : goal.invariant_of-self-2
invariant_of-self-2 c = let o = c.args.self.now in let e = c.make_room.ensures in record {
  ok = subst (λ (ks : List Kept). Indexed ks c.make_room.new.self o.waiting o.chain.wave)
      (sym c.reserve.ensures.items)
      (O.same_indexed o.kept.items o.index c.make_room.new.self e.nodes e.roots o.waiting o.chain.wave o.ok);
}

pub returns-clause-prepared : goal.returns-clause-prepared
returns-clause-prepared c = let o = c.args.self.now in let k = c.args.kept in
    let e = c.in_ok-make_room.ensures in
    let r = c.in_ok-reserve.ensures in
    let s = c.in_ok-reserve-2.ensures in
    record {
      space = omega (arith, r.ok, r.len);
      room = omega (arith, s.room);
      few = omega (arith, c.if-self.false);
      stands = subst (λ (ks : List Kept). HookIn ks c.make_room.new.self k.wave k.instr c.args.hook)
          (sym r.items)
          (O.same_hook o.kept.items o.index c.make_room.new.self e.nodes e.roots k.wave k.instr c.args.hook
          c.requires.hook);
      node = e.room o.kept.items k.instr c.requires.hook;
    }
