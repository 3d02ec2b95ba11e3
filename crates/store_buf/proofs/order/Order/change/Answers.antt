use Rattle.std.proofs.Common.{refl, arith}
use Rattle.store_buf.proofs.Lists.{count_alike}
use Rattle.store_buf.proofs.Filing as P
use Rattle.store_buf.proofs.Ordered as O
use Rattle.store_buf.proofs.order.Order.change.Goals as goal

pub invariant_of-self : goal.invariant_of-self
invariant_of-self c = let o = c.args.self.now in record {
  ok = O.set_indexed _ _ _ _ _ o.ok _ _ c.requires.within c.requires.wave c.requires.instr refl
      (count_alike _ _ _ _ c.requires.within c.requires.waits);
}

pub returns-clause-places : goal.returns-clause-places
returns-clause-places c = let o = c.args.self.now in
    O.places_same _ _ _ _ _ o.ok _ _ c.requires.within c.requires.wave c.requires.instr refl

pub returns-clause-filed : goal.returns-clause-filed
returns-clause-filed c = λ image ripple filed. let r = c.requires in
    P.filed_changed image c.args.self.now _ c.args.place (P.but_one image c.args.self.now c.args.place filed)
    c.args.kept r.within refl filed.early
    (λ e. grind (arith, filed, e, ripple, r.wave, r.instr, r.waits)) refl refl refl
