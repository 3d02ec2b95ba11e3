use Rattle.std.proofs.Common.{◌∙◌, refl, ap, arith}
use Rattle.df_core.specs.Places.{image_of}
use Rattle.store_buf.specs.declared.order.Order.{Order}
use Rattle.store_buf.proofs.Filing as F
use Rattle.store_buf.proofs.Ordered as O
use Rattle.store_buf.proofs.order.Order.first.Goals as goal

pub returns-then-has_number-clause-first : goal.returns-then-has_number-clause-first
returns-then-has_number-clause-first c = let y = c.has_number.ensures.yes c.if-has_number.true in record {
  here = y.0;
  least = λ q h. let n = c.in-Some.ensures.top.least _ _ ((c.loop-number.invariant.filed.near q h).turn) in
      omega (arith, y.1, n);
}

pub loop-number-preserved : goal.loop-number-preserved
loop-number-preserved c = record {
  filed = F.turn_gone (image_of c.args.program.now) c.loop-number.self _ c.in-Some.number c.in-Some.place
      c.loop-number.invariant.filed c.loop-number.invariant.filed.early refl refl refl refl
      (λ n p h. c.drop_top.ensures.others _ _ n p c.in-Some.ensures.top h)
      (λ h e. c.has_number.ensures.no c.if-has_number.false h e);
  same = O.same_but c.loop-number.self _ _ ∙ ap (λ (o : Order). record o {
    near = record o.near
        { turns = c.drop_top.new.self };
  }) c.loop-number.invariant.same;
}

pub returns-clause-first : goal.returns-clause-first
returns-clause-first c = λ p h. c.in_default.ensures.top _ p
    ((c.loop-number.invariant.filed.near p
    (record { within = h.within; current = h.current; waits = h.waits })).turn)

pub returns-clause-filed : goal.returns-clause-filed
returns-clause-filed c = record {
  near = λ p h.
      absurd (c.in_default.ensures.top _ p
      ((c.loop-number.invariant.filed.near p
      (record { within = h.within; current = h.current; waits = h.waits })).turn));
  far = c.loop-number.invariant.filed.far;
  early = c.loop-number.invariant.filed.early;
}
