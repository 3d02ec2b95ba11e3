use Rattle.std.proofs.Common.{◌∙◌, refl, ap, arith}
use Rattle.df_core.specs.Places.{image_of}
use Rattle.store_buf.specs.declared.order.Order.{Order}
use Rattle.store_buf.proofs.Filing as F
use Rattle.store_buf.proofs.Ordered as O
use Rattle.store_buf.proofs.order.Order.early.Goals as goal

pub loop-ripple-preserved : goal.loop-ripple-preserved
loop-ripple-preserved c = record {
  filed = F.load_gone (image_of c.args.program.now) c.loop-ripple.self _ c.in-Some.ripple c.in-Some.place
      c.loop-ripple.invariant.filed c.loop-ripple.invariant.filed.early refl refl refl refl
      (λ n p h. c.drop_top.ensures.others _ _ n p c.in-Some.ensures.top h)
      (λ h e. c.has_ripple.ensures.no c.if-has_ripple.false h e);
  same = O.same_but c.loop-ripple.self _ _ ∙ ap (λ (o : Order). record o {
    near = record o.near
        { loads = c.drop_top.new.self };
  }) c.loop-ripple.invariant.same;
}

pub returns-then-ripple-position-clause-early : goal.returns-then-ripple-position-clause-early
returns-then-ripple-position-clause-early c = λ p e. let n = c.in-Some.ensures.top.least _ _
    ((c.loop-ripple.invariant.filed.near p e.here).load e.ripple e.is) in
    omega (arith, n, e.passed, c.position.ensures, c.if-ripple-position.true)

pub returns-clause-early : goal.returns-clause-early
returns-clause-early c = λ p e. c.in_default.ensures.top _ p
    ((c.loop-ripple.invariant.filed.near p e.here).load e.ripple e.is)
