use Rattle.std.proofs.Common.{inl, inr, subst}
use Rattle.ws_isa.specs.View as view
use Rattle.ws_isa.specs.Image.{Pad}
use Rattle.ws_isa.specs.Sound.{HasDest}
use Rattle.annot_check.proofs.Shaped.Shapes.{pad_here, pad_rest, pad_more}
use Rattle.annot_check.proofs.facts.Facts.pads_lead.Goals as goal

pub returns-then-not-pad_leads-clause-no : goal.returns-then-not-pad_leads-clause-no
returns-then-not-pad_leads-clause-no c x all = c.pad_leads.ensures.no c.if-not-pad_leads.true
    (λ j q h. all (view.pad c.pad-item.result) j q (c.loop-pad.invariant.here (view.pad c.pad-item.result)
    (pad_here c.args.pads.now c.loop-pad.pad-index c.pad-item.result c.loop-pad-test.true c.pad-item.is))
    (rw c.deref.ensures.value at h))

pub loop-pad-preserved : goal.loop-pad-preserved
loop-pad-preserved c = record {
  here = λ p h. c.loop-pad.invariant.here p
      (pad_more c.args.pads.now c.loop-pad.pad-index c.pad-item.result p c.loop-pad-test.true c.pad-item.is
      h);
  rest = λ p j q h d. elim (c.loop-pad.invariant.rest p j q h d) [
    | inl f ↦ inl f
    | inr g ↦ elim
        (pad_rest c.args.pads.now c.loop-pad.pad-index c.pad-item.result p c.loop-pad-test.true c.pad-item.is
        g) [
          | inl e ↦ inl (c.pad_leads.ensures.yes c.if-not-pad_leads.false j q (rw c.deref.ensures.value
              (subst (λ (x : Pad). HasDest x.dests j q) e d)))
          | inr r ↦ inr r
        ]
  ];
}
