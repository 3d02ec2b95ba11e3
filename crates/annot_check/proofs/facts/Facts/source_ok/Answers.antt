use Rattle.std.proofs.Common.{◌∙◌, sym, arith}
use Rattle.ws_isa.specs.View as view
use Rattle.annot_check.proofs.Shaped.Shapes.{giving_is}
use Rattle.annot_check.proofs.facts.Facts.source_ok.Goals as goal

pub returns-clause-yes : goal.returns-clause-yes
returns-clause-yes c x = (
  (omega (arith, c.requires.first), omega (arith, c.requires.next)),
  giving_is (view.image c.args.image.now) c.args.source c.op.result (c.op.ensures ∙
      c.requires.facts.ops c.args.source) ∙ (sym c.gives.ensures ∙ x),
)

pub returns-clause-no : goal.returns-clause-no
returns-clause-no c x i g = cc (sym x ∙ (c.gives.ensures ∙
    (sym (giving_is (view.image c.args.image.now) c.args.source c.op.result (c.op.ensures ∙
    c.requires.facts.ops c.args.source)) ∙ g)))
