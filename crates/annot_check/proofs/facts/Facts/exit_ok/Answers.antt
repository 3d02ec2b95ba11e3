use Rattle.std.proofs.Common.{◌∙◌, sym, ap}
use Rattle.ws_isa.specs.View as view
use Rattle.ws_isa.specs.Image.{Block}
use Rattle.annot_check.proofs.Shaped.Exiting.{goto_shape, branch_shape, landings_shape, stop_shape}
use Rattle.annot_check.proofs.facts.Facts.exit_ok.Goals as goal

pub returns-in-Branch-clause-yes : goal.returns-in-Branch-clause-yes
returns-in-Branch-clause-yes c = λ t. branch_shape
    (view.image c.args.image.now) c.args.number c.in-Branch.source c.in-Branch.field-1 c.in-Branch.field-2
    (sym (ap (λ (y : Block). y.exit) c.block.ensures) ∙ ap view.exit c.in-Branch.is)
    (c.source_ok.ensures.yes t)

pub returns-in-Send-clause-yes : goal.returns-in-Send-clause-yes
returns-in-Send-clause-yes c = λ t. landings_shape
    (view.image c.args.image.now) c.args.number c.in-Send.source c.in-Send.field-1.items
    (sym (ap (λ (y : Block). y.exit) c.block.ensures) ∙ ap view.exit c.in-Send.is)
    (c.source_ok-in-Send.ensures.yes t)

pub returns-in-Goto-clause-yes : goal.returns-in-Goto-clause-yes
returns-in-Goto-clause-yes c = λ t. goto_shape (view.image c.args.image.now) c.args.number c.in-Goto.field-0
    (sym (ap (λ (y : Block). y.exit) c.block.ensures) ∙ ap view.exit c.in-Goto.is)

pub returns-in-Stop-clause-yes : goal.returns-in-Stop-clause-yes
returns-in-Stop-clause-yes c = λ t. stop_shape (view.image c.args.image.now) c.args.number
    (sym (ap (λ (y : Block). y.exit) c.block.ensures) ∙ ap view.exit c.in-Stop.is)
