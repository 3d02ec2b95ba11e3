use Rattle.std.proofs.Common.{◌≡◌, suc, sym, ap, ◌∙◌}
use Rattle.ws_isa.specs.Image as plain
use Rattle.ws_isa.specs.Image.{first_number, Goto}
use Rattle.ws_isa.specs.View as view
use Rattle.ws_isa.specs.Shows.{image_of, block_in}
use Rattle.ws_isa.proofs.Quiet.{goto_crossed}
use Rattle.ws_isa.proofs.walker.Walker.cross.Goals as goal

pub returns-in-Goto-clause-operands : goal.returns-in-Goto-clause-operands
returns-in-Goto-clause-operands c =
    let p = c.args.program.now in
    let goes : (block_in p c.args.place).exit ≡ Goto c.in-Goto.field-0 =
    ap (λ (b : plain.Block). b.exit) (sym c.block-block.ensures) ∙ ap view.exit c.in-Goto.is in
    goto_crossed p c.requires.walks c.args.place c.requires.place c.in-Goto.field-0 goes
    (block_in p c.args.next).pads c.args.choice (first_number (image_of p) (suc c.args.place))
    c.args.self.now.table.results c.args.self.now.table.operands
